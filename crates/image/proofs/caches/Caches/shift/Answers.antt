-- `shift` meets its contract: the greater of the two shifts, or the node's entry where no byte ended the round.
use native.Mathlib.Omega.{arith}
use mathlib.Core.Path.{ap}
use lib.ListN.{get_or}
use Rattle.image.specs.Rule5.{words_in}
use Rattle.rules.specs.Options.{option_of}
use Rattle.image.proofs.Laws.Rule5.{shortest-near}
use Rattle.image.proofs.Laws.Caches.{byte_one, shift-deep}
use Rattle.image.proofs.caches.Caches.shift.Goals as goal

pub overflow_sub-sweep : goal.overflow_sub-sweep
overflow_sub-sweep c = omega (arith, shortest-near c.requires.book)

pub returns-then-sweep-end : goal.returns-then-sweep-end
returns-then-sweep-end c =
    let a = c.args in record {
      shift = shift-deep (words_in a.sweep.now.book.now) a.sweep.now.shortest a.end.now.depth (get_or a.sweep.now.tables.shift.now a.end.now.node 0) c.from-by.result c.from-by.ensures (option_of a.end.now.closing)
          c.requires.entry.1 c.in-Some.x (ap option_of c.in-Some.is) (byte_one c.requires.book a.end.now.depth c.in-Some.x c.if-sweep-end.true);
      right = c.requires.right;
    }
