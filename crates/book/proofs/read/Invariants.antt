-- `read` meets its contract. The loop's invariant is `Walk`: the rest of the run from here is the whole run.
use Prim.Native.Nat.{◌-◌}
use lib.ListN.{length}
use Rattle.book.proofs.Laws.Read.{Walk}
use Rattle.book.proofs.read.Given as goal

abbrev pub invariant-loop-at : goal.invariant-loop-at
invariant-loop-at l = Walk l.book l.at l.totals l.filter

abbrev pub decreases-loop-at : goal.decreases-loop-at
decreases-loop-at l = length l.book - l.at
