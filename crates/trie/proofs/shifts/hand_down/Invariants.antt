-- `hand_down` meets its contract: the nodes from v on are still to come (`Handing`).
use mathlib.Core.Path.{◌≡◌}
use lib.ListN.{length}
use Rattle.trie.specs.Filling.{lows}
use Rattle.trie.proofs.Laws.FillingInPlace.{Handing}
use Rattle.trie.proofs.shifts.hand_down.Given as goal

abbrev pub invariant-loop-v : goal.invariant-loop-v
invariant-loop-v l =
    Handing l.parent l.count (lows l.initial.met l.initial.whole) (lows l.met l.whole) l.v × (length l.met ≡ length l.initial.met) × (length l.whole ≡ length l.initial.whole)
