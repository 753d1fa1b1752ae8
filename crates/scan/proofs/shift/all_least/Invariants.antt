-- `all_least` meets its contract: the best so far is that of the nodes passed.
use Prim.Native.Nat.{◌-◌, ◌≤◌}
use Rattle.trie.specs.Lent.{tables_of}
use Rattle.scan.proofs.Laws.Shift.{Lowered}
use Rattle.scan.proofs.shift.all_least.Given as goal

abbrev pub invariant-loop-v : goal.invariant-loop-v
invariant-loop-v l =
    (l.v ≤ l.count) × Lowered (tables_of l.tables) l.deep l.x l.shortest l.best l.v

abbrev pub decreases-loop-v : goal.decreases-loop-v
decreases-loop-v l = l.count - l.v
