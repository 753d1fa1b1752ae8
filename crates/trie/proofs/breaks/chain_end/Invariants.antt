-- `chain_end` meets its contract: the chain so far, and one node more.
use Prim.Native.Nat.{◌-◌, ◌≤◌}
use Rattle.trie.specs.Lent.{tables_of}
use Rattle.trie.specs.NodeByNode.{Chain}
use Rattle.trie.proofs.breaks.chain_end.Given as goal

abbrev pub invariant-loop-at : goal.invariant-loop-at
invariant-loop-at l = Chain (tables_of l.tables) l.count l.node l.at × (l.at ≤ l.last)

abbrev pub decreases-loop-at : goal.decreases-loop-at
decreases-loop-at l = l.last - l.at
