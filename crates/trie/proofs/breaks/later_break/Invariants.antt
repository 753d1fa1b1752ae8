-- `later_break` meets its contract: the nodes so far passed (`Passing`), the chain's passes with its depths (`Standing`), so the
-- rest of the search is the whole of it.
use Prim.Native.Nat.{◌-◌}
use Rattle.trie.specs.Lent.{tables_of}
use Rattle.trie.proofs.Laws.NodeByNode.{Passing}
use Rattle.trie.proofs.breaks.later_break.Given as goal

abbrev pub invariant-loop-node : goal.invariant-loop-node
invariant-loop-node l = Passing (tables_of l.tables) l.count l.node l.depth

abbrev pub decreases-loop-node : goal.decreases-loop-node
decreases-loop-node l = l.count - l.node
