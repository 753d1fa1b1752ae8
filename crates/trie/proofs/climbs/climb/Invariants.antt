-- `climb` meets its contract: the steps so far and the depth of the node reached make the depth. Each parent is a smaller node.
use Rattle.trie.specs.Lent.{tables_of}
use Rattle.trie.proofs.Laws.NodeByNode.{Climbing}
use Rattle.trie.proofs.climbs.climb.Given as goal

abbrev pub invariant-loop-at : goal.invariant-loop-at
invariant-loop-at l = Climbing (tables_of l.tables) l.node l.at l.steps

abbrev pub decreases-loop-at : goal.decreases-loop-at
decreases-loop-at l = l.at
