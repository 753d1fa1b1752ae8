-- `root_children` meets its contract: what is not gathered yet is found from here on (`Gathering`).
use Rattle.trie.proofs.Laws.Kids.{Gathering}
use Rattle.trie.proofs.chain.root_children.Given as goal

abbrev pub invariant-loop-left : goal.invariant-loop-left
invariant-loop-left l = Gathering l.tables.label.now l.tables.first.now l.tables.next.now l.count l.kids l.at l.left

abbrev pub decreases-loop-left : goal.decreases-loop-left
decreases-loop-left l = l.left
