-- `carrier` meets its contract: each turn goes along a run of nodes that carry no token, and to the parent of its last one.
use Rattle.trie.specs.Lent.{tables_of}
use Rattle.scan.specs.Ways.{Climbs, Nears}
use Rattle.scan.proofs.hits.carrier.Given as goal

abbrev pub invariant-loop-at : goal.invariant-loop-at
invariant-loop-at l = let t = tables_of l.tables in Climbs t l.node × Nears t l.node l.at

abbrev pub decreases-loop-at : goal.decreases-loop-at
decreases-loop-at l = l.at
