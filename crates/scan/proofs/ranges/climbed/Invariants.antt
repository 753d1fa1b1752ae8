-- `climbed` meets its contract: each turn goes along a run, and to the parent of its last node, which is one less deep.
use Rattle.trie.specs.Lent.{tables_of}
use Rattle.scan.specs.Ways.{Climbs}
use Rattle.scan.proofs.Laws.RangesDepth.{Climb}
use Rattle.scan.proofs.ranges.climbed.Given as goal

abbrev pub invariant-loop-at : goal.invariant-loop-at
invariant-loop-at l = let t = tables_of l.tables in (s : Climbs t l.node) × Climb t s.count l.node l.at l.n

abbrev pub decreases-loop-at : goal.decreases-loop-at
decreases-loop-at l = l.at
