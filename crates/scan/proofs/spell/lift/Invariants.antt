-- `lift` meets its contract: each turn goes along a run, and to the parent of its last node, and so many nodes less are left to go.
use Prim.Native.Nat.{◌<◌}
use mathlib.Core.Path.{◌≡◌}
use Rattle.tables.specs.Walks.{lifted}
use Rattle.trie.specs.Lent.{tables_of}
use Rattle.scan.specs.Ways.{Climbs}
use Rattle.scan.proofs.spell.lift.Given as goal

abbrev pub invariant-loop-left : goal.invariant-loop-left
invariant-loop-left l = let t = tables_of l.tables in (s : Climbs t l.node) × (l.at < s.count) × (lifted t l.left l.at ≡ lifted t l.n l.node)

abbrev pub decreases-loop-left : goal.decreases-loop-left
decreases-loop-left l = l.left
