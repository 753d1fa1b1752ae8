use Prim.Native.Nat.{◌+◌, ◌-◌, ◌<◌}
use native.Mathlib.Omega.{arith}
use mathlib.Core.Path.{◌≡◌}
use Rattle.tables.specs.Walks.{depth}
use Rattle.trie.specs.Lent.{tables_of}
use Rattle.trie.proofs.Laws.NodeByNode.{depth-up, depth_le}
use Rattle.trie.proofs.climbs.depth_at.Goals as goal
use Rattle.trie.proofs.climbs.depth_at.Goals.{After-climb}

-- A node lies one deeper than its parent.
deeper : (c : After-climb) → let t = tables_of c.args.tables.now in
    (c.args.above < c.args.node) × (depth t c.args.node ≡ depth t c.args.above + 1)
deeper c = depth-up (tables_of c.args.tables.now) c.args.node c.args.above c.requires.0 (λ e. omega (arith, c.requires.2)) c.requires.3

pub overflow_add-result : goal.overflow_add-result
overflow_add-result c = omega (arith, depth_le (tables_of c.args.tables.now) (c.args.node - 1), c.requires.4)

pub overflow_add-result-else-above-node : goal.overflow_add-result-else-above-node
overflow_add-result-else-above-node c =
    omega (arith, depth_le (tables_of c.args.tables.now) c.args.above, c.climb.ensures, (deeper (goal.at.overflow_add-result-else-above-node c).After-climb).0)

pub returns-else-above-node : goal.returns-else-above-node
returns-else-above-node c = omega (arith, (deeper (goal.at.returns-else-above-node c).After-climb).1, c.climb.ensures)
