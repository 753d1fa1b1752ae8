use Prim.Native.Nat.{◌+◌, ◌<◌}
use native.Mathlib.Omega.{arith}
use Rattle.trie.specs.Lent.{tables_of}
use Rattle.trie.proofs.Laws.NodeByNode.{Climbing, climb-on}
use Rattle.trie.proofs.climbs.climb.Goals as goal

-- a turn of the loop
on : (c : goal.After-from-at) → (c.from-at.result < c.loop-at.at)
    × (c.loop-at.steps < c.args.node)
    × Climbing (tables_of c.args.tables.now)
    c.args.node c.from-at.result (c.loop-at.steps + 1)
on c =
    let l = c.loop-at in
    climb-on (tables_of c.args.tables.now) c.args.node l.at l.steps c.from-at.result c.requires.0 l.invariant c.loop-at-test.true c.from-at.ensures

pub overflow_add-steps : goal.overflow_add-steps
overflow_add-steps c = omega (arith, (on c).1)

pub loop-at-preserved : goal.loop-at-preserved
loop-at-preserved c = (on c).2
