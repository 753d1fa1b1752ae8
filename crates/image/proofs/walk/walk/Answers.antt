use Prim.Native.Nat.{◌-◌}
use native.Mathlib.Omega.{arith}
use mathlib.Core.Path.{refl}
use lib.ListN.{get_or}
use Rattle.image.proofs.Laws.Walk.{goes_on, stops-leaf, stops-edge}
use Rattle.image.proofs.Laws.WalkDescend.{descend-done, descend-shut, more-depth, descend-again}
use Rattle.image.proofs.walk.walk.Goals as goal

pub returns-in-None : goal.returns-in-None
returns-in-None c =
    let a = c.args in
    let l = c.loop-node in
    let on = goes_on (get_or a.sweep.now.tables.first.now l.node 0) l.depth a.b c.loop-node-test.true c.if-depth-b.true in
    descend-shut l.invariant.0 a.sweep.now.image.now a.b l.invariant.1 on (get_or a.sweep.now.image.now (a.b - 1 - l.depth) 0) refl c.child.result c.child.ensures
    c.in-None.is

pub keep-met-requires : goal.keep-met-requires
keep-met-requires c =
    let a = c.args in
    let l = c.loop-node in
    let on = goes_on (get_or a.sweep.now.tables.first.now l.node 0) l.depth a.b c.loop-node-test.true c.if-depth-b.true in
    omega (
      arith,
      l.invariant.1.few,
      l.invariant.2,
      c.requires.room,
      more-depth l.invariant.0 a.sweep.now.image.now a.b l.invariant.1 on (get_or a.sweep.now.image.now (a.b - 1 - l.depth) 0) refl c.child.result c.child.ensures
          c.in-Some.v c.in-Some.is c.if-depth-b.true,
    )

pub loop-node-preserved : goal.loop-node-preserved
loop-node-preserved c =
    let a = c.args in
    let l = c.loop-node in
    let on = goes_on (get_or a.sweep.now.tables.first.now l.node 0) l.depth a.b c.loop-node-test.true c.if-depth-b.true in (
      l.invariant.0,
      descend-again l.invariant.0 a.sweep.now.image.now a.b l.invariant.1 on (get_or a.sweep.now.image.now (a.b - 1 - l.depth) 0) refl c.child.result c.child.ensures
          c.in-Some.v c.in-Some.is c.if-depth-b.true c.keep-met.new.kept c.keep-met.result c.keep-met.ensures.size c.keep-met.ensures.kept,
      omega (arith, l.invariant.2),
    )

pub returns-else-depth-b : goal.returns-else-depth-b
returns-else-depth-b c =
    let a = c.args in
    let l = c.loop-node in
    descend-done l.invariant.0 a.sweep.now.image.now a.b l.invariant.1 (stops-edge (get_or a.sweep.now.tables.first.now l.node 0) l.depth a.b c.if-depth-b.false)

pub returns-after-loop-node : goal.returns-after-loop-node
returns-after-loop-node c =
    let a = c.args in
    let l = c.loop-node in
    descend-done l.invariant.0 a.sweep.now.image.now a.b l.invariant.1 (stops-leaf (get_or a.sweep.now.tables.first.now l.node 0) l.depth a.b c.loop-node-test.false)
