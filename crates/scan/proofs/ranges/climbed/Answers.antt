use native.Mathlib.Omega.{arith}
use Rattle.scan.proofs.Laws.RangesDepth.{climb-room, climb-again, climb-runs}
use Rattle.scan.proofs.ranges.climbed.Goals as goal

pub loop-at-init : goal.loop-at-init
loop-at-init c = (c.requires, record { below = c.requires.below; sum = omega arith })

pub overflow_add-n-in-loop-at : goal.overflow_add-n-in-loop-at
overflow_add-n-in-loop-at c = let i = c.loop-at.invariant in
    let r = c.run_end-end.ensures in
    omega (arith, climb-room i.0.tree.falling (climb-runs i.1 r) (λ z. omega (arith, r.bound)))

pub loop-at-preserved : goal.loop-at-preserved
loop-at-preserved c = let i = c.loop-at.invariant in
    let r = c.run_end-end.ensures in
    (i.0, climb-again i.0.tree.falling (climb-runs i.1 r) (λ z. omega (arith, r.bound)) _ _ c.from-at.ensures (omega arith))
