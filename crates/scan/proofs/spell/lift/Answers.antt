use native.Mathlib.Omega.{arith}
use mathlib.Core.Path.{◌∙◌}
use Rattle.scan.proofs.Laws.Spell.{parent-below, lift-ends, lift-goes}
use Rattle.scan.proofs.spell.lift.Goals as goal

pub returns-then-end-low : goal.returns-then-end-low
returns-then-end-low c = let l = c.loop-left in
    lift-ends l.invariant.0.tree.falling c.run_end-end.ensures l.left c.saturating_sub-low.ensures c.if-end-low.true ∙ l.invariant.2

pub loop-left-preserved : goal.loop-left-preserved
loop-left-preserved c = let l = c.loop-left in
    let s = l.invariant.0 in
    let r = c.run_end-end.ensures in (
      s,
      rw c.from-at.ensures (parent-below s.tree.falling c.run_end-end.result (omega (arith, r.high, l.invariant.1))),
      lift-goes s.tree.falling r l.left c.from-at.result c.saturating_sub-low.ensures c.if-end-low.false
          c.from-at.ensures
          ∙ l.invariant.2,
    )
