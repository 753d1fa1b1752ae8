use mathlib.Core.Path.{sym, ◌∙◌}
use Rattle.image.proofs.Laws.SpansHold.{holding-dropped, holding-put}
use Rattle.image.proofs.spans.Spans.hold.Goals.{then-stays, else-stays}
use Rattle.image.proofs.spans.Spans.hold.Goals as goal

pub loop-i-preserved : goal.loop-i-preserved
loop-i-preserved c =
    let h = c.loop-i-test.true in
    let e = c.stays.ensures in
    elim c.if-stays.branch [
      | then-stays w ↦ rw (w.self-is, w.n-is) (holding-put c.loop-i.invariant h _ (sym e ∙ w.if-stays.true))
      | else-stays w ↦ rw (w.self-is, w.n-is) (holding-dropped c.loop-i.invariant h _ (sym e ∙ w.if-stays.false))
    ]
