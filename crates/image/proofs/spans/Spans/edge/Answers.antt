use mathlib.Core.Path.{◌∙◌}
use Rattle.rules.proofs.Laws.Remember.{edge-begins, edge-done, edge-again}
use Rattle.image.proofs.Laws.Spans.{more, past, farther-left, farther-right}
use Rattle.image.proofs.spans.Spans.edge.Goals.{then-s-from, else-s-from}
use Rattle.image.proofs.spans.Spans.edge.Goals as goal

pub loop-s-init : goal.loop-s-init
loop-s-init c = edge-begins _ _

pub loop-s-preserved : goal.loop-s-preserved
loop-s-preserved c =
    edge-again (rw (more _ _ (record { left = 0; right = 0 }) c.loop-s-test.true) at c.loop-s.invariant) _
    (elim c.if-s-from.branch [
      | then-s-from w ↦ farther-left _ _ _ w.if-s-from.true (w.far-is ∙ w.max-far.ensures)
      | else-s-from w ↦ farther-right _ _ _ w.if-s-from.false w.far-is
    ])

pub returns : goal.returns
returns c = edge-done (rw (past _ _ c.loop-s-test.false) at c.loop-s.invariant)
