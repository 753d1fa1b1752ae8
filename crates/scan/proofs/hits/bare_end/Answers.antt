use native.Mathlib.Omega.{arith}
use mathlib.Core.Path.{sym, ◌∙◌}
use Rattle.scan.proofs.Laws.Hits.{nears-above}
use Rattle.scan.proofs.hits.bare_end.Goals as goal

pub loop-at-preserved : goal.loop-at-preserved
loop-at-preserved c = let i = c.loop-at.invariant in
    (i.0, nears-above i.0 i.1 (omega arith) c.if-tables-at-eq0.true _ (sym c.if-from-below.false ∙ c.from.ensures), omega arith)
