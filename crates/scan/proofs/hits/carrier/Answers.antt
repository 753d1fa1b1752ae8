use Rattle.scan.proofs.Laws.Hits.{nears-on, nears-here, nears-above}
use Rattle.scan.proofs.hits.carrier.Goals as goal

pub loop-at-preserved : goal.loop-at-preserved
loop-at-preserved c = let i = c.loop-at.invariant in
    let r = c.bare_end-end.ensures in
    (i.0, nears-above i.0 (nears-on i.1 r.0) r.1 c.if-tables-end-ne0.false _ c.from-at.ensures)

pub returns-then-tables-end-ne0 : goal.returns-then-tables-end-ne0
returns-then-tables-end-ne0 c = let i = c.loop-at.invariant in
    nears-here i.0 (nears-on i.1 c.bare_end-end.ensures.0) c.if-tables-end-ne0.true
