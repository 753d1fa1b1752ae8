use native.Mathlib.Omega.{arith}
use Rattle.sweep.proofs.Laws.Parts.{goes_on}
use Rattle.sweep.proofs.parts.list.Goals as goal

pub loop-at-smaller : goal.loop-at-smaller
loop-at-smaller g c = let j = c.args.job.now in
    let further = goes_on j.book.now j.image.now j.totals c.loop-at.at j.known c.loop-at-test.true in
    omega (arith, c.sweep-part.ensures.ends_at)
