use native.Mathlib.Omega.{arith}
use Rattle.image.proofs.Laws.Skim.{lead-on, lead-four, skimming, short-some, cached-upto}
use Rattle.image.proofs.caches.Caches.stride.Goals as goal

pub full-requires : goal.full-requires
full-requires c = let g = c.requires in
    let i = c.loop-at.invariant in
    record { numbers = (i.positive, omega (arith, i.near), (short-some g).1); upto = cached-upto g }

pub loop-at-smaller : goal.loop-at-smaller
loop-at-smaller c = let f = c.full.ensures c.loop-at-test.true in
    omega (arith, short-some c.requires, f.four.inside)

pub loop-at-preserved : goal.loop-at-preserved
loop-at-preserved c = let g = c.requires in
    let i = c.loop-at.invariant in
    skimming g (omega (arith, i.up)) (lead-on i.leads (lead-four (short-some g).0 (c.full.ensures c.loop-at-test.true)))
