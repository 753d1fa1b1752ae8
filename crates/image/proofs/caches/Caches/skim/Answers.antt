use Prim.Native.Nat.{◌+◌}
use native.Mathlib.Omega.{arith}
use Rattle.image.proofs.Laws.Skim.{Skimming, lead-on, skimming, skimmable-on}
use Rattle.image.proofs.caches.Caches.skim.Goals.{After-hop-on}
use Rattle.image.proofs.caches.Caches.skim.Goals as goal

-- with the rounds that come next
on : (c : After-hop-on) → let a = c.args in
    let r = c.hop-on.result in
    Skimming a.image.now a.self.now a.shortest a.b r.boundary (c.loop-at.looks + r.looks)
on c =
    let i = c.loop-at.invariant in
    let e = c.hop-on.ensures.0 in
    skimming c.requires (omega (arith, i.up, e.up)) (lead-on i.leads e.leads)

pub hop-on-requires : goal.hop-on-requires
hop-on-requires c = (skimmable-on c.requires c.loop-at.invariant, c.loop-at-test.true)

pub overflow_add-looks : goal.overflow_add-looks
overflow_add-looks c = omega (arith, (on (goal.at.overflow_add-looks c).After-hop-on).few)

pub loop-at-preserved : goal.loop-at-preserved
loop-at-preserved c = on (goal.at.loop-at-preserved c).After-hop-on
