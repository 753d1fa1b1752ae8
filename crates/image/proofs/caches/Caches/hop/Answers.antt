-- `hop` meets its contract: by the cache of first bytes, by that of pairs, or nowhere.
use Prim.Native.Nat.{◌+◌}
use native.Mathlib.Omega.{arith}
use Rattle.image.proofs.Laws.Skim.{Skimming, lead-on, lead-one, lead-two, skimming, skimmable-on}
use Rattle.image.proofs.caches.Caches.hop.Goals.{Else-by-eq0, Else-two-eq0, After-stride-on}
use Rattle.image.proofs.caches.Caches.hop.Goals as goal

-- the round that the cache of first bytes has
one : (c : Else-by-eq0) → let a = c.args in Skimming a.image.now a.self.now a.shortest a.b (a.b + c.skip_at-by.result) 1
one c = skimming c.requires.0 (omega arith) (lead-one c.skip_at-by.ensures.0 c.if-by-eq0.false)

-- the round that the cache of pairs has
two : (c : Else-two-eq0) → let a = c.args in Skimming a.image.now a.self.now a.shortest a.b (a.b + c.pair_at-two.result) 2
two c = skimming c.requires.0 (omega arith) (lead-two (c.pair_at-two.ensures.0 c.if-two-eq0.false) c.if-two-eq0.false)

-- the first, with those after it
all : (c : After-stride-on) → let a = c.args in
    let r = c.stride-on.result in
    Skimming a.image.now a.self.now a.shortest a.b r.boundary (1 + r.looks)
all c =
    let e = c.stride-on.ensures in
    let k = lead-one c.skip_at-by.ensures.0 c.if-by-eq0.false in
    skimming c.requires.0 (omega (arith, e.up)) (lead-on k e.leads)

pub returns-then-by-eq0 : goal.returns-then-by-eq0
returns-then-by-eq0 c = let k = two c in (record { leads = k.leads; up = k.up }, λ _. omega (arith, c.if-two-eq0.false))

pub stride-on-requires : goal.stride-on-requires
stride-on-requires c = skimmable-on c.requires.0 (one (goal.at.stride-on-requires c).Else-by-eq0)

pub overflow_add-result-2 : goal.overflow_add-result-2
overflow_add-result-2 c = omega (arith, (all (goal.at.overflow_add-result-2 c).After-stride-on).few)

pub returns : goal.returns
returns c =
    let k = all (goal.at.returns c).After-stride-on in
    (record { leads = k.leads; up = k.up }, λ _. omega (arith, c.if-by-eq0.false, c.stride-on.ensures.up))
