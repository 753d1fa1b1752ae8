-- The hits of a round over tables, by climbing: a node's own, then those of its parent; so those of a node are those of the nearest one
-- that carries a token.
use Rattle.std.specs.Prelude.{ℕ, zero, suc, ◌-◌, ◌≤◌, ◌<◌, ◌≡◌, refl, List, ◌++◌, length}
use Rattle.std.proofs.Common.{arith, ap, sym, subst, ◌∙◌}
use Rattle.rules.specs.Rules.{Tree, Event, hit_at, hits_up}
use Rattle.rules.proofs.Laws.Tests.{split}
use Rattle.tables.specs.Tables.{Tables}
use Rattle.tables.specs.Walks.{depth, lifted, nearest, carrier, of_tables}
use Rattle.tables.specs.Shape.{up, Falling, num}
use Rattle.tables.proofs.Laws.Shape.{way_step}

-- The nearest node that carries a token, step by step.
module _ (t : Tables) (count : ℕ) (f : Falling t count) where
  nearest-root : (fuel : ℕ) → nearest t fuel 0 ≡ 0
  nearest-root zero = refl
  nearest-root (suc fuel) = go (num t 0) (nearest-root fuel)
    where
      go : (n : ℕ) → nearest t fuel 0 ≡ 0 → ◌≡◌ {A = ℕ} (elim n [ zero ↦ nearest t fuel (up t 0) | suc i ↦ 0 ]) 0
      go zero ih = ap (nearest t fuel) f.root-up ∙ ih
      go (suc i) ih = refl

  -- with steps enough, how many there are does not matter
  nearest-same : (a b v : ℕ) → v ≤ a → v ≤ b → v < count → nearest t a v ≡ nearest t b v
  nearest-same zero b v h k l = let z : v ≡ 0 = omega arith in rw z (sym (nearest-root b))
  nearest-same (suc a) zero v h k l = let z : v ≡ 0 = omega arith in rw z (nearest-root (suc a))
  nearest-same (suc a) (suc b) v h k l =
      split v 0 (λ z. rw z (nearest-root (suc a) ∙ sym (nearest-root (suc b))))
      (λ z. let r = f.ups v (omega arith) l in
      ap {B = ℕ} (λ w. elim (num t v) [ zero ↦ w | suc i ↦ v ]) (nearest-same a b (up t v) (omega arith) (omega arith) (omega arith)))

  pub carrier-here : (v : ℕ) → (num t v ≡ 0 → ⊥) → carrier t v ≡ v
  carrier-here zero h = refl
  carrier-here (suc v) h = go (num t (suc v)) h
    where
      go : (n : ℕ) → (n ≡ 0 → ⊥) → ◌≡◌ {A = ℕ} (elim n [ zero ↦ nearest t v (up t (suc v)) | suc i ↦ suc v ]) (suc v)
      go zero h = absurd (h refl)
      go (suc i) h = refl

  pub carrier-above : (v : ℕ) → 0 < v → v < count → num t v ≡ 0 → carrier t v ≡ carrier t (up t v)
  carrier-above zero a h e = absurd (omega arith)
  carrier-above (suc v) a h e =
      let r = f.ups (suc v) a h in
      ap {B = ℕ} (λ n. elim n [ zero ↦ nearest t v (up t (suc v)) | suc i ↦ suc v ]) e
      ∙ nearest-same v (up t (suc v)) (up t (suc v)) (omega arith) (omega arith) (omega arith)

module _ (t : Tables) (count : ℕ) (f : Falling t count) (S end : ℕ) where
  abbrev tree : Tree ℕ
  tree = of_tables t count S

  -- the hits of node v
  abbrev pub hits_from : ℕ → List (Event ℕ)
  hits_from v = hits_up tree end v (depth t v)

  pub deeper : (v : ℕ) → 0 < v → v < count → depth t v ≡ suc (depth t (up t v))
  deeper v a h = ap length (way_step t count f v a h)

  hits-above : (v : ℕ) → 0 < v → v < count → (k : ℕ) → k ≤ depth t (up t v) → hits_up tree end v k ≡ hits_up tree end (up t v) k
  hits-above v a h zero l = refl
  hits-above v a h (suc k) l =
      let z : depth t v - suc k ≡ suc (depth t (up t v) - suc k) = omega (arith, deeper v a h) in
      ap (λ n. hit_at end (num t (lifted t n v)) ++ hits_up tree end v k) z
      ∙ ap (λ es. hit_at end (num t (lifted t (depth t (up t v) - suc k) (up t v))) ++ es) (hits-above v a h k (omega arith))

  -- Its own, then those of its parent.
  pub hits-climb : (v : ℕ) → 0 < v → v < count → hits_from v ≡ hit_at end (num t v) ++ hits_from (up t v)
  hits-climb v a h =
      let d = deeper v a h in
      let z : depth t v - suc (depth t (up t v)) ≡ 0 = omega arith in
      ap (hits_up tree end v) d
      ∙ ap (λ n. hit_at end (num t (lifted t n v)) ++ hits_up tree end v (depth t (up t v))) z
      ∙ ap (λ es. hit_at end (num t v) ++ es) (hits-above v a h (depth t (up t v)) (omega arith))

  -- What the nearest node that carries a token is to a node below it.
  pub record Carries (v w : ℕ) : Type 0 where
    pub below : w ≤ v
    pub deep : depth t w ≤ depth t v
    pub marked : 0 < w → 1 ≤ num t w
    pub same : hits_from v ≡ hits_from w

  nearest-carries : (fuel v : ℕ) → v ≤ fuel → v < count → Carries v (nearest t fuel v)
  nearest-carries zero v l h =
      let z : v ≡ 0 = omega arith in
      rw z (record { below = omega arith; deep = omega arith; marked = λ a. absurd (omega arith); same = refl })
  nearest-carries (suc fuel) v l h = go (num t v) refl (nearest-carries fuel)
    where
      go : (n : ℕ) → num t v ≡ n → ((v : ℕ) → v ≤ fuel → v < count → Carries v (nearest t fuel v))
          → Carries v (elim n [ zero ↦ nearest t fuel (up t v) | suc i ↦ v ])
      go (suc i) e ih = record { below = omega arith; deep = omega arith; marked = λ _. omega arith; same = refl }
      go zero e ih =
          split v 0
          (λ z. subst (λ v. Carries v (nearest t fuel (up t v))) (sym z) (rw f.root-up (ih 0 (omega arith) f.size)))
          (λ ne.
          let a : 0 < v = omega arith in
          let c = ih (up t v) (omega (arith, f.ups v a h)) (omega (arith, f.ups v a h)) in
          record {
            below = omega (arith, c.below, f.ups v a h);
            deep = omega (arith, c.deep, deeper v a h);
            marked = c.marked;
            same = hits-climb v a h ∙ ap (λ n. hit_at end n ++ hits_from (up t v)) e ∙ c.same;
          })

  pub carrier-carries : (v : ℕ) → v < count → Carries v (carrier t v)
  carrier-carries v h = nearest-carries v v (omega arith) h
