-- The loops that climb from a node to the root.
use Prim.Native.Nat.{ℕ, zero, suc, ◌+◌, ◌-◌, ◌≤◌, ◌<◌}
use native.Mathlib.Nat.{zero-add}
use native.Mathlib.Numerals.{add-one}
use native.Mathlib.Omega.{arith}
use mathlib.Core.Path.{◌≡◌, refl, ap, sym, ◌∙◌}
use mathlib.Core.List.{List, [], ◌∷◌}
use lib.ListN.{length, get_or, set}
use lib.Seq.{sets, sets-eq}
use Rattle.rules.proofs.Laws.Tests.{split}
use Rattle.rules.specs.Lists.{over}
use Rattle.tables.specs.Walks.{ending, depth, lifted}
use Rattle.tables.specs.Shape.{Falling}
use Rattle.tables.proofs.Laws.Shape.{way_step}
use Rattle.tables.specs.Tables.{Tables}
use Rattle.scan.specs.Ways.{Along, Run}

-- What is left to write of a node's ending: that of `at`, from index n on.
pub record Spelling (t : Tables) (count node : ℕ) (into₀ into : List ℕ) (at n : ℕ) : Type 0 where
  pub below : at < count
  pub sum : n + depth t at ≡ depth t node
  pub rest : sets into n (ending t at) ≡ sets into₀ 0 (ending t node)

module _ {t : Tables} {count : ℕ} (falls : Falling t count) where
  pub parent-below : (at : ℕ) → at < count → get_or t.parent at 0 < count
  parent-below at h = split at 0 (λ e. rw e (omega (arith, falls.root-up, falls.size))) (λ e. omega (arith, falls.ups at (omega arith) h))

  module _ {node : ℕ} {into₀ into : List ℕ} {at n : ℕ} (s : Spelling t count node into₀ into at n) (up : at ≡ 0 → ⊥) where
    step : ending t at ≡ get_or t.label at 0 ∷ ending t (get_or t.parent at 0)
    step = way_step t count falls at (omega arith) s.below

    pub room : n < depth t node
    room = omega (arith, s.sum, ap length step)

    pub spelling-again : (w : ℕ) → w ≡ get_or t.parent at 0
        → Spelling t count node into₀ (set into n (get_or t.label at 0)) w (n + 1)
    spelling-again w e = rw e (record {
      below = parent-below at s.below;
      sum = omega (arith, s.sum, ap length step);
      rest = rw add-one (sym (ap (sets into n) step) ∙ s.rest);
    })

  -- A run of nodes, written one after another.
  module _ {node n : ℕ} {into after : List ℕ} {at to : ℕ} (s : Along t node n into at to after) (below : node < count) where
    run_step : ending t at ≡ get_or t.label at 0 ∷ ending t (get_or t.parent at 0)
    run_step = way_step t count falls at s.up (omega (arith, s.high))

    pub run-again : 1 < at → get_or t.parent at 0 ≡ at - 1 → Along t node n into (at - 1) (to + 1) (set after to (get_or t.label at 0))
    run-again h e = rw (sym e) (record {
      up = omega arith;
      high = omega (arith, s.high);
      sum = omega (arith, s.sum, ap length run_step);
      rest = rw add-one (sym (ap (sets after to) run_step) ∙ s.rest);
    })

-- Spelling goes on behind a run.
pub spelling-runs : {t : Tables} {count node : ℕ} {into₀ into after : List ℕ} {at n end to : ℕ}
    → Spelling t count node into₀ into at n → Along t at n into end to after
    → Spelling t count node into₀ after end to
spelling-runs s a = record {
  below = omega (arith, s.below, a.high);
  sum = omega (arith, s.sum, a.sum);
  rest = a.rest ∙ s.rest;
}

pub spelling-done : (t : Tables) (count node : ℕ) (into₀ into : List ℕ) (at n : ℕ)
    → Spelling t count node into₀ into at n → at ≡ 0 → depth t node ≤ length into₀
    → (n ≡ depth t node) × (into ≡ over (ending t node) into₀)
spelling-done t count node into₀ into at n s e h =
    let u = ending t node in
    let z : ending t at ≡ [] = ap (ending t) e in (
      omega (arith, s.sum, ap length z),
      sym (ap (sets into n) z) ∙ s.rest ∙ sets-eq u into₀ 0 (omega arith) ∙ rw zero-add,
    )

-- What is left of a climb.
pub lift-again : (t : Tables) (at left w : ℕ) → (left ≡ 0 → ⊥) → w ≡ get_or t.parent at 0
    → lifted t (left - 1) w ≡ lifted t left at
lift-again t at zero w h e = absurd (h refl)
lift-again t at (suc left) w h e =
    let z : suc left - 1 ≡ left = omega arith in
    rw (z, e)

-- Above the root is the root.
lifted-root : (t : Tables) → get_or t.parent 0 0 ≡ 0 → (k : ℕ) → lifted t k 0 ≡ 0
lifted-root t e zero = refl
lifted-root t e (suc k) = rw e (lifted-root t e k)

module _ {t : Tables} {count : ℕ} (falls : Falling t count) {node low at : ℕ} (r : Run t node low at) where
  pub run-climbs : node < count → low < at → get_or t.parent at 0 ≡ at - 1 → Run t node low (at - 1)
  run-climbs h up e = rw (sym e) (record {
    bound = omega arith;
    high = omega (arith, r.high);
    deep = omega (arith, r.deep, ap length (way_step t count falls at (omega arith) (omega (arith, r.high))));
    lift = λ k. let z : k + (node - get_or t.parent at 0) ≡ suc k + (node - at) = omega (arith, r.high) in rw z (r.lift (suc k));
  })

  -- Where a lift ends in the run.
  pub lift-ends : (left : ℕ) → low ≡ node - left → at ≡ low → at ≡ lifted t left node
  lift-ends left e f =
      let k = left - (node - at) in
      let z : left ≡ k + (node - at) = omega (arith, r.high) in
      let stays : lifted t k at ≡ at =
      split k 0 (λ q. ap (λ n. lifted t n at) q)
      (λ q. let o : at ≡ 0 = omega arith in ap (lifted t k) o ∙ lifted-root t falls.root-up k ∙ sym o) in
      sym (ap (λ n. lifted t n node) z ∙ r.lift k ∙ stays)

  -- And where it goes on behind it.
  pub lift-goes : (left w : ℕ) → low ≡ node - left → (at ≡ low → ⊥) → w ≡ get_or t.parent at 0
      → lifted t (left - (node - at + 1)) w ≡ lifted t left node
  lift-goes left w e f q =
      let k = left - (node - at) in
      let z : left ≡ k + (node - at) = omega (arith, r.bound, r.high) in
      let y : left - (node - at + 1) ≡ k - 1 = omega arith in
      ap (λ n. lifted t n w) y ∙ lift-again t at k w (λ o. omega (arith, r.bound, r.high)) q ∙ sym (r.lift k)
      ∙ sym (ap (λ n. lifted t n node) z)
