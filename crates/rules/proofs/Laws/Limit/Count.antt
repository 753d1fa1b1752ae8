-- What remembered stretches are worth. `worth b ss`: how far each stretch is from being dropped at
-- b, in all. When a round ends, what was `loose` is in the worth of the new stretch.
use Rattle.std.specs.Prelude.{ℕ, suc, ◌+◌, ◌-◌, ◌*◌, ◌≤◌, ◌<◌, max, ◌≡◌, refl, ◌&&◌, List, [], ◌∷◌, ◌++◌, leb, ltb, length}
use Rattle.std.proofs.Math.Option.{Option, none}
use Rattle.std.proofs.Common.{arith, leb-false, ltb-true, ltb-false}
use Rattle.rules.specs.Rules.{Tree, Stretch, recall, left_over, cut, kept}
use Rattle.rules.specs.Lists.{select}
use Rattle.rules.proofs.Laws.Tests.{decide, and-n}
use Rattle.rules.proofs.Laws.Limit.Span.{Laid}
use Rattle.rules.specs.Stretches.{loose, Spans}

module _ {E : Type 0} where
  abbrev pub worth : ℕ → List (Stretch E) → ℕ
  worth b [] = 0
  worth b (s ∷ ss) = (5 * s.right - (4 * b + s.left)) + worth b ss

  pub loose-less : (b q q' : ℕ) (ss : List (Stretch E)) → q' ≤ q → loose b q ss ≤ loose b q' ss
  loose-less b q q' [] i = omega arith
  loose-less b q q' (s ∷ ss) i = omega (arith, loose-less b (max q s.right) (max q' s.right) ss (omega arith))

  pub worth-raise : (b t : ℕ) (ss : List (Stretch E)) → worth b ss ≤ worth (b + t) ss + length ss * (4 * t)
  worth-raise b t [] = omega arith
  worth-raise b t (s ∷ ss) = omega (arith, worth-raise b t ss)

  pub worth-cap : (D b lo : ℕ) (ss : List (Stretch E)) → Laid D b lo ss → worth b ss ≤ length ss * D
  worth-cap D b lo [] h = omega arith
  worth-cap D b lo (s ∷ ss) h = omega (arith, worth-cap D b s.right ss h.4)

  pub worth-kept : (b : ℕ) (ss : List (Stretch E)) → worth b ss ≤ worth b (select (kept b) ss)
  worth-kept b [] = omega arith
  worth-kept b (s ∷ ss) =
      decide (λ r. worth b (s ∷ ss) ≤ worth b r) (kept b s) _ _
      (λ t. omega (arith, worth-kept b ss)) (λ t. omega (arith, leb-false, worth-kept b ss))

  recall-none : (tree : Tree E) (P : Type 0) (q : ℕ) (s : Stretch E) (ss : List (Stretch E)) → recall tree (s ∷ ss) q ≡ none
      → (q < s.left → P) → (s.right ≤ q → recall tree ss q ≡ none → P) → P
  recall-none tree P q s ss h f g =
      let cases : recall tree (s ∷ ss) q ≡ none → P =
      decide (λ (o : Option ℕ). o ≡ none → P) (leb s.left q && ltb q s.right) _ _
      (λ _ e. absurd (let z : ◌≡◌ {A = ℕ} 0 1 = cc in omega arith))
      (λ t e. and-n (leb s.left q) _ P t (λ i. f (leb-false _ _ i)) (λ j. g (ltb-false _ _ j) e)) in
      cases h

  -- A place that is fetched was loose.
  pub loose-step : (tree : Tree E) (b q : ℕ) (ss : List (Stretch E)) → q < b → recall tree ss q ≡ none
      → suc (loose b (suc q) ss) ≤ loose b q ss
  loose-step tree b q [] i h = omega arith
  loose-step tree b q (s ∷ ss) i h =
      recall-none tree _ q s ss h
      (λ j. omega (arith, loose-less b (max (suc q) s.right) (max q s.right) ss (omega arith)))
      (λ j k. omega (
        arith,
        loose-step tree b q ss i k,
        loose-less b (max (suc q) s.right) (suc q) ss (omega arith),
        loose-less b q (max q s.right) ss (omega arith),
      ))

  module _ (D b : ℕ) where
    none_left : (q lo : ℕ) (ss : List (Stretch E)) → q ≤ lo → Spans D b lo ss → left_over q ss ≡ []
    none_left q lo [] i h = refl
    none_left q lo (s ∷ ss) i h =
        decide (λ r. r ≡ []) (ltb s.left q) _ _
        (λ t. absurd (omega (arith, ltb-true))) (λ t. none_left q s.right ss (omega arith) h.4)

    swallow : (lo : ℕ) (ss : List (Stretch E)) → Spans D b lo ss → loose b lo ss + worth b ss ≤ b - lo
    swallow lo [] h = omega arith
    swallow lo (s ∷ ss) h =
        omega (arith, swallow s.right ss h.4, loose-less b (max lo s.right) s.right ss (omega arith))

    -- A round that ends: all that was loose goes into the new stretch.
    pub gain : (q from lo : ℕ) (e : E) (ss : List (Stretch E)) → Spans D b lo ss → from ≡ max lo (cut q (left_over q ss))
        → loose b (max q lo) ss + worth b ss ≤ worth b (left_over q ss ++ (record { left = from; right = b; node = e } ∷ []))
    gain q from lo e [] h = λ c. omega arith
    gain q from lo e (s ∷ ss) h =
        decide
        (λ r. from ≡ max lo (cut q r)
        → loose b (max q lo) (s ∷ ss) + worth b (s ∷ ss) ≤ worth b (r ++ (record { left = from; right = b; node = e } ∷ [])))
        (ltb s.left q) _ _
        (λ t c. omega (
          arith,
          ltb-true,
          gain q from s.right e ss h.4 (omega arith),
          loose-less b (max (max q lo) s.right) (max q s.right) ss (omega arith),
        ))
        (λ t. rw (none_left q s.right ss (omega (arith, ltb-false)) h.4) (λ c. omega (
          arith,
          ltb-false,
          swallow s.right ss h.4,
          loose-less b (max (max q lo) s.right) s.right ss (omega arith),
        )))
