-- Remembered stretches as spans of places (`Spans`), and how many there can be. `Laid` is what holds of them before rule 6 drops some.
use Rattle.std.specs.Prelude.{ℕ, ◌+◌, ◌^◌, ◌-◌, ◌≤◌, ◌<◌, Bool, List, [], ◌∷◌, ◌++◌, ltb, length}
use Rattle.std.proofs.Common.{pow-suc, lt_of_not-le, arith, leb-true}
use Rattle.std.proofs.Math.Nat.{pow-le-pow_right}
use Rattle.rules.specs.Rules.{Stretch, left_over, cut, kept}
use Rattle.rules.specs.Lists.{select}
use Rattle.rules.proofs.Laws.Tests.{decide}
use Rattle.rules.proofs.Laws.All.{all-select}
use Rattle.rules.specs.Stretches.{Upto, Spans}

pub cut-ge : {E : Type 0} (q : ℕ) (ss : List (Stretch E)) → q ≤ cut q ss
cut-ge q [] = omega arith
cut-ge q (s ∷ ss) = omega (arith, cut-ge q ss)

-- powers of 4 up to 1,024
pub four-few : (k : ℕ) → 4 ^ k ≤ 1024 → k ≤ 5
four-few k h =
    let l : k < 6 = lt_of_not-le (λ i. omega (arith, pow-le-pow_right {n = 4} (omega arith) {i = 6} {j = k} i)) in
    omega arith

pub cut-upto : {E : Type 0} (q n : ℕ) (ss : List (Stretch E)) → q ≤ n → Upto n ss → cut q ss ≤ n
cut-upto q n [] i h = i
cut-upto q n (s ∷ ss) i h = omega (arith, cut-upto q n ss i h.1)

module _ {E : Type 0} (D : ℕ) where
  abbrev pub Laid : ℕ → ℕ → List (Stretch E) → Type 0
  Laid b lo [] = Unit {0}
  Laid b lo (s ∷ ss) = (lo ≤ s.left) × (s.left ≤ s.right) × (s.right ≤ b) × (s.right ≤ s.left + D) × Laid b s.right ss

  lower : (b lo lo' : ℕ) (ss : List (Stretch E)) → lo' ≤ lo → Spans D b lo ss → Spans D b lo' ss
  lower b lo lo' [] i h = tt
  lower b lo lo' (s ∷ ss) i h = (omega arith, h.1, h.2, h.3, h.4)

  -- Each stretch is more than four times as long as what is right of it.
  few : (b lo : ℕ) (ss : List (Stretch E)) → lo < b → Spans D b lo ss → 4 ^ length ss ≤ b - lo
  few b lo [] i h = omega arith
  few b lo (s ∷ ss) i h = omega (arith, pow-suc 4 (length ss), few b s.right ss h.1 h.4)

  pub short : (b lo : ℕ) (ss : List (Stretch E)) → 1 ≤ D → Spans D b lo ss → 4 ^ length ss ≤ D
  short b lo [] i h = omega arith
  short b lo (s ∷ ss) i h = omega (arith, pow-suc 4 (length ss), few b s.right ss h.1 h.4)

  spans-upto : (b lo : ℕ) (ss : List (Stretch E)) → Spans D b lo ss → Upto b ss
  spans-upto b lo [] h = tt
  spans-upto b lo (s ∷ ss) h = (omega (arith, h.1), spans-upto b s.right ss h.4)

  pub cut-le : (b q lo : ℕ) (ss : List (Stretch E)) → q ≤ b → Spans D b lo ss → cut q (left_over q ss) ≤ b
  cut-le b q lo ss i h = cut-upto q b (left_over q ss) i (all-select (λ s. s.right ≤ b) _ ss (spans-upto b lo ss h))

  -- Rule 4 leaves its stretches laid,
  pub laid : (b q from lo : ℕ) (e : E) (ss : List (Stretch E)) → from ≤ b → b ≤ from + D → lo ≤ from → Spans D b lo ss
      → cut q (left_over q ss) ≤ from
      → Laid b lo (left_over q ss ++ (record { left = from; right = b; node = e } ∷ []))
  laid b q from lo e [] i j k h = λ c. (omega arith, omega arith, omega arith, omega arith, tt)
  laid b q from lo e (s ∷ ss) i j k h =
      decide (λ r. cut q r ≤ from → Laid b lo (r ++ (record { left = from; right = b; node = e } ∷ []))) (ltb s.left q) _ _
      (λ t c. (h.0, omega arith, omega arith, h.2, laid b q from s.right e ss i j (omega arith) h.4 (omega arith)))
      (λ t c. laid b q from lo e ss i j k (lower b s.right lo ss (omega arith) h.4) c)

  -- and rule 6 makes spans of them.
  pub kept_spans : (b b' lo : ℕ) (ss : List (Stretch E)) → b < b' → Laid b lo ss → Spans D b' lo (select (kept b') ss)
  kept_spans b b' lo [] i h = tt
  kept_spans b b' lo (s ∷ ss) i h =
      decide (Spans D b' lo) (kept b' s) _ _
      (λ t. (h.0, omega arith, h.3, omega (arith, leb-true), kept_spans b b' s.right ss i h.4))
      (λ t. lower b' s.right lo (select (kept b') ss) (omega arith) (kept_spans b b' s.right ss i h.4))

  pub kept-upto : (b n lo : ℕ) (p : Stretch E → Bool) (ss : List (Stretch E)) → b ≤ n → Laid b lo ss → Upto n (select p ss)
  kept-upto b n lo p [] i h = tt
  kept-upto b n lo p (s ∷ ss) i h =
      let r = kept-upto b n s.right p ss i h.4 in
      decide (Upto n) (p s) _ _ (λ t. (omega (arith, h.2), r)) (λ t. r)
