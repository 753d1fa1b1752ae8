-- Rule 5 word by word: the smallest shift for which some word passes is the least of the words' own, so a search below the best so far is
-- enough.
use Rattle.std.specs.Prelude.{ℕ, zero, suc, ◌+◌, ◌-◌, ◌≤◌, min, ◌≡◌, Bool, true, false, ◌||◌, List, [], ◌∷◌, ◌++◌}
use Rattle.std.proofs.Common.{suc-add, arith, ap, sym, ◌∙◌}
use Rattle.rules.specs.Lists.{any_of, least}
use Rattle.rules.proofs.Laws.Tests.{least-ge, least-upto, least-same}
use Rattle.rules.proofs.Laws.Words.{any_of-append}
use Rattle.agree.specs.Tests.{least_of}

-- of two tests
pub least-or : (p q : ℕ → Bool) (from fuel : ℕ) → least (λ s. p s || q s) from fuel ≡ min (least p from fuel) (least q from fuel)
least-or p q from zero = omega arith
least-or p q from (suc fuel) = go (p from) (q from) (least-or p q (from + 1) fuel) (least-ge p (from + 1) fuel) (least-ge q (from + 1) fuel)
  where
    go : (x y : Bool) {a b c : ℕ} → c ≡ min a b → from + 1 ≤ a → from + 1 ≤ b
        → elim (x || y) [ true ↦ from | false ↦ c ] ≡ min (elim x [ true ↦ from | false ↦ a ]) (elim y [ true ↦ from | false ↦ b ])
    go true true e h k = omega arith
    go true false e h k = omega arith
    go false true e h k = omega arith
    go false false e h k = e

-- a search that stops earlier
pub least-cut : (p : ℕ → Bool) (from f g : ℕ) → least p from f ≡ min (least p from (f + g)) (from + f)
least-cut p from zero g = omega (arith, least-ge p from (0 + g))
least-cut p from (suc f) g = rw (suc-add f g) (go (p from) (least p (from + 1) f) (least p (from + 1) (f + g)) (least-cut p (from + 1) f g))
  where
    go : (x : Bool) (a b : ℕ) → a ≡ min b (from + 1 + f)
        → elim x [ true ↦ from | false ↦ a ] ≡ min (elim x [ true ↦ from | false ↦ b ]) (from + suc f)
    go true a b e = omega arith
    go false a b e = omega arith

module _ (p : List ℕ → ℕ → Bool) where
  pub least-none : (S : ℕ) → 1 ≤ S → least_of p [] S ≡ S
  least-none S h = go 1 (S - 1) ∙ omega arith
    where
      go : (from fuel : ℕ) → least (λ s. false) from fuel ≡ from + fuel
      go from zero = omega arith
      go from (suc fuel) = go (from + 1) fuel ∙ omega arith

  module _ (ts : List (List ℕ)) (S : ℕ) (h : 1 ≤ S) where
    pub least-bounds : (1 ≤ least_of p ts S) × (least_of p ts S ≤ S)
    least-bounds = (least-ge (λ s. any_of (λ w. p w s) ts) 1 (S - 1), omega (arith, least-upto (λ s. any_of (λ w. p w s) ts) 1 (S - 1)))

    -- It is enough to search below the best so far.
    least-below : (q : ℕ → Bool) → least q 1 (least_of p ts S - 1) ≡ min (least q 1 (S - 1)) (least_of p ts S)
    least-below q =
        let b = least_of p ts S in
        let bounds = least-bounds in
        let more : b - 1 + (S - b) ≡ S - 1 = omega arith in
        let cut : least q 1 (b - 1) ≡ min (least q 1 (S - 1)) (1 + (b - 1)) = rw more at (least-cut q 1 (b - 1) (S - b)) in
        omega arith

    -- a word more, in front
    pub least-word : (w : List ℕ) → least (p w) 1 (least_of p ts S - 1) ≡ least_of p (w ∷ ts) S
    least-word w = omega (arith, least-below (p w), least-or (p w) (λ s. any_of (λ w. p w s) ts) 1 (S - 1))

    -- words more, behind
    pub least-words : (ws : List (List ℕ)) → least_of p ws (least_of p ts S) ≡ least_of p (ts ++ ws) S
    least-words ws =
        let q : ℕ → Bool = λ s. any_of (λ w. p w s) ws in
        let r : ℕ → Bool = λ s. any_of (λ w. p w s) ts in
        least-below q ∙ omega (arith, least-or r q 1 (S - 1)) ∙ sym (least-same _ _ (λ s. any_of-append (λ w. p w s) ts ws) 1 (S - 1))

  -- one word
  pub least-one : (w : List ℕ) (S : ℕ) → 1 ≤ S → least (p w) 1 (S - 1) ≡ least_of p (w ∷ []) S
  least-one w S h = ap (λ b. least (p w) 1 (b - 1)) (sym (least-none S h)) ∙ least-word [] S h w
