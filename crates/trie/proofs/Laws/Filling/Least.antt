-- A number that is lowered to each shift that passes, word by word, ends at the least shift at which some word passes.
use Rattle.std.specs.Prelude.{ℕ, zero, suc, ◌+◌, ◌-◌, ◌≤◌, ◌<◌, min, ◌≡◌, refl, Bool, true, false, ◌||◌, List, [], ◌∷◌, reverse}
use Rattle.std.proofs.Common.{arith, le_trans, ◌∙◌}
use Rattle.std.proofs.Math.Option.{Option}
use Rattle.rules.specs.Lists.{any_of, least}
use Rattle.rules.specs.Tokens.{shortened}
use Rattle.rules.proofs.Laws.Tests.{least-ge, least-upto, least-is}
use Rattle.trie.specs.Filling.{Lows, walked_at, word_walked, words_walked}

-- a lowered to s if the test passes
abbrev pub cut : Bool → ℕ → ℕ → ℕ
cut true s a = min a s
cut false s a = a

pub cut-cut : (b c : Bool) (s a : ℕ) → cut c s (cut b s a) ≡ cut (b || c) s a
cut-cut true true s a = omega arith
cut-cut true false s a = refl
cut-cut false c s a = refl

cut-le : (b : Bool) (s a : ℕ) → cut b s a ≤ a
cut-le true s a = omega arith
cut-le false s a = omega arith

cut-least : (b : Bool) (s a m : ℕ) → s < m → min (cut b s a) m ≡ min a (elim b [ true ↦ s | false ↦ m ])
cut-least true s a m h = omega arith
cut-least false s a m h = refl

-- The least that passes one of two tests is the lesser of the two leasts.
least-or : (p q : ℕ → Bool) (i fuel : ℕ) → least (λ s. p s || q s) i fuel ≡ min (least p i fuel) (least q i fuel)
least-or p q i zero = omega arith
least-or p q i (suc fuel) =
    go (p i) (q i) _ _ _ (least-or p q (i + 1) fuel) (least-ge p (i + 1) fuel) (least-ge q (i + 1) fuel)
  where
    go : (a b : Bool) (r m k : ℕ) → r ≡ min m k → i + 1 ≤ m → i + 1 ≤ k
        → elim (a || b) [ true ↦ i | false ↦ r ] ≡ min (elim a [ true ↦ i | false ↦ m ]) (elim b [ true ↦ i | false ↦ k ])
    go true true r m k e f g = omega arith
    go true false r m k e f g = omega arith
    go false true r m k e f g = omega arith
    go false false r m k e f g = e

any_of-or : (p q : List ℕ → Bool) (ws : List (List ℕ)) → any_of (λ w. p w || q w) ws ≡ (any_of p ws || any_of q ws)
any_of-or p q [] = refl
any_of-or p q (w ∷ ws) = rw (any_of-or p q ws) (go (p w) (q w) (any_of p ws) (any_of q ws))
  where
    go : (a b c d : Bool) → (a || b || (c || d)) ≡ (a || c || (b || d))
    go true b c d = refl
    go false true true d = refl
    go false true false d = refl
    go false false c d = refl

-- the least shift from 1 on at which some word passes, or S
abbrev pub least_for : List (List ℕ) → ℕ → (List ℕ → ℕ → Bool) → ℕ
least_for ws S p = least (λ s. any_of (λ w. p w s) ws) 1 (S - 1)

pub least-for-between : (ws : List (List ℕ)) (S : ℕ) → 1 ≤ S → (p : List ℕ → ℕ → Bool) → (1 ≤ least_for ws S p) × (least_for ws S p ≤ S)
least-for-between ws S h p = (least-ge _ 1 (S - 1), le_trans (least-upto _ 1 (S - 1)) (omega arith))

pub least-for-or : (ws : List (List ℕ)) (S : ℕ) (p q : List ℕ → ℕ → Bool)
    → least_for ws S (λ w s. p w s || q w s) ≡ min (least_for ws S p) (least_for ws S q)
least-for-or ws S p q =
    (λ i. least (λ s. any_of-or (λ w. p w s) (λ w. q w s) ws i) 1 (S - 1)) ∙ least-or (λ s. any_of (λ w. p w s) ws) (λ s. any_of (λ w. q w s) ws) 1 (S - 1)

-- If each walk lowers what P says of its entries where the test passes, then the walks of all words lower it to the least.
module _ (child : ℕ → ℕ → Option ℕ) (p : List ℕ → ℕ → Bool) (P : ℕ → Lows → Type 0)
    (step : (w : List ℕ) (s a : ℕ) (l : Lows) → P a l → P (cut (p w s) s a) (walked_at child s (reverse (shortened w s)) 0 l)) where
  word_low : (w : List ℕ) (s many a : ℕ) (l : Lows) → a ≤ s + many → P a l → P (min a (least (p w) s many)) (word_walked child w s many l)
  word_low w s zero a l h q = let e : min a s ≡ a = omega arith in rw e q
  word_low w s (suc many) a l h q =
      rw (← cut-least (p w s) s a (least (p w) (s + 1) many) (omega (arith, least-ge (p w) (s + 1) many)))
      (word_low w (s + 1) many (cut (p w s) s a) (walked_at child s (reverse (shortened w s)) 0 l) (omega (arith, cut-le (p w s) s a)) (step w s a l q))

  pub words-low : (S : ℕ) → 1 ≤ S → (ws : List (List ℕ)) (a : ℕ) (l : Lows) → a ≤ S → P a l → P (min a (least_for ws S p)) (words_walked child S ws l)
  words-low S o [] a l h q =
      let e : min a (least (λ s. false) 1 (S - 1)) ≡ a =
      omega (arith, least-is (λ s. false) 1 (S - 1) S o (omega arith) (λ j i k. refl) (λ k. absurd (omega arith))) in
      rw e q
  words-low S o (w ∷ ws) a l h q =
      let m = least (p w) 1 (S - 1) in
      let e : min a (least_for (w ∷ ws) S p) ≡ min (min a m) (least_for ws S p) =
      omega (arith, least-or (p w) (λ s. any_of (λ w. p w s) ws) 1 (S - 1)) in
      rw e (words-low S o ws (min a m) (word_walked child w 1 (S - 1) l) (omega arith) (word_low w 1 (S - 1) a l (omega arith) q))
