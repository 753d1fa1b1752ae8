-- Rule 5's test: a word fits exactly if every known byte agrees with it. So both shifts are the smallest s at which a word agrees with every
-- byte that it lies over, as document 01 has them.
use Rattle.std.specs.Prelude.{ℕ, zero, suc, ◌+◌, ◌-◌, ◌≤◌, ◌<◌, ◌≡◌, refl, Bool, true, false, ◌&&◌, ◌||◌, not, List, [], ◌∷◌, leb, ltb, eqb, length}
use Rattle.std.proofs.Common.{arith, ap, ◌∙◌, le-leb, ltb-true, ltb-false}
use Rattle.std.proofs.Math.Option.{Option, some, none}
use Rattle.std.proofs.lemmas.Bool.{lt-leb}
use Rattle.rules.specs.Lists.{any_of, first_below, is_none, every, least}
use Rattle.rules.specs.Tokens.{from_right, agrees, fits, node_shift, byte_shift}
use Rattle.rules.proofs.Laws.Tests.{decide, clash, split, below_suc, least-same}

-- A word that does not reach so far agrees, and one that does if its byte is the same.
module _ (t : List ℕ) (s k x : ℕ) where
  pub agrees-past : length t ≤ k + s → agrees t s k x ≡ true
  agrees-past l = ap (λ b. b || eqb (from_right t (k + s)) x) (le-leb (length t) (k + s) l)

  pub agrees-over : k + s < length t → agrees t s k x ≡ eqb (from_right t (k + s)) x
  agrees-over l = ap (λ b. b || eqb (from_right t (k + s)) x) (lt-leb (length t) (k + s) l)

-- The first number below n that passes: none does, or it is k.
pub first-cases : (n : ℕ) (p : ℕ → Bool) (P : Option ℕ → Type 0) → (((j : ℕ) → j < n → p j ≡ false) → P none)
    → ((k : ℕ) → k < n → ((j : ℕ) → j < k → p j ≡ false) → p k ≡ true → P (some k)) → P (first_below n p)
first-cases zero p P f g = f (λ j h. absurd (omega arith))
first-cases (suc n) p P f g =
    first-cases n p (λ o. P (elim o [ some k ↦ some k | none ↦ elim (p n) [ true ↦ some n | false ↦ none ] ]))
    (λ below. decide P (p n) (some n) none (g n (omega arith) below) (λ t. f (λ j h. below_suc j n h (below j) (λ e. ap p e ∙ t))))
    (λ k h. g k (omega arith))

module _ (n : ℕ) (p : ℕ → Bool) where
  pub first-none : ((j : ℕ) → j < n → p j ≡ false) → first_below n p ≡ none
  first-none f = first-cases n p (λ o. o ≡ none) (λ _. refl) (λ k h below t. absurd (clash (p k) t (f k h)))

  pub first-is : (k : ℕ) → k < n → ((j : ℕ) → j < k → p j ≡ false) → p k ≡ true → first_below n p ≡ some k
  first-is k h below t =
      first-cases n p (λ o. o ≡ some k) (λ f. absurd (clash (p k) t (f k h)))
      (λ m _ under u. split m k (ap some)
      (λ ne. absurd (decide (λ _. ⊥) (ltb m k) true false (λ l. clash (p m) u (below m (ltb-true m k l)))
      (λ l. let ge = ltb-false m k l in clash (p k) t (under k (omega arith))))))

  -- no number fails exactly if each passes
  first-every : is_none (first_below n (λ k. not (p k))) ≡ every n p
  first-every = go n
    where
      step : (o : Option ℕ) (k : ℕ) (b r : Bool) → is_none o ≡ r
          → is_none (elim o [ some k ↦ some k | none ↦ elim (not b) [ true ↦ some k | false ↦ none ] ]) ≡ (b && r)
      step (some j) k true r e = e
      step (some j) k false r e = refl
      step none k true r e = e
      step none k false r e = refl

      go : (n : ℕ) → is_none (first_below n (λ k. not (p k))) ≡ every n p
      go zero = refl
      go (suc n) = step (first_below n (λ k. not (p k))) n (p n) (every n p) (go n)

-- A word fits exactly if every known byte agrees, and the closing byte alone exactly if it does.
pub fits-every : (u t : List ℕ) (s : ℕ) → fits u t s ≡ every (length u) (λ k. agrees t s k (from_right u k))
fits-every u t s = first-every (length u) (λ k. agrees t s k (from_right u k))

pub fits_byte : (x : ℕ) (t : List ℕ) (d s : ℕ) → fits (x ∷ []) t (d + s) ≡ agrees t s d x
fits_byte x t d s =
    let z : 0 + (d + s) ≡ d + s = omega arith in
    fits-every (x ∷ []) t (d + s) ∙ and-true (agrees t (d + s) 0 x) ∙ ap (λ m. leb (length t) m || eqb (from_right t m) x) z
  where
    and-true : (b : Bool) → (b && true) ≡ b
    and-true true = refl
    and-true false = refl

any_of-same : (p q : List ℕ → Bool) → ((t : List ℕ) → p t ≡ q t) → (words : List (List ℕ)) → any_of p words ≡ any_of q words
any_of-same p q f [] = refl
any_of-same p q f (t ∷ ts) = cc (f t, any_of-same p q f ts)

-- The node shift is the smallest s at which some word agrees with every matched byte, and the byte shift that for the closing byte alone.
module _ (words : List (List ℕ)) (S : ℕ) where
  pub node-shift-is : (u : List ℕ)
      → node_shift words S u ≡ least (λ s. any_of (λ t. every (length u) (λ k. agrees t s k (from_right u k))) words) 1 (S - 1)
  node-shift-is u =
      least-same _ _ (λ s. any_of-same (λ t. fits u t s) (λ t. every (length u) (λ k. agrees t s k (from_right u k))) (λ t. fits-every u t s) words) 1 (S - 1)

  pub byte-shift-is : (d x : ℕ) → byte_shift words S d (some x) ≡ least (λ s. any_of (λ t. agrees t s d x) words) 1 (S - 1)
  byte-shift-is d x = least-same _ _ (λ s. any_of-same (λ t. fits (x ∷ []) t (d + s)) (λ t. agrees t s d x) (λ t. fits_byte x t d s) words) 1 (S - 1)
