-- Words of one token have one hash. A set mark stays, so the filter has the mark of every token so far, and a body whose mark is not set is a
-- word of none of them.
use Prim.Native.Nat.{ℕ, zero, suc, ◌+◌, ◌-◌, ◌*◌, ◌/◌, ◌%◌, ◌^◌, ◌≤◌, ◌<◌, min, max, zero-le}
use native.Mathlib.Omega.{arith}
use mathlib.Core.Path.{◌≡◌, refl, ap, ◌∙◌}
use mathlib.Core.Bool.{true, false}
use mathlib.Core.Logic.{inl, inr}
use mathlib.Core.List.{List, [], ◌∷◌, ◌++◌, reverse}
use borrow.Author.Tests.{lt-ltb, ltb-true}
use lib.Arith.{bin_ind}
use lib.Bits.{bit_and, bit_or, and_step, and_self, or_step, or_comm}
use lib.ListN.{length, get_or, length-set, length-reverse}
use lib.Pow.{pow_pos}
use lib.Seq.{get_or-set_same, get_or-set_other}
use Rattle.rules.specs.Lists.{any_of}
use Rattle.rules.specs.Words.{is_word}
use Rattle.rules.proofs.Laws.Tests.{false-test, clash, split}
use Rattle.rules.proofs.Laws.Words.{word-cases, reverse-at}
use Rattle.book.specs.Filter.{marks, near, hash_from, hash, is_marked, marked, Covers}

-- Reversing the bytes does not change the hash.
hash-turned : (t : List ℕ) (pairs i sum : ℕ) → i + pairs ≤ length t → hash_from (reverse t) pairs i sum ≡ hash_from t pairs i sum
hash-turned t zero i sum h = refl
hash-turned t (suc pairs) i sum h =
    let n : length (reverse t) ≡ length t = length-reverse t in
    let z : length t - 1 - (length t - 1 - i) ≡ i = omega arith in
    let a : get_or (reverse t) i 0 ≡ get_or t (length t - 1 - i) 0 = reverse-at t i (omega arith) in
    let b : get_or (reverse t) (length (reverse t) - 1 - i) 0 ≡ get_or t i 0 =
    ap (λ n. get_or (reverse t) (n - 1 - i) 0) n ∙ reverse-at t (length t - 1 - i) (omega arith) ∙ ap (λ k. get_or t k 0) z in
    let s : 37 * sum + get_or (reverse t) i 0 + get_or (reverse t) (length (reverse t) - 1 - i) 0
    ≡ 37 * sum + get_or t i 0 + get_or t (length t - 1 - i) 0 = omega arith in
    hash-turned t pairs (i + 1) _ (omega arith) ∙ ap (λ s. hash_from t pairs (i + 1) (s % marks)) s

word-hash : (u t : List ℕ) → is_word u t ≡ true → hash u ≡ hash t
word-hash u t e = elim (word-cases u t e) [
  | inl q ↦ ap hash q
  | inr q ↦ ap hash q.1 ∙ ap (λ n. hash_from (reverse t) (min near (n - n / 2)) 0 (n % marks)) (length-reverse t)
      ∙ hash-turned t (min near (length t - length t / 2)) 0 (length t % marks) (omega arith)
]

-- The bits that a and c share they still share when a gains some; first for one digit.
digit : (a b c : ℕ) → min a c ≤ min (max a b) c
digit a b c = omega arith

shared-stay : (a b c : ℕ) → bit_and a c ≤ bit_and (bit_or a b) c
shared-stay = bin_ind (λ (a : ℕ). (b c : ℕ) → bit_and a c ≤ bit_and (bit_or a b) c) (λ b c. zero-le) step
  where
    step : (a : ℕ) → ((b c : ℕ) → bit_and (a / 2) c ≤ bit_and (bit_or (a / 2) b) c) → (b c : ℕ) → bit_and a c ≤ bit_and (bit_or a b) c
    step a ih b c =
        let half : bit_or a b / 2 ≡ bit_or (a / 2) (b / 2) = omega (arith, or_step a b) in
        let odd : bit_or a b % 2 ≡ max (a % 2) (b % 2) = omega (arith, or_step a b) in
        rw (and_step a c, and_step (bit_or a b) c, half, odd) (omega (arith, ih (b / 2) (c / 2), digit (a % 2) (b % 2) (c % 2)))

-- Mark n is set, in a cell that the filter has.
module _ (filter : List ℕ) (n : ℕ) (h : n / 64 < length filter) where
  cell : ℕ
  cell = get_or filter (n / 64) 0

  bit : ℕ
  bit = 2 ^ (n % 64)

  stored : get_or (marked filter n) (n / 64) 0 ≡ bit_or cell bit
  unfolding cell bit
  stored = get_or-set_same filter (n / 64) _ 0 h

  marked-own : is_marked (marked filter n) n ≡ true
  unfolding cell bit
  marked-own =
      lt-ltb 0 (bit_and (get_or (marked filter n) (n / 64) 0) bit)
      (rw (stored, or_comm cell bit) (omega (arith, shared-stay bit cell bit, and_self bit, pow_pos (n % 64))))

  marked-stays : (m : ℕ) → is_marked filter m ≡ true → is_marked (marked filter n) m ≡ true
  unfolding cell bit
  marked-stays m e =
      let own = 2 ^ (m % 64) in
      let there : 0 < bit_and (get_or filter (m / 64) 0) own = ltb-true 0 _ e in
      split (m / 64) (n / 64)
      (λ z. lt-ltb 0 (bit_and (get_or (marked filter n) (m / 64) 0) own) (rw (z, stored) (omega (arith, shared-stay cell bit own, rw z at there))))
      (λ z. rw (get_or-set_other filter (n / 64) (m / 64) (bit_or cell bit) 0 z) e)

  covers-stays : (ts : List (List ℕ)) → Covers filter ts → Covers (marked filter n) ts
  covers-stays [] c = rw length-set c
  covers-stays (t ∷ ts) c = (marked-stays (hash t) c.0, covers-stays ts c.1)

covers_snoc : (filter : List ℕ) (ts : List (List ℕ)) (t : List ℕ) → Covers filter ts → is_marked filter (hash t) ≡ true → Covers filter (ts ++ (t ∷ []))
covers_snoc filter [] t c e = (e, c)
covers_snoc filter (u ∷ ts) t c e = (c.0, covers_snoc filter ts t c.1 e)

all-marks : (filter : List ℕ) (ts : List (List ℕ)) → Covers filter ts → length filter * 64 ≡ marks
all-marks filter [] c = c
all-marks filter (t ∷ ts) c = all-marks filter ts c.1

module _ (filter : List ℕ) (t : List ℕ) where
  -- A token more, with its mark.
  pub covers_more : (ts : List (List ℕ)) → Covers filter ts → hash t < marks → Covers (marked filter (hash t)) (ts ++ (t ∷ []))
  covers_more ts c h =
      let here : hash t / 64 < length filter = omega (arith, all-marks filter ts c) in
      covers_snoc (marked filter (hash t)) ts t (covers-stays filter (hash t) here ts c) (marked-own filter (hash t) here)

  -- Where the mark is not set, nothing need be compared.
  pub unmarked-new : (ts : List (List ℕ)) → Covers filter ts → is_marked filter (hash t) ≡ false → any_of (is_word t) ts ≡ false
  unmarked-new [] c e = refl
  unmarked-new (u ∷ ts) c e =
      cc (
        false-test (is_word t u) (λ w. clash (is_marked filter (hash t)) (rw (word-hash t u w) c.0) e),
        unmarked-new ts c.1 e,
      )
