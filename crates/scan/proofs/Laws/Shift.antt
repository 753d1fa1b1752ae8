-- The loop over the nodes that lowers the least byte shift.
use Prim.Native.Nat.{ℕ, zero, suc, ◌+◌, ◌-◌, ◌≤◌, min, max}
use native.Mathlib.Numerals.{add-one}
use native.Mathlib.Omega.{arith}
use mathlib.Core.Path.{◌≡◌, refl, ap, sym, ◌∙◌}
use mathlib.Core.Bool.{Bool}
use mathlib.Core.List.{List, ◌∷◌}
use mathlib.Core.Logic.{◌⊎◌, ⊎_elim}
use mathlib.Core.Option.{Option, some}
use lib.Bits.{bit_or, or_add_and, and_le_l, and_le_r}
use lib.ListN.{get_or}
use Rattle.rules.specs.Lists.{least}
use Rattle.rules.proofs.Laws.Tests.{split, least-upto}
use Rattle.rules.specs.Tokens.{byte_shift}
use Rattle.agree.specs.Tests.{byte_test, least_of}
use Rattle.agree.proofs.Laws.Least.{least-none, least-bounds, least-word}
use Rattle.tables.specs.Tables.{Tables}
use Rattle.tables.specs.Walks.{ending, depth, words, shift_from}
use Rattle.scan.specs.Shifts.{Bare}

-- Nodes without a token.
pub bare-none : (token : List ℕ) (v : ℕ) → Bare token v v
bare-none token v = record { order = omega arith; none_here = λ n h l. absurd (omega arith) }

pub bare-more : {token : List ℕ} {v w : ℕ} → Bare token v w → get_or token w 0 ≡ 0 → Bare token v (w + 1)
bare-more {token} {v} {w} b e = record {
  order = omega (arith, b.order);
  none_here = λ n h l. split n w (λ q. ap (λ m. get_or token m 0) q ∙ e) (λ q. b.none_here n h (omega arith));
}

or-none : (a b : ℕ) → bit_or a b ≡ 0 → (a ≡ 0) × (b ≡ 0)
or-none a b e = (omega (arith, or_add_and a b, and_le_r a b), omega (arith, or_add_and a b, and_le_l a b))

pub bare-four : (token : List ℕ) (v : ℕ) → bit_or (bit_or (bit_or (get_or token v 0) (get_or token (v + 1) 0)) (get_or token (v + 2) 0)) (get_or token (v + 3) 0) ≡ 0
    → Bare token v (v + 4)
bare-four token v e =
    let d = or-none _ (get_or token (v + 3) 0) e in
    let c = or-none _ (get_or token (v + 2) 0) d.0 in
    let b = or-none (get_or token v 0) (get_or token (v + 1) 0) c.0 in
    let one = bare-more (bare-none token v) b.0 in
    let two = bare-more one b.1 in
    let x2 : v + 1 + 1 ≡ v + 2 = omega arith in
    let x3 : v + 2 + 1 ≡ v + 3 = omega arith in
    let x4 : v + 3 + 1 ≡ v + 4 = omega arith in
    let two' : Bare token v (v + 2) = rw (sym x2) two in
    let three : Bare token v (v + 3) = rw (sym x3) (bare-more two' c.1) in
    rw (sym x4) (bare-more three d.1)

-- They add no words.
pub bare-words : (t : Tables) (v w : ℕ) → Bare t.token v w → words t w ≡ words t v
bare-words t v zero b = let z : v ≡ 0 = omega (arith, b.order) in rw z
bare-words t v (suc w) b = split v (suc w) (λ e. ap (words t) (sym e))
    (λ e. let none = b.none_here w (omega (arith, b.order)) (omega arith) in
    rw (none, words) (bare-words t v w (record { order = omega (arith, b.order); none_here = λ n h l. b.none_here n h (omega arith) })))

-- One word more.
least_more : (p : List ℕ → ℕ → Bool) (t : Tables) (v S : ℕ) → 1 ≤ S → (get_or t.token v 0 ≡ 0 → ⊥)
    → least (p (ending t v)) 1 (least_of p (words t v) S - 1) ≡ least_of p (words t (suc v)) S
least_more p t v S h d = go (get_or t.token v 0) d
  where
    go : (n : ℕ) → (n ≡ 0 → ⊥) → least (p (ending t v)) 1 (least_of p (words t v) S - 1)
        ≡ least_of p (elim n [ zero ↦ words t v | suc i ↦ ending t v ∷ words t v ]) S
    go zero d = absurd (d refl)
    go (suc i) d = least-word p (words t v) S h (ending t v)

-- The least byte shift of the words among the nodes below v.
pub record Lowered (t : Tables) (d x S best v : ℕ) : Type 0 where
  pub least : best ≡ least_of (byte_test d x) (words t v) S

module _ (t : Tables) (d x : ℕ) {S : ℕ} (near : 1 ≤ S) where
  abbrev least_at : ℕ → ℕ
  least_at v = least_of (byte_test d x) (words t v) S

  -- More words have no greater one.
  least-falls : (v w : ℕ) → v ≤ w → least_at w ≤ least_at v
  least-falls v zero h = let z : v ≡ 0 = omega arith in rw z (omega arith)
  least-falls v (suc w) h = split v (suc w) (λ e. rw e (omega arith)) (λ e. go (get_or t.token w 0) (least-falls v w (omega arith)))
    where
      go : (n : ℕ) → least_at w ≤ least_at v → least_of (byte_test d x) (elim n [ zero ↦ words t w | suc i ↦ ending t w ∷ words t w ]) S ≤ least_at v
      go zero l = l
      go (suc i) l =
          let p = byte_test d x in
          omega (arith, l, least-word p (words t w) S near (ending t w), least-upto (p (ending t w)) 1 (least_at w - 1), least-bounds p (words t w) S near)

  pub lowered-begins : Lowered t d x S S 0
  lowered-begins = record { least = sym (least-none (byte_test d x) S near) }

  module _ {best v : ℕ} (l : Lowered t d x S best v) where
    pub lowered-bare : (w : ℕ) → Bare t.token v w → Lowered t d x S best w
    lowered-bare w b = record { least = l.least ∙ ap (λ ws. least_of (byte_test d x) ws S) (sym (bare-words t v w b)) }

    -- All words are searched, or those that are left cannot count.
    pub lowered-done : (count entry : ℕ) → v ≤ count → (count ≤ v) ⊎ (best ≤ entry) → max entry best ≡ max entry (least_at count)
    lowered-done count entry h =
        ⊎_elim (λ k. let e : v ≡ count = omega arith in ap (max entry) (l.least ∙ ap least_at e))
        (λ k. omega (arith, l.least, least-falls v count h))

    pub lowered-again : (get_or t.token v 0 ≡ 0 → ⊥) → (r : ℕ) → r ≡ least (byte_test d x (ending t v)) 1 (best - 1) → Lowered t d x S r (v + 1)
    lowered-again marked r e =
        rw (add-one v) (record {
          least = e ∙ ap (λ b. least (byte_test d x (ending t v)) 1 (b - 1)) l.least ∙ least_more (byte_test d x) t v S near marked;
        })

-- Rule 5: the greater of the entry and the byte shift, cut at S.
module _ (t : Tables) (count S node : ℕ) where
  abbrev byte_from : Option ℕ → ℕ
  byte_from o = byte_shift (words t count) S (depth t node) o

  pub byte-is : (d x : ℕ) → d ≡ depth t node → least_of (byte_test d x) (words t count) S ≡ byte_from (some x)
  byte-is d x e = ap (λ d. least_of (byte_test d x) (words t count) S) e

  pub shift_is : (closing o : Option ℕ) → closing ≡ o → {entry by r : ℕ} → entry ≡ get_or t.shift node 0 → by ≡ max entry (byte_from o)
      → r ≡ min S by → r ≡ shift_from t count S node closing
  shift_is closing o z e b m = m ∙ ap (min S) (b ∙ cc)
