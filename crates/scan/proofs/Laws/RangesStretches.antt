-- The loops over the five slots of a state.
use Prim.Native.Nat.{ℕ, suc, ◌+◌, ◌≤◌, ◌<◌}
use native.Mathlib.Omega.{arith}
use native.Mathlib.Numerals.{add-one}
use mathlib.Core.Path.{◌≡◌, refl, ap, sym, ◌∙◌}
use mathlib.Core.Bool.{Bool, true, false, ◌&&◌, not}
use mathlib.Core.List.{List, [], ◌∷◌}
use borrow.Author.Tests.{eq-eqb, not-false}
use lib.Dec.{leb, eqb}
use lib.ListN.{length, get_or, drop, drop_of_length-le}
use lib.Seq.{drop-cons}
use Rattle.rules.specs.Rules.{Stretch}
use Rattle.tables.specs.Tables.{Tables}
use Rattle.scan.specs.declared.Scan.{Scan}
use Rattle.scan.specs.declared.Stretch.{Stretch as Slot}
use Rattle.scan.specs.State.{stretch_of, unused, in_use, used, laid, max_stretches, stretch_ok, rising, same_slots, stretches_ok}

-- A walk over the slots that stands at slot i: what f says of the slots from there on, g says of all.
pub record Walked (f g : List Slot → Bool) (slots : List Slot) (i : ℕ) : Type 0 where
  pub long : length slots ≡ max_stretches
  pub upto : i ≤ max_stretches
  pub rest : f (drop i slots) ≡ g slots

module _ {f g : List Slot → Bool} {slots : List Slot} {i : ℕ} (w : Walked f g slots i) where
  pub walk-next : i < max_stretches → f (get_or slots i unused ∷ drop (i + 1) slots) ≡ g slots
  walk-next h = sym (ap f (drop-cons slots i unused (omega (arith, w.long)) ∙ rw add-one)) ∙ w.rest

  pub walk_end : max_stretches ≤ i → f [] ≡ g slots
  walk_end h = sym (ap f (drop_of_length-le slots {i = i} (omega (arith, w.long)))) ∙ w.rest

-- Whether slots are in range that come behind others, of which the last in use ends at `from`, and one is unused if `over`.
abbrev pub stands : Tables → Scan → Bool → ℕ → List Slot → Bool
stands t s over from [] = true
stands t s over from (m ∷ ms) =
    elim (in_use m) [
      | true ↦ not over && leb from m.left && stretch_ok t s (stretch_of m) && stands t s over m.right ms
      | false ↦ stands t s true from ms
    ]

and-swap : (a b c : Bool) → (a && (b && c)) ≡ (b && (a && c))
and-swap true b c = refl
and-swap false true c = refl
and-swap false false c = refl

and_last : (a : Bool) → (a && true) ≡ a
and_last true = refl
and_last false = refl

chosen : (z a b c : Bool) → c ≡ false → a ≡ b → elim (not z) [ true ↦ c | false ↦ a ] ≡ (z && b)
chosen true a b c h e = e
chosen false a b c h e = h

module _ (t : Tables) (s : Scan) where
  -- behind an unused slot all are unused
  over-is : (from : ℕ) (ms : List Slot) → stands t s true from ms ≡ same_slots ms (laid (length ms) [])
  over-is from [] = refl
  over-is from (m ∷ ms) = chosen (eqb m.left 0 && eqb m.right 0 && eqb m.node 0) _ _ _ refl (over-is from ms)

  module _ (from : ℕ) (m : Slot) (ms : List Slot) where
    -- a first slot that is in use, or not
    abbrev first-used : Bool → List (Stretch ℕ)
    first-used b = elim b [ true ↦ stretch_of m ∷ used ms | false ↦ [] ]

    abbrev first-stands : Bool → Bool
    first-stands b =
        elim b [
          | true ↦ not false && leb from m.left && stretch_ok t s (stretch_of m) && stands t s false m.right ms
          | false ↦ stands t s true from ms
        ]

    first-is : (b : Bool) → (b ≡ false → (eqb m.left 0 && eqb m.right 0 && eqb m.node 0) ≡ true)
        → stands t s false m.right ms ≡ (same_slots ms (laid (length ms) (used ms)) && rising t s m.right (used ms))
        → first-stands b ≡ (same_slots (m ∷ ms) (laid (suc (length ms)) (first-used b)) && rising t s from (first-used b))
    first-is true z e =
        rw (eq-eqb m.left m.left refl, eq-eqb m.right m.right refl, eq-eqb m.node m.node refl, e)
        (and-swap (leb from m.left && stretch_ok t s (stretch_of m)) (same_slots ms (laid (length ms) (used ms)))
        (rising t s m.right (used ms)))
    first-is false z e = rw (z refl, over-is from ms) (sym (and_last (same_slots ms (laid (length ms) []))))

  -- Slots are in range.
  pub stands-is : (from : ℕ) (ms : List Slot)
      → stands t s false from ms ≡ (same_slots ms (laid (length ms) (used ms)) && rising t s from (used ms))
  stands-is from [] = refl
  stands-is from (m ∷ ms) =
      first-is from m ms (in_use m) (not-false (eqb m.left 0 && eqb m.right 0 && eqb m.node 0)) (stands-is m.right ms)

  pub stretches-is : length s.stretches ≡ max_stretches → stands t s false 0 s.stretches ≡ stretches_ok t s
  stretches-is e =
      stands-is 0 s.stretches
      ∙ ap (λ k. same_slots s.stretches (laid k (used s.stretches)) && rising t s 0 (used s.stretches)) e

  module _ (over : Bool) (from : ℕ) {i : ℕ} (w : Walked (stands t s over from) (stands t s false 0) s.stretches i)
      (h : i < max_stretches) where
    abbrev slot : Slot
    slot = get_or s.stretches i unused

    pub stand-fails : in_use slot ≡ true → {a b c : Bool}
        → over ≡ a → leb from slot.left ≡ b → stretch_ok t s (stretch_of slot) ≡ c
        → (not a && b && c) ≡ false → false ≡ stretches_ok t s
    stand-fails u ea eb ec e = cc (walk-next w h) ∙ stretches-is w.long

    -- The walk goes on behind a slot in use, and behind one that is not.
    module _ (over' : Bool) (eo : over' ≡ over) (from' : ℕ) where
      pub stand-goes : in_use slot ≡ true → over ≡ false → leb from slot.left ≡ true → stretch_ok t s (stretch_of slot) ≡ true → from' ≡ slot.right
          → Walked (stands t s over' from') (stands t s false 0) s.stretches (i + 1)
      stand-goes u o a b e = rw (eo, e) (record { long = w.long; upto = omega arith; rest = cc (walk-next w h) })

    pub stand-passes : in_use slot ≡ false → (over' : Bool) → over' ≡ true → (from' : ℕ) → from' ≡ from
        → Walked (stands t s over' from') (stands t s false 0) s.stretches (i + 1)
    stand-passes u over' eo from' e = rw (eo, e) (record { long = w.long; upto = omega arith; rest = cc (walk-next w h) })
