-- A state's numbers, its five slots one by one; and what is read of the first numbers alone.
use Prim.Native.Nat.{ℕ, ◌≤◌}
use native.Mathlib.Omega.{arith}
use mathlib.Core.Path.{◌≡◌, refl, sym, ap, ◌∙◌}
use mathlib.Core.List.{List, [], ◌∷◌, ◌++◌}
use lib.ListN.{length, get_or, take}
use lib.Dec.{ltb}
use borrow.Author.Tests.{ltb-true, le-leb}
use mathlib.Core.Bool.{true}
use Rattle.std.specs.Prelude.{Some}
use Rattle.std.specs.Array.{IsFirstChunk}
use Rattle.std.proofs.Common.{get_or-take}
use Rattle.scan.specs.declared.Scan.{Scan}
use Rattle.scan.specs.declared.Stretch.{Stretch as Slot}
use Rattle.scan.specs.State.{unused}
use Rattle.probe.specs.States.{flag, size, slot_numbers, numbers_of, state_in, parsed}

-- five slots, one by one
abbrev pub each_slot : List Slot → List Slot
each_slot ss = get_or ss 0 unused ∷ get_or ss 1 unused ∷ get_or ss 2 unused ∷ get_or ss 3 unused ∷ get_or ss 4 unused ∷ []

five : (ss : List Slot) → length ss ≡ 5 → ss ≡ each_slot ss
five [] h = absurd (omega (arith, h))
five (p ∷ []) h = absurd (omega (arith, h))
five (p ∷ q ∷ []) h = absurd (omega (arith, h))
five (p ∷ q ∷ r ∷ []) h = absurd (omega (arith, h))
five (p ∷ q ∷ r ∷ s ∷ []) h = absurd (omega (arith, h))
five (p ∷ q ∷ r ∷ s ∷ t ∷ []) h = refl
five (p ∷ q ∷ r ∷ s ∷ t ∷ u ∷ ss) h = absurd (omega (arith, h))

-- a state's numbers, where n says whether a byte is due and the slots are these
abbrev pub numbers_by : Scan → ℕ → List Slot → List ℕ
numbers_by s n ss =
    s.image ∷ s.shortest ∷ s.count ∷ s.boundary ∷ s.node ∷ s.depth ∷ n ∷ s.supplied ∷ s.spared
    ∷ (slot_numbers ss ++ (s.end ∷ s.hit ∷ []))

-- a state's numbers, slot by slot
pub numbered : (s : Scan) (n : ℕ) → length s.stretches ≡ 5 → n ≡ flag s.due → numbers_by s n (each_slot s.stretches) ≡ numbers_of s
numbered s n h e = ap (numbers_by s n) (sym (five s.stretches h)) ∙ rw e

-- What is read of the first 26 numbers is what is read of all.
module _ (ns : List ℕ) where
  at_place : (i : ℕ) → ltb i size ≡ true → get_or (take size ns) i 0 ≡ get_or ns i 0
  at_place i e = get_or-take size ns i 0 (ltb-true i size e)

  from-first : state_in (take size ns) ≡ state_in ns
  from-first =
      rw (
        at_place 0 refl,
        at_place 1 refl,
        at_place 2 refl,
        at_place 3 refl,
        at_place 4 refl,
        at_place 5 refl,
        at_place 6 refl,
        at_place 7 refl,
        at_place 8 refl,
        at_place 9 refl,
        at_place 10 refl,
        at_place 11 refl,
        at_place 12 refl,
        at_place 13 refl,
        at_place 14 refl,
        at_place 15 refl,
        at_place 16 refl,
        at_place 17 refl,
        at_place 18 refl,
        at_place 19 refl,
        at_place 20 refl,
        at_place 21 refl,
        at_place 22 refl,
        at_place 23 refl,
        at_place 24 refl,
        at_place 25 refl,
      )
      refl

  pub first-numbers : (ms : List ℕ) → IsFirstChunk ns ms size → get_or ms 6 0 ≤ 1 → Some (state_in ms) ≡ parsed ns
  first-numbers ms f d =
      let h : get_or ns 6 0 ≤ 1 = rw (f.same, at_place 6 refl) at d in
      rw f.same (cc (le-leb size (length ns) f.enough, le-leb (get_or ns 6 0) 1 h, from-first))
