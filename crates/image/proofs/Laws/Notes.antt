-- Numbers put into a buffer one after the other: one of them, in two parts, how long it then is, and that they lie over its front.
use Rattle.std.specs.Prelude.{ℕ, suc, ◌+◌, ◌-◌, ◌≤◌, ◌<◌, ◌≡◌, refl, true, false, List, [], ◌∷◌, ◌++◌, ltb, length, take, set}
use Rattle.std.proofs.Common.{zero-add, add-one, arith, ap, sym, ◌∙◌, ltb-true, ltb-false, lt-ltb, le-ltb, length-set, length-take}
use Rattle.std.proofs.lemmas.List.Edits.{sets, sets-eq}
use Rattle.std.proofs.Math.Seq.{take-nil}
use Rattle.rules.proofs.Laws.Tests.{decide}
use Rattle.rules.specs.Lists.{over}
use Rattle.image.specs.Hits.{note, notes}

pub note-in : (room i x : ℕ) (l : List ℕ) → i < room → set l i x ≡ note room i x l
note-in room i x l h = sym (ap (λ t. elim t [ true ↦ set l i x | false ↦ l ]) (lt-ltb i room h))

pub note-out : (room i x : ℕ) (l : List ℕ) → room ≤ i → l ≡ note room i x l
note-out room i x l h = sym (ap (λ t. elim t [ true ↦ set l i x | false ↦ l ]) (le-ltb i room h))

pub note-length : (room i x : ℕ) (l : List ℕ) → length (note room i x l) ≡ length l
note-length room i x l = decide (λ m. length m ≡ length l) (ltb i room) _ _ (λ _. length-set l i x) (λ _. refl)

pub notes-length : (room i : ℕ) (xs l : List ℕ) → length (notes room i xs l) ≡ length l
notes-length room i [] l = refl
notes-length room i (x ∷ xs) l = notes-length room (i + 1) xs (note room i x l) ∙ note-length room i x l

pub notes-append : (room i : ℕ) (xs ys l : List ℕ) → notes room i (xs ++ ys) l ≡ notes room (i + length xs) ys (notes room i xs l)
notes-append room i [] ys l = let e : i + 0 ≡ i = omega arith in rw e
notes-append room i (x ∷ xs) ys l =
    let e : i + suc (length xs) ≡ i + 1 + length xs = omega arith in
    rw e (notes-append room (i + 1) xs ys (note room i x l))

-- as many as there is room for are stored
notes-sets : (room i : ℕ) (xs l : List ℕ) → notes room i xs l ≡ sets l i (take (room - i) xs)
notes-sets room i [] l = rw (take-nil (room - i))
notes-sets room i (x ∷ xs) l =
    decide (λ m. notes room (i + 1) xs m ≡ sets l i (take (room - i) (x ∷ xs))) (ltb i room) _ _
    (λ t. let h = ltb-true i room t in
    let e : room - i ≡ suc (room - (i + 1)) = omega arith in
    rw e (notes-sets room (i + 1) xs (set l i x) ∙ rw add-one))
    (λ t. let h = ltb-false i room t in
    let e : room - i ≡ 0 = omega arith in
    let f : room - (i + 1) ≡ 0 = omega arith in
    rw e (notes-sets room (i + 1) xs l ∙ rw f))

pub notes-over : (room : ℕ) (xs l : List ℕ) → room ≤ length l → notes room 0 xs l ≡ over (take room xs) l
notes-over room xs l h =
    let e : room - 0 ≡ room = omega arith in
    notes-sets room 0 xs l
    ∙ rw e (sets-eq (take room xs) l 0 (omega (arith, length-take room xs)) ∙ rw zero-add)
