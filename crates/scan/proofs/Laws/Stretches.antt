-- The loops over the slots: those in use, one after the other; the one that has a place; and the byte that is recalled from it.
use Prim.Native.Nat.{ℕ, ◌+◌, ◌-◌, ◌≤◌, ◌<◌}
use native.Mathlib.Numerals.{add-one}
use native.Mathlib.Omega.{arith}
use mathlib.Core.Path.{◌≡◌, refl, ap, sym, subst, ◌∙◌}
use mathlib.Core.Bool.{Bool, true, false, ◌&&◌, ◌||◌}
use mathlib.Core.List.{List, [], ◌∷◌}
use mathlib.Core.Option.{Option, some, none}
use borrow.Author.Tests.{leb-true, ltb-true}
use lib.Dec.{leb, ltb}
use lib.ListN.{length, get_or, drop, drop_of_length-le}
use lib.Seq.{drop-cons}
use Rattle.rules.specs.Lists.{any_of, All}
use Rattle.rules.specs.Rules.{Stretch, recall, left_over, cut}
use Rattle.rules.specs.Stretches.{farther_of}
use Rattle.rules.proofs.Laws.Remember.{Edge, edge-begins, edge-done, edge-again}
use Rattle.rules.proofs.Laws.Tests.{passed}
use Rattle.tables.specs.Walks.{depth, lifted, of_tables}
use Rattle.scan.specs.declared.Stretch.{Stretch as Slot}
use Rattle.std.specs.Prelude.{Option as Maybe, Some, None, is_some, cond}
use Rattle.std.specs.List.{list_all, find, fold, take_while}
use Rattle.std.proofs.lemmas.List.Sums.{take_while-cons}
use Rattle.scan.specs.State.{stretch_of, unused, in_use, used, up_to}
use Rattle.tables.specs.Tables.{Tables}
use Rattle.tables.specs.Unbroken.{Unbroken}
use Rattle.scan.specs.Ways.{Climbs}
use Rattle.scan.specs.Memory.{covers, holding, holder_of}
use Rattle.scan.specs.Within.{Fits}

-- the slot i, and the stretches from there on
abbrev pub slot_at : List Slot → ℕ → Slot
slot_at slots i = get_or slots i unused

abbrev pub rest_from : List Slot → ℕ → List (Stretch ℕ)
rest_from slots i = used (drop i slots)

module _ (slots : List Slot) (size : length slots ≡ 5) (i : ℕ) where
  opens : i < 5 → rest_from slots i ≡ elim (in_use (slot_at slots i)) [ true ↦ stretch_of (slot_at slots i) ∷ rest_from slots (i + 1) | false ↦ [] ]
  opens h = ap used (drop-cons slots i unused (omega arith) ∙ ap (λ k. slot_at slots i ∷ drop k slots) (sym (add-one i)))

  pub more : i < 5 → in_use (slot_at slots i) ≡ true → rest_from slots i ≡ stretch_of (slot_at slots i) ∷ rest_from slots (i + 1)
  more h e = opens h ∙ ap (λ b. elim b [ true ↦ stretch_of (slot_at slots i) ∷ rest_from slots (i + 1) | false ↦ [] ]) e

  pub stop : i < 5 → in_use (slot_at slots i) ≡ false → rest_from slots i ≡ []
  stop h e = opens h ∙ ap (λ b. elim b [ true ↦ stretch_of (slot_at slots i) ∷ rest_from slots (i + 1) | false ↦ [] ]) e

  pub past : 5 ≤ i → rest_from slots i ≡ []
  past h = ap used (drop_of_length-le slots {i = i} (omega arith))

-- what a test's result says of the test
pub via : {a b : Bool} (r : Bool) → r ≡ a → r ≡ b → a ≡ b
via r e f = sym e ∙ f

-- The slots in use, taken from the front, are the stretches in use.
module _ (at : ℕ) where
  pub used-upto : (ss : List Slot) → list_all (λ s. leb s.right at) (take_while in_use ss) ≡ up_to at (used ss)
  used-upto [] = refl
  used-upto (s ∷ ss) = rw (take_while-cons in_use s ss) (go (in_use s) (used-upto ss))
    where
      go : (b : Bool) → list_all (λ s. leb s.right at) (take_while in_use ss) ≡ up_to at (used ss)
          → list_all (λ (s : Slot). leb s.right at) (cond b (s ∷ take_while in_use ss) []) ≡ up_to at (elim b [ true ↦ stretch_of s ∷ used ss | false ↦ [] ])
      go true e = ap (λ r. leb s.right at && r) e
      go false e = refl

  pub used-holding : (ss : List Slot) → holder_of (find (λ s. covers at (stretch_of s)) (take_while in_use ss)) ≡ holding at (used ss)
  used-holding [] = refl
  used-holding (s ∷ ss) = rw (take_while-cons in_use s ss) (go (in_use s) (used-holding ss))
    where
      found : (b : Bool) (k : Maybe Slot) → holder_of k ≡ holding at (used ss)
          → holder_of (cond b (Some s) k) ≡ elim b [ true ↦ some (stretch_of s) | false ↦ holding at (used ss) ]
      found true k e = refl
      found false k e = e

      go : (b : Bool) → holder_of (find (λ s. covers at (stretch_of s)) (take_while in_use ss)) ≡ holding at (used ss)
          → holder_of (find (λ s. covers at (stretch_of s)) (cond b (s ∷ take_while in_use ss) [])) ≡ holding at (elim b [ true ↦ stretch_of s ∷ used ss | false ↦ [] ])
      go true e = found (covers at (stretch_of s)) _ e
      go false e = refl

  edge-goes : (all : List (Stretch ℕ)) (far : ℕ) (ss : List Slot) → Edge at all far (used ss)
      → fold (λ far s. farther_of at far (stretch_of s)) far (take_while in_use ss) ≡ cut at (left_over at all)
  edge-goes all far [] e = edge-done e
  edge-goes all far (s ∷ ss) e = rw (take_while-cons in_use s ss) (go (in_use s) e (λ f. edge-goes all (farther_of at far (stretch_of s)) ss f))
    where
      go : (b : Bool) → Edge at all far (elim b [ true ↦ stretch_of s ∷ used ss | false ↦ [] ])
          → (Edge at all (farther_of at far (stretch_of s)) (used ss) → fold (λ far s. farther_of at far (stretch_of s)) (farther_of at far (stretch_of s)) (take_while in_use ss) ≡ cut at (left_over at all))
          → fold (λ far s. farther_of at far (stretch_of s)) far (cond b (s ∷ take_while in_use ss) []) ≡ cut at (left_over at all)
      go true e ih = ih (edge-again e _ refl)
      go false e ih = edge-done e

  pub used-edge : (ss : List Slot) → fold (λ far s. farther_of at far (stretch_of s)) at (take_while in_use ss) ≡ cut at (left_over at (used ss))
  used-edge ss = edge-goes (used ss) at ss (edge-begins at (used ss))

-- Whether there is a stretch that has the place.
abbrev holds_of : Option (Stretch ℕ) → Bool
holds_of none = false
holds_of (some m) = true

there : (k : Maybe Slot) → is_some k ≡ holds_of (holder_of k)
there None = refl
there (Some s) = refl

module _ (at : ℕ) where
  pub any_of-holds : (ms : List (Stretch ℕ)) (k : Maybe Slot) → holder_of k ≡ holding at ms → is_some k ≡ any_of (covers at) ms
  any_of-holds ms k e = there k ∙ ap holds_of e ∙ go ms
    where
      found : (b : Bool) (m : Stretch ℕ) (ms : List (Stretch ℕ)) → holds_of (holding at ms) ≡ any_of (covers at) ms
          → holds_of (elim b [ true ↦ some m | false ↦ holding at ms ]) ≡ (b || any_of (covers at) ms)
      found true m ms e = refl
      found false m ms e = e

      go : (ms : List (Stretch ℕ)) → holds_of (holding at ms) ≡ any_of (covers at) ms
      go [] = refl
      go (m ∷ ms) = found (covers at m) m ms (go ms)

  -- What holds of all stretches holds of that one.
  holds-in : (P : Stretch ℕ → Type 0) (ms : List (Stretch ℕ)) (m : Stretch ℕ) → All P ms → holding at ms ≡ some m → P m × (covers at m ≡ true)
  holds-in P [] m h e = absurd (let z : ◌≡◌ {A = ℕ} 0 1 = cc in omega arith)
  holds-in P (x ∷ ms) m h e = go (covers at x) refl e (holds-in P ms m h.1)
    where
      go : (b : Bool) → covers at x ≡ b → elim b [ true ↦ some x | false ↦ holding at ms ] ≡ some m
          → (holding at ms ≡ some m → P m × (covers at m ≡ true)) → P m × (covers at m ≡ true)
      go true c e f = let q : x ≡ m = cc in subst (λ m. P m × (covers at m ≡ true)) q (h.0, c)
      go false c e f = f e

-- The byte of a place that a stretch has, over tables that are a tree.
module _ (t : Tables) (count S : ℕ) (ms : List (Stretch ℕ)) (at : ℕ) where
  -- the byte of the place in that stretch
  abbrev byte_in : Option (Stretch ℕ) → Option ℕ
  byte_in none = none
  byte_in (some m) = some (get_or t.label (lifted t (depth t m.node - 1 - (m.right - 1 - at)) m.node) 0)

  recalls : byte_in (holding at ms) ≡ recall (of_tables t count S) ms at
  recalls = go ms
    where
      found : (b : Bool) (m : Stretch ℕ) (ms : List (Stretch ℕ)) → byte_in (holding at ms) ≡ recall (of_tables t count S) ms at
          → byte_in (elim b [ true ↦ some m | false ↦ holding at ms ]) ≡ elim b [ true ↦ byte_in (some m) | false ↦ recall (of_tables t count S) ms at ]
      found true m ms e = refl
      found false m ms e = e

      go : (ms : List (Stretch ℕ)) → byte_in (holding at ms) ≡ recall (of_tables t count S) ms at
      go [] = refl
      go (m ∷ ms) = found (covers at m) m ms (go ms)

  module _ (k : Maybe Slot) (is : holder_of k ≡ holding at ms) where
    pub recalled-none : k ≡ None → none ≡ recall (of_tables t count S) ms at
    recalled-none e = ap byte_in (sym (ap holder_of e) ∙ is) ∙ recalls

    module _ (s : Slot) (e : k ≡ Some s) (tree : Unbroken t count) (fits : All (Fits t count) ms) where
      holds : Fits t count (stretch_of s) × (covers at (stretch_of s) ≡ true)
      holds = holds-in at (Fits t count) ms (stretch_of s) fits (sym is ∙ ap holder_of e)

      pub held-climbs : Climbs t s.node
      held-climbs = record { count = count; tree = tree; below = holds.0.0 }

      pub held-inside : (s.left ≤ at) × (at < s.right)
      held-inside =
          let p = passed (leb s.left at ∷ ltb at s.right ∷ []) holds.1 in
          (leb-true s.left at (p 0), ltb-true at s.right (p 1))

      -- However many steps a climb from the stretch's node goes, its end has a label.
      pub lifted-below : (n v : ℕ) → v ≡ lifted t n s.node → v < length t.label
      lifted-below n v up = omega (arith, up, (tree.lift n s.node holds.0.0).0, tree.held)

      pub recalled : (v : ℕ) → v ≡ lifted t (at - s.left) s.node → some (get_or t.label v 0) ≡ recall (of_tables t count S) ms at
      recalled v up =
          let p = held-inside in
          let far : at - s.left ≡ depth t s.node - 1 - (s.right - 1 - at) = omega (arith, holds.0.1) in
          ap (λ v. some (get_or t.label v 0)) (up ∙ ap (λ n. lifted t n s.node) far)
          ∙ ap byte_in (sym (ap holder_of e) ∙ is) ∙ recalls
