-- A run of equal bytes that ends at the boundary: the way down goes by the powers of its byte.
use Prim.Native.Nat.{ℕ, zero, suc, ◌+◌, ◌-◌, ◌≤◌, ◌<◌, min}
use native.Mathlib.Omega.{arith}
use native.Mathlib.Numerals.{add-one}
use mathlib.Core.Path.{◌≡◌, refl, ap, sym, ◌∙◌}
use mathlib.Core.Bool.{true}
use mathlib.Core.List.{List, ◌∷◌, ◌++◌}
use mathlib.Core.Option.{some}
use lib.ListN.{length, get_or, take, length-take, get_or-append}
use Rattle.std.proofs.lemmas.List.{get_or-take}
use Rattle.rules.specs.Rules.{Tree}
use Rattle.tables.specs.Walks.{along}
use Rattle.tables.specs.Tables.{Tables}
use Rattle.std.specs.Prelude.{Some}
use Rattle.image.specs.declared.runs.Runs.{Runs}
use Rattle.image.specs.Rounds.{down, reached}
use Rattle.image.specs.Walk.{tree_in, Walkable, newest, Descending, Arrived}
use Rattle.image.specs.Runs.{Powers, Followed}
use Rattle.image.proofs.Laws.Walk.{goes_on, down-shut, down-on}
use Rattle.image.proofs.Laws.WalkDescend.{begins, arrives}

-- The first n numbers are copied.
taken : (numbers rest : List ℕ) (n : ℕ) → n ≤ length numbers → (i : ℕ) → i ≤ n → newest (take n numbers ++ rest) i ≡ newest numbers i
taken numbers rest n h zero l = refl
taken numbers rest n h (suc i) l =
    ap (λ y. y ∷ newest (take n numbers ++ rest) i)
    (get_or-append (take n numbers) rest 0 i (omega (arith, length-take n numbers)) ∙ get_or-take n numbers i 0 (omega arith))
    ∙ ap (λ m. get_or numbers i 0 ∷ m) (taken numbers rest n h i (omega arith))

pub copied : (front rest numbers : List ℕ) (n : ℕ) → front ≡ take n numbers → n ≤ length numbers → newest (front ++ rest) n ≡ newest numbers n
copied front rest numbers n e h = rw e (taken numbers rest n h n (omega arith))

-- A chain with a node for x is not empty.
some_first : (t : Tables) (x fuel at w : ℕ) → along t x fuel at ≡ some w → at ≡ 0 → ⊥
some_first t x zero at w h e = let z : ◌≡◌ {A = ℕ} 0 1 = cc in omega arith
some_first t x (suc fuel) at w h e = let z : ◌≡◌ {A = ℕ} 0 1 = cc in omega arith

module _ {tables : Tables} {count : ℕ} (t : Walkable tables count) (image : List ℕ) (b : ℕ)
    {runs : Runs} (f : Followed tables count image runs) (till : runs.till ≡ b) where
  abbrev tree : Tree ℕ
  tree = tree_in tables count

  abbrev power : List ℕ
  power = runs.power

  abbrev upto : List ℕ
  upto = runs.upto

  abbrev numbers : List ℕ
  numbers = runs.numbers

  abbrev p : Powers tables count runs.byte runs.known runs.ended power upto numbers
  p = f.powers

  -- the bytes of the run
  bytes : (j : ℕ) → j < b - runs.from → runs.byte ≡ get_or image (b - 1 - j) 0
  bytes j h = sym (f.equal (b - 1 - j) (omega arith) (omega arith) ∙ f.byte (omega arith))

  -- As far as the powers are known and the run goes, the rest of the way from a power is the whole way.
  to-power : (k : ℕ) → k ≤ runs.known → k ≤ b - runs.from
      → reached tree image b ≡ down tree image b (suc (b - k)) (get_or power k 0) k (newest numbers (get_or upto k 0))
  to-power zero h g = let z : b - 0 ≡ b = omega arith in rw (p.root, p.empty, z) refl
  to-power (suc k) h g =
      let c = p.child k (omega arith) in
      let on = goes_on (get_or tables.first (get_or power k 0) 0) k b (λ e. some_first tables runs.byte count _ _ c e) (λ e. omega arith) in
      let step = to-power k (omega arith) (omega arith)
      ∙ down-on tree image b (b - k) (get_or power k 0) k (newest numbers (get_or upto k 0)) runs.byte on (bytes k (omega arith)) (get_or power (k + 1) 0) c in
      let z : b - k ≡ suc (b - suc k) = omega arith in
      rw (← p.met k (omega arith), add-one, z) at step

  module _ (k : ℕ) (least : k ≡ min (b - runs.from) runs.known) where
    -- The way goes on from the power with the powers' tokens kept.
    pub along-begins : (kept : List ℕ) → newest kept (get_or upto k 0) ≡ newest numbers (get_or upto k 0)
        → Descending tables image kept count b (get_or power k 0) k (get_or upto k 0)
    along-begins kept q =
        begins t image b (suc (b - k)) (get_or power k 0) k (get_or upto k 0) kept _ (p.held k (omega arith)) (omega arith)
        (p.rising k (omega arith)).0 refl q (sym (to-power k (omega arith) (omega arith)))

    -- there is room for these
    pub along-room : (n : ℕ) → (reached tree image b).depth ≤ n → (get_or upto k 0 ≤ length numbers) × (get_or upto k 0 ≤ n)
    along-room n h =
        let l = along-begins numbers refl in
        (omega (arith, l.few, p.near, p.room), omega (arith, l.few, l.deep))

    -- The powers end within the run: no child has its byte.
    pub along-shut : (kept : List ℕ) → newest kept (get_or upto k 0) ≡ newest numbers (get_or upto k 0)
        → runs.ended ≡ true → k < b - runs.from → (get_or tables.first (get_or power k 0) 0 ≡ 0 → ⊥)
        → Arrived tables count image b kept (record { node = get_or power k 0; depth = k; closing = Some runs.byte; met = get_or upto k 0 })
    along-shut kept q e h g =
        let z : runs.known ≡ k = omega arith in
        arrives t image b (along-begins kept q) (some runs.byte)
        (down-shut tree image b (b - k) (get_or power k 0) k (newest kept (get_or upto k 0)) runs.byte
        (goes_on (get_or tables.first (get_or power k 0) 0) k b g (λ e. omega arith)) (bytes k h) (rw z at (p.last e)))
