-- The loop that goes down from a boundary: the rest of the way from here is the whole way.
use Prim.Native.Nat.{ℕ, zero, suc, ◌+◌, ◌-◌, ◌≤◌, ◌<◌}
use native.Mathlib.Omega.{arith}
use native.Mathlib.Numerals.{add-one}
use mathlib.Core.Path.{◌≡◌, refl, ap, sym, subst, ◌∙◌}
use mathlib.Core.Bool.{true, false, ◌||◌}
use mathlib.Core.List.{List, [], ◌∷◌}
use mathlib.Core.Option.{Option, some, none}
use borrow.Author.Tests.{ne_eqb}
use lib.Dec.{eqb}
use lib.ListN.{length, get_or, set}
use lib.Seq.{get_or-set_same, get_or-set_other}
use Rattle.rules.specs.Rules.{Tree}
use Rattle.tables.specs.Walks.{child_by}
use Rattle.std.specs.Prelude.{Option as Answer, Some, None}
use Rattle.rules.specs.Options.{option_of}
use Rattle.tables.specs.Tables.{Tables}
use Rattle.trie.specs.Chain.{Kids}
use Rattle.image.specs.declared.walk.Arrival.{Arrival}
use Rattle.image.specs.Rounds.{meeting, down, reached}
use Rattle.image.specs.Walk.{tree_in, Walkable, newest, Descending, stop_of, arrival_of, Arrived}
use Rattle.image.proofs.Laws.Roots.{down-deeper}
use Rattle.image.proofs.Laws.WalkChildren.{child-in, child-below, root-shut, root-child}
use Rattle.image.proofs.Laws.Walk.{ended, down-stop, down-shut, down-on}

-- The numbers that are kept.
pub newest-length : (l : List ℕ) (n : ℕ) → length (newest l n) ≡ n
newest-length l zero = refl
newest-length l (suc n) = cc (newest-length l n)

pub newest-set : (l : List ℕ) (k x n : ℕ) → n ≤ k → newest (set l k x) n ≡ newest l n
newest-set l k x zero h = refl
newest-set l k x (suc n) h =
    ap (λ y. y ∷ newest (set l k x) n) (get_or-set_other l k n x 0 (λ e. omega arith)) ∙ ap (λ m. get_or l n 0 ∷ m) (newest-set l k x n (omega arith))

-- A number more is kept, or none.
pub keep-none : (l : List ℕ) (n i : ℕ) → i ≡ 0 → (n ≡ length (meeting (newest l n) i)) × (newest l n ≡ meeting (newest l n) i)
keep-none l n i e = rw e (sym (newest-length l n), refl)

pub keep_some : (l : List ℕ) (n i : ℕ) → (i ≡ 0 → ⊥) → n < length l
    → (n + 1 ≡ length (meeting (newest l n) i)) × (newest (set l n i) (n + 1) ≡ meeting (newest l n) i)
keep_some l n zero h k = absurd (h refl)
keep_some l n (suc i) h k = (
  omega (arith, newest-length l n),
  rw add-one (ap (λ y. y ∷ newest (set l n (suc i)) n) (get_or-set_same l n (suc i) 0 k) ∙ ap (λ m. suc i ∷ m) (newest-set l n (suc i) n (omega arith))),
)

pub meeting-few : (m : List ℕ) (i : ℕ) → length (meeting m i) ≤ length m + 1
meeting-few m zero = omega arith
meeting-few m (suc i) = omega arith

module _ {tables : Tables} {count : ℕ} (t : Walkable tables count) (image : List ℕ) (b : ℕ) where
  abbrev tree : Tree ℕ
  tree = tree_in tables count

  abbrev arrived : List ℕ → Arrival → Type 0
  arrived = Arrived tables count image b

  -- a way that goes on from here
  pub begins : (fuel w d m : ℕ) (kept l : List ℕ) → w < count → d ≤ b → m ≤ d → fuel ≡ suc (b - d) → newest kept m ≡ l
      → down tree image b fuel w d l ≡ reached tree image b → Descending tables image kept count b w d m
  begins fuel w d m kept l h u f z q e =
      let rest : down tree image b (suc (b - d)) w d (newest kept m) ≡ reached tree image b = rw (q, ← z) e in
      record {
        held = h;
        upto = u;
        few = f;
        deep = subst (λ r. d ≤ r.depth) rest (down-deeper tree image b (suc (b - d)) w d (newest kept m));
        rest = rest;
      }

  -- The first step: the root's children are at hand.
  module _ (some_byte : 0 < b) (x w : ℕ) (is : x ≡ get_or image (b - 1) 0) (byte : x < 256)
      (kids : List ℕ) (k : Kids tables.label tables.first tables.next count kids) (to : w ≡ get_or kids x 0) where
    place : x ≡ get_or image (b - 1 - 0) 0
    place = let e : b - 1 - 0 ≡ b - 1 = omega arith in rw e is

    starts : (tree.leaf 0 || eqb 0 b) ≡ false
    starts = cc (t.rooted, ne_eqb 0 b (λ e. omega arith))

    pub descend-none : w ≡ 0 → (kept : List ℕ) → arrived kept (record { node = 0; depth = 0; closing = Some x; met = 0 })
    descend-none e kept =
        let is : down tree image b (suc b) 0 0 [] ≡ ended 0 0 (some x) [] =
        down-shut tree image b b 0 0 [] x starts place (root-shut tables count k x byte (sym to ∙ e)) in
        (sym (ap arrival_of is), (sym (ap (λ r. r.tokens) is), omega arith))

    child-of : (w ≡ 0 → ⊥) → tree.child 0 x ≡ some w
    child-of h = root-child tables count k x byte w to h

    pub child-held : (w ≡ 0 → ⊥) → w < count
    child-held h = t.below 0 x w t.some-node (child-of h)

    rooted_on : (w ≡ 0 → ⊥) → down tree image b b w 1 (meeting [] (get_or tables.token w 0)) ≡ reached tree image b
    rooted_on h = sym (down-on tree image b b 0 0 [] x starts place w (child-of h))

    -- it is at least one deep
    pub some-depth : (w ≡ 0 → ⊥) → 1 ≤ (reached tree image b).depth
    some-depth h = subst (λ r. 1 ≤ r.depth) (rooted_on h) (down-deeper tree image b b w 1 (meeting [] (get_or tables.token w 0)))

    pub descend-begins : (w ≡ 0 → ⊥) → (kept : List ℕ) (m : ℕ) → m ≡ length (meeting [] (get_or tables.token w 0)) → newest kept m ≡ meeting [] (get_or tables.token w 0)
        → Descending tables image kept count b w 1 m
    descend-begins h kept m e q =
        begins b w 1 m kept _ (child-held h) some_byte (omega (arith, e, meeting-few [] (get_or tables.token w 0))) (omega arith) q (rooted_on h)

  -- A turn: the node has children, and bytes are left.
  module _ {kept : List ℕ} {node depth m : ℕ} (l : Descending tables image kept count b node depth m) where
    pub arrives : (s : Option ℕ) → down tree image b (suc (b - depth)) node depth (newest kept m) ≡ ended node depth s (newest kept m)
        → arrived kept (record { node = node; depth = depth; closing = stop_of s; met = m })
    arrives s e =
        let is = sym e ∙ l.rest in (
          ap (λ n. record { node = node; depth = depth; closing = stop_of s; met = n }) (sym (newest-length kept m)) ∙ ap arrival_of is,
          (ap (λ r. r.tokens) is, l.few),
        )

    pub descend-done : (tree.leaf node || eqb depth b) ≡ true → arrived kept (record { node = node; depth = depth; closing = None; met = m })
    descend-done h = arrives none (down-stop tree image b (b - depth) node depth (newest kept m) h)

    module _ (on : (tree.leaf node || eqb depth b) ≡ false) (x : ℕ) (is : x ≡ get_or image (b - 1 - depth) 0)
        (k : Answer ℕ) (found : option_of k ≡ child_by tables count node x) where
      pub descend-shut : k ≡ None → arrived kept (record { node = node; depth = depth; closing = Some x; met = m })
      descend-shut e =
          arrives (some x) (down-shut tree image b (b - depth) node depth (newest kept m) x on is (child-in tables count node x k None found e))

      module _ (v : ℕ) (e : k ≡ Some v) (h : depth ≡ b → ⊥) where
        goes_on : down tree image b (b - depth) v (depth + 1) (meeting (newest kept m) (get_or tables.token v 0)) ≡ reached tree image b
        goes_on = sym (down-on tree image b (b - depth) node depth (newest kept m) x on is v (child-in tables count node x k (Some v) found e)) ∙ l.rest

        -- there is room for one more
        pub more-depth : depth < (reached tree image b).depth
        more-depth = omega (
          arith,
          subst (λ r. depth + 1 ≤ r.depth) goes_on (down-deeper tree image b (b - depth) v (depth + 1) (meeting (newest kept m) (get_or tables.token v 0))),
        )

        pub descend-again : (kept' : List ℕ) (m' : ℕ) → m' ≡ length (meeting (newest kept m) (get_or tables.token v 0))
            → newest kept' m' ≡ meeting (newest kept m) (get_or tables.token v 0) → Descending tables image kept' count b v (depth + 1) m'
        descend-again kept' m' q r =
            begins (b - depth) v (depth + 1) m' kept' _ (child-below tables count t node x v l.held k found e)
            (omega (arith, l.upto)) (omega (arith, q, meeting-few (newest kept m) (get_or tables.token v 0), newest-length kept m, l.few))
            (omega (arith, l.upto)) r goes_on
