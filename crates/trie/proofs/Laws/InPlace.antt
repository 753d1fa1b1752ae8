-- Insertion in place, byte by byte: what a byte does to lent tables, and that the bytes follow one another.
use Rattle.std.specs.Prelude.{ℕ, ◌+◌, ◌≤◌, ◌<◌, ◌≡◌, Ok, Err, take, set}
use Rattle.std.proofs.Common.{arith, ◌∙◌, eq-eqb, ne_eqb, get_or-take}
use Rattle.std.proofs.Math.Path.{refl, ap, sym}
use mathlib.Core.List.{List, [], ◌∷◌, ◌++◌}
use Rattle.std.proofs.Math.Option.{Option, some, none}
use Rattle.std.proofs.Math.ListN.{length, length-append}
use Rattle.std.proofs.Math.Seq.{length-take-le}
use Rattle.rules.proofs.Laws.Tests.{split}
use Rattle.rules.specs.Lists.{over}
use Rattle.tables.specs.Tables.{Tables, written}
use Rattle.tables.specs.Walks.{child_by}
use Rattle.trie.specs.Answers.{tables}
use Rattle.trie.specs.Chain.{walked}
use Rattle.trie.specs.InPlace.{Room, Ready, put_first, put_behind, put_child, cut, placed, Kept}
use Rattle.tables.specs.Inserted.{last_of, Grown, with_child, inserted}
use Rattle.tables.specs.Shape.{head, Shape}
use Rattle.tables.proofs.Laws.Shape.{alike, last_found}
use Rattle.trie.proofs.Laws.Chain.{walked_end, walked-child, walked_same, walked-last}
use Rattle.tables.proofs.Laws.NodeAdded.{Sized}
use Rattle.tables.proofs.Laws.WordAdded.{Inserted, inserts}
use Rattle.trie.proofs.Laws.Over.{room-less, over-push, over-change, cut-sized, cut-shape, written-cut, cut-written, written-shape, written-kept, written-room, written-written}

-- the store that a new child wants, by the last child so far
module _ (t : Tables) (new v last x : ℕ) where
  pub put-as-first : last ≡ 0 → put_first t new v x ≡ put_child t new v last x
  put-as-first e = cc (eq-eqb last 0 e)

  pub put-as-last : (last ≡ 0 → ⊥) → put_behind t new v last x ≡ put_child t new v last x
  put-as-last d = cc (ne_eqb last 0 d)

-- a byte x whose child of v is there, or is new, and then the bytes xs
abbrev after : Tables → ℕ → ℕ → List ℕ → Option ℕ → Grown
after t v x xs o = elim o [ some w ↦ inserted t w xs | none ↦ inserted (with_child t v x).tables (with_child t v x).node xs ]

abbrev find_of : Tables → ℕ → ℕ → Option ℕ
find_of t v x = child_by t (length t.parent) v x

inserted-on : (t : Tables) (v x : ℕ) (xs : List ℕ)
    → inserted t v (x ∷ xs) ≡ inserted (inserted t v (x ∷ [])).tables (inserted t v (x ∷ [])).node xs
inserted-on t v x xs = go (find_of t v x)
  where
    go : (o : Option ℕ) → after t v x xs o ≡ inserted (after t v x [] o).tables (after t v x [] o).node xs
    go (some w) = refl
    go none = refl

module _ (t : Tables) (n v x : ℕ) (r : Ready t n v 1) where
  abbrev u : Tables
  u = cut n t

  here : Room t n
  here = room-less t (n + 1) n (omega arith) r.room

  z : Sized u n
  z = cut-sized t n here

  s : Shape u n
  s = cut-shape t n here r.shape

  head-same : head t v ≡ head u v
  head-same = sym (get_or-take n t.first v 0 r.inside)

  -- the walk over the lent tables is one over the nodes alone
  walk_same : (at : ℕ) → at ≡ head t v → walked t.label t.next x n 0 at ≡ walked u.label u.next x n 0 (head u v)
  walk_same at e =
      rw (e, head-same)
      (walked_same u x n s t.label t.next (λ w h. sym (get_or-take n t.label w 0 h)) (λ w h. sym (get_or-take n t.next w 0 h))
      n 0 (head u v) (λ a. ((s.heads v r.inside).node a).1))

  find-is : find_of u v x ≡ child_by u n v x
  find-is = ap (λ m. child_by u m v x) z.parents

  pub step-found : (at w : ℕ) → at ≡ head t v → Ok w ≡ walked t.label t.next x n 0 at
      → record { tables = t; count = n; node = w } ≡ placed t n v (x ∷ [])
  unfolding placed
  step-found at w e f =
      let q : inserted u v (x ∷ []) ≡ record { tables = u; node = w }
      = ap (after u v x []) (find-is ∙ sym (walked-child u x n v (head u v) (Ok w) refl (f ∙ walk_same at e))) in
      sym (rw (q, written-cut t n here, z.parents))

  -- the new child is the first of v's children, or comes behind the last of them
  abbrev w : Tables
  w = (with_child u v x).tables

  put : (first next : List ℕ) → over w.first t.first ≡ first → over w.next t.next ≡ next
      → written w t ≡ tables (set t.parent n v) (set t.label n x) (set t.token n 0) first next t.shift
  put first next e f =
      alike (written w t) (tables (set t.parent n v) (set t.label n x) (set t.token n 0) first next t.shift)
      (over-push n v t.parent (omega (arith, r.room.parents))) (over-push n x t.label (omega (arith, r.room.labels)))
      (over-push n 0 t.token (omega (arith, r.room.tokens))) e f refl

  put_first_lem : head u v ≡ 0 → written w t ≡ put_first t n v x
  put_first_lem e =
      let y = eq-eqb (head u v) 0 e in
      put _ _ (rw (y, z.parents) (over-change n 0 v n t.first (omega (arith, r.room.firsts)) r.inside))
      (rw y (over-push n 0 t.next (omega (arith, r.room.nexts))))

  put-behind : (head u v ≡ 0 → ⊥) → (last : ℕ) → last ≡ last_of u n (head u v) → last < n → written w t ≡ put_behind t n v last x
  put-behind d last l h =
      let y = ne_eqb (head u v) 0 d in
      put _ _ (rw y (over-push n 0 t.first (omega (arith, r.room.firsts))))
      (rw (y, z.parents, ← l) (over-change n 0 last n t.next (omega (arith, r.room.nexts)) h))

  put-child : (last : ℕ) → Err last ≡ walked u.label u.next x n 0 (head u v)
      → (last < n) × (put_child t n v last x ≡ written w t)
  put-child last f = split (head u v) 0
      (λ e. let q : Err last ≡ Err 0 = f ∙ walked_end u.label u.next x n 0 (head u v) e in
      let l : last ≡ 0 = cc in
      (omega (arith, r.inside), sym (put_first_lem e ∙ put-as-first t n v last x l)))
      (λ d. let k = (s.heads v r.inside).node (omega arith) in
      let l = walked-last u x n s n 0 (head u v) last k.0 k.1 (omega arith) (sym f) in
      let m = last_found u n s v n (head u v) k.0 k.1 k.2 (omega arith) in
      let h : last < n = omega (arith, m.below) in
      (h, sym (put-behind d last l h ∙ put-as-last t n v last x (λ q. omega (arith, m.above)))))

  pub step-ends : (at last : ℕ) → at ≡ head t v → Err last ≡ walked t.label t.next x n 0 at
      → (last < n) × (record { tables = put_child t n v last x; count = n + 1; node = n } ≡ placed t n v (x ∷ []))
  unfolding placed
  step-ends at last e f =
      let g : Err last ≡ walked u.label u.next x n 0 (head u v) = f ∙ walk_same at e in
      let q : inserted u v (x ∷ []) ≡ with_child u v x
      = ap (after u v x []) (find-is ∙ sym (walked-child u x n v (head u v) (Err last) refl g)) in
      let p = put-child last g in
      let m : length (take n t.parent ++ (v ∷ [])) ≡ n + 1 = length-append (take n t.parent) (v ∷ []) ∙ omega (arith, z.parents) in
      (p.0, sym (rw (q, ← p.1, m, z.parents)))

-- the nodes of u stand in front of t
module _ (t u : Tables) (n v : ℕ) (z : Sized u n) (s : Shape u n) (v< : v < n) where
  pub placed-written : (xs : List ℕ) → let g = inserted u v xs in
      placed (written u t) n v xs ≡ record { tables = written g.tables t; count = length g.tables.parent; node = g.node }
  unfolding placed
  placed-written xs =
      let i = inserts xs u n v z s v< in
      rw (cut-written t u n z, written-written t u n z (inserted u v xs).tables i.size i.sized i.more)

module _ (t : Tables) (n v k : ℕ) (r : Ready t n v k) where
  pub ready-less : (j : ℕ) → j ≤ k → Ready t n v j
  ready-less j h = record {
    shape = r.shape;
    inside = r.inside;
    room = room-less t (n + k) (n + j) (omega arith) r.room;
    small = omega (arith, r.small);
  }

  room : Room t n
  room = room-less t (n + k) n (omega arith) r.room

  pub place_none : placed t n v [] ≡ record { tables = t; count = n; node = v }
  unfolding placed
  place_none = rw (written-cut t n room, length-take-le n t.parent room.parents)

  module _ (xs : List ℕ) where
    abbrev g : Grown
    g = inserted (cut n t) v xs

    i : Inserted (cut n t) n v xs g
    i = inserts xs (cut n t) n v (cut-sized t n room) (cut-shape t n room r.shape) r.inside

    abbrev size : ℕ
    size = length g.tables.parent

    sized : Sized g.tables size
    sized = rw (← i.sized.parents) at i.sized

    shape : Shape g.tables size
    shape = rw (← i.sized.parents) at i.shape

    inside : g.node < size
    inside = rw (← i.sized.parents) at i.inside

    few : size ≤ n + length xs
    few = omega (arith, i.few, i.sized.parents)

    pub place-ready : (j : ℕ) → length xs + j ≤ k → Ready (placed t n v xs).tables (placed t n v xs).count (placed t n v xs).node j
    unfolding placed
    place-ready j h = record {
      shape = written-shape t g.tables size sized shape;
      inside = inside;
      room = written-room t g.tables size sized (size + j) (omega arith)
          (room-less t (n + k) (size + j) (omega (arith, few)) r.room);
      small = omega (arith, few, r.small);
    }

    pub place_kept : length xs ≤ k → Kept t (placed t n v xs).tables
    unfolding placed
    place_kept h = written-kept t g.tables size sized (room-less t (n + k) size (omega (arith, few)) r.room)

  -- one byte, and then others
  pub place-on : (x : ℕ) (xs : List ℕ)
      → placed t n v (x ∷ xs) ≡ placed (placed t n v (x ∷ [])).tables (placed t n v (x ∷ [])).count (placed t n v (x ∷ [])).node xs
  unfolding placed
  place-on x xs =
      let y = x ∷ [] in
      rw (inserted-on (cut n t) v x xs) (sym (placed-written t (g y).tables (size y) (g y).node (sized y) (shape y) (inside y) xs))
