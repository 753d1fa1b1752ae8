-- Lists and tables with others written over their fronts.
use Rattle.std.specs.Prelude.{ℕ, suc, ◌≤◌, ◌<◌, ◌≡◌, refl, List, [], ◌∷◌, ◌++◌, length, get_or, take, drop, set}
use Rattle.std.proofs.Common.{arith, sym, length-append, length-set, take-append-drop, length-take-le, take_at, drop-set-lt, get_or-take}
use Rattle.std.proofs.Math.ListN.{get_or-append}
use Rattle.std.proofs.Math.Seq.{append_snoc, take-set-lt}
use Rattle.std.proofs.lemmas.List.{set_split, set_comm, set-append_left}
use Rattle.rules.specs.Lists.{over}
use Rattle.rules.proofs.Laws.Over.{over-length, over-over}
use Rattle.tables.specs.Tables.{Tables, written}
use Rattle.tables.specs.Shape.{Shape}
use Rattle.trie.specs.InPlace.{Room, cut, Kept}
use Rattle.tables.proofs.Laws.Shape.{alike}
use Rattle.tables.proofs.Laws.NodeAdded.{Sized}
use Rattle.tables.proofs.Laws.WordsAdded.{shape-agree}

pub room-less : (t : Tables) (n m : ℕ) → m ≤ n → Room t n → Room t m
room-less t n m h r = record {
  parents = omega (arith, r.parents);
  labels = omega (arith, r.labels);
  tokens = omega (arith, r.tokens);
  firsts = omega (arith, r.firsts);
  nexts = omega (arith, r.nexts);
}

over-take : (n : ℕ) (l : List ℕ) → n ≤ length l → over (take n l) l ≡ l
over-take n l h = rw (length-take-le n l h) (take-append-drop n l)

-- a store at the end appends, where the tail is as it was
push-over : (n y : ℕ) (l l' : List ℕ) → n < length l' → drop (suc n) l ≡ drop (suc n) l' → over (take n l' ++ (y ∷ [])) l ≡ set l' n y
push-over n y l l' h d =
    let e : length (take n l' ++ (y ∷ [])) ≡ suc n = simp (length-append, length-take-le n l' (omega arith)) (omega arith) in
    rw (e, d, append_snoc) (sym (set_split l' n y h))

pub over-push : (n y : ℕ) (l : List ℕ) → n < length l → over (take n l ++ (y ∷ [])) l ≡ set l n y
over-push n y l h = push-over n y l l h refl

pub over-change : (n y i a : ℕ) (l : List ℕ) → n < length l → i < n → over (set (take n l) i a ++ (y ∷ [])) l ≡ set (set l n y) i a
over-change n y i a l h k =
    rw (← take-set-lt n l i a k, set_comm l n i y a (λ e. omega arith))
    (push-over n y l (set l i a) (rw length-set h) (sym (drop-set-lt (suc n) l i a (omega arith))))

-- a store in front stays there
pub over-set : (m l : List ℕ) (i a : ℕ) → i < length m → set (over m l) i a ≡ over (set m i a) l
over-set m l i a h = rw (set-append_left m (drop (length m) l) i a h, length-set)

module _ (t : Tables) (n : ℕ) (r : Room t n) where
  pub cut-sized : Sized (cut n t) n
  cut-sized = record {
    parents = length-take-le n t.parent r.parents;
    labels = length-take-le n t.label r.labels;
    tokens = length-take-le n t.token r.tokens;
    firsts = length-take-le n t.first r.firsts;
    nexts = length-take-le n t.next r.nexts;
    shifts = refl;
  }

  pub cut-shape : Shape t n → Shape (cut n t) n
  cut-shape s =
      shape-agree t (cut n t) n s
      (record { up_same = λ v h. get_or-take n t.parent v 0 h; tag_same = λ v h. get_or-take n t.label v 0 h })
      (record { head-same = λ v h. get_or-take n t.first v 0 h; sib-same = λ v h. get_or-take n t.next v 0 h })

  pub written-cut : written (cut n t) t ≡ t
  written-cut =
      alike (written (cut n t) t) t (over-take n t.parent r.parents) (over-take n t.label r.labels)
      (over-take n t.token r.tokens) (over-take n t.first r.firsts) (over-take n t.next r.nexts) refl

module _ (t u : Tables) (n : ℕ) (z : Sized u n) where
  pub cut-written : cut n (written u t) ≡ u
  cut-written =
      alike (cut n (written u t)) u (take_at u.parent _ n z.parents) (take_at u.label _ n z.labels)
      (take_at u.token _ n z.tokens) (take_at u.first _ n z.firsts) (take_at u.next _ n z.nexts) (sym z.shifts)

  -- the tables written say of the first nodes what u says
  front : (m l : List ℕ) (v : ℕ) → length m ≡ n → v < n → get_or (over m l) v 0 ≡ get_or m v 0
  front m l v e h = get_or-append m (drop (length m) l) 0 v (omega arith)

  pub written-shape : Shape u n → Shape (written u t) n
  written-shape s =
      shape-agree u (written u t) n s
      (record { up_same = λ v h. front u.parent t.parent v z.parents h; tag_same = λ v h. front u.label t.label v z.labels h })
      (record { head-same = λ v h. front u.first t.first v z.firsts h; sib-same = λ v h. front u.next t.next v z.nexts h })

  pub written-kept : Room t n → Kept t (written u t)
  written-kept r = record {
    parents = over-length u.parent t.parent (omega (arith, r.parents, z.parents));
    labels = over-length u.label t.label (omega (arith, r.labels, z.labels));
    tokens = over-length u.token t.token (omega (arith, r.tokens, z.tokens));
    firsts = over-length u.first t.first (omega (arith, r.firsts, z.firsts));
    nexts = over-length u.next t.next (omega (arith, r.nexts, z.nexts));
  }

  pub written-room : (m : ℕ) → n ≤ m → Room t m → Room (written u t) m
  written-room m h r =
      let k = written-kept (room-less t m n h r) in
      record {
        parents = omega (arith, r.parents, k.parents);
        labels = omega (arith, r.labels, k.labels);
        tokens = omega (arith, r.tokens, k.tokens);
        firsts = omega (arith, r.firsts, k.firsts);
        nexts = omega (arith, r.nexts, k.nexts);
      }

  pub written-written : (w : Tables) (m : ℕ) → Sized w m → n ≤ m → written w (written u t) ≡ written w t
  written-written w m y h =
      alike (written w (written u t)) (written w t)
      (over-over u.parent w.parent t.parent (omega (arith, z.parents, y.parents)))
      (over-over u.label w.label t.label (omega (arith, z.labels, y.labels)))
      (over-over u.token w.token t.token (omega (arith, z.tokens, y.tokens)))
      (over-over u.first w.first t.first (omega (arith, z.firsts, y.firsts)))
      (over-over u.next w.next t.next (omega (arith, z.nexts, y.nexts)))
      (rw (z.shifts, y.shifts))
