-- What a walk down the tree does to the entries: the nodes on its way are lowered in `met`, its end in `whole`, and no other.
use Rattle.std.specs.Prelude.{ℕ, zero, suc, ◌+◌, ◌≤◌, ◌<◌, min, ◌≡◌, refl, Bool, true, false, ◌||◌, ltb, length, get_or, drop, set}
use Rattle.std.proofs.Common.{arith, ap, sym, ◌∙◌, ltb-true, ltb-false, length-set, get_or-set_other, drop_at, drop-drop}
use mathlib.Core.List.{List, [], ◌∷◌, reverse, reverse_aux, reverse_aux-eq}
use Rattle.std.proofs.Math.Option.{Option, some, none}
use Rattle.std.proofs.lemmas.List.{length-reverse}
use Rattle.rules.specs.Lists.{same, any_of, over}
use Rattle.rules.proofs.Laws.Tests.{decide, clash, false-test, split}
use Rattle.rules.proofs.Laws.Endings.{same_refl, same→eq}
use Rattle.tables.specs.Tables.{Tables}
use Rattle.tables.specs.Walks.{child_by, ending, lifted}
use Rattle.tables.specs.Shape.{up, Shape}
use Rattle.tables.proofs.Laws.Shape.{Found, falling, way-lifts, child-found, ending-step, ending-cons, ending-apart}
use Rattle.tables.proofs.Laws.Order.{upwards}
use Rattle.trie.specs.Filling.{Lows, lowered, walked_at}
use Rattle.trie.proofs.Laws.Over.{over-set}
use Rattle.trie.proofs.Laws.Filling.Least.{cut, cut-cut}

-- An entry that is set no higher is what it is set to, also where the list has none: both are 0 then.
pub set-low : (l : List ℕ) (v a : ℕ) → a ≤ get_or l v 0 → get_or (set l v a) v 0 ≡ a
set-low [] v a h = omega arith
set-low (x ∷ l) zero a h = refl
set-low (x ∷ l) (suc v) a h = set-low l v a h

module _ (l : List ℕ) (v s : ℕ) where
  pub lowered-same : get_or (lowered l v s) v 0 ≡ min (get_or l v 0) s
  lowered-same = decide (λ m. get_or m v 0 ≡ min (get_or l v 0) s) (ltb s (get_or l v 0)) _ _
      (λ t. let h = ltb-true s (get_or l v 0) t in set-low l v s (omega arith) ∙ omega arith) (λ f. omega (arith, ltb-false s (get_or l v 0) f))

  pub lowered-other : (w : ℕ) → (w ≡ v → ⊥) → get_or (lowered l v s) w 0 ≡ get_or l w 0
  lowered-other w d = decide (λ m. get_or m w 0 ≡ get_or l w 0) (ltb s (get_or l v 0)) _ _ (λ _. get_or-set_other l v w s 0 d) (λ _. refl)

-- the first n entries are l's own, and what follows them is met's
abbrev pub Front : ℕ → List ℕ → List ℕ → Type 0
Front n met l = (m : List ℕ) × (length m ≡ n) × (l ≡ over m met)

pub front-set : (n : ℕ) (met l : List ℕ) (v a : ℕ) → v < n → Front n met l → Front n met (set l v a)
front-set n met l v a h f = (set f.0 v a, length-set f.0 v a ∙ f.1, rw f.2 (over-set f.0 met v a (omega (arith, f.1))))

pub front-lowered : (n : ℕ) (met l : List ℕ) (v s : ℕ) → v < n → Front n met l → Front n met (lowered l v s)
front-lowered n met l v s h f = decide (Front n met) (ltb s (get_or l v 0)) _ _ (λ _. front-set n met l v s h f) (λ _. f)

-- an ending that is u, or on the way on from u, has u at its end
on-way : (e xs u : List ℕ) (b : Bool) → same e u ≡ b → (b || any_of (same e) (upwards xs u)) ≡ true → (j : ℕ) × (drop j e ≡ u)
on-way e [] u true q h = (0, same→eq e u q)
on-way e [] u false q h = absurd (clash _ h refl)
on-way e (y ∷ ys) u true q h = (0, same→eq e u q)
on-way e (y ∷ ys) u false q h =
    let r = on-way e ys (y ∷ u) (same e (y ∷ u)) refl h in (r.0 + 1, sym (drop-drop 1 r.0 e) ∙ ap (drop 1) r.1)

module _ (t : Tables) (n : ℕ) (s : Shape t n) where
  lowered-at : (l : List ℕ) (c k v : ℕ) → v < n → c < n → get_or (lowered l c k) v 0 ≡ cut (same (ending t v) (ending t c)) k (get_or l v 0)
  lowered-at l c k v a b = split v c
      (λ e. rw (e, same_refl) (lowered-same l c k))
      (λ d. rw (false-test (same (ending t v) (ending t c)) (λ h. d (ending-apart t n s v c a b (same→eq _ _ h)))) (lowered-other l c k v d))

  -- The walk from an ending e by the bytes xs, at k, makes l' of l.
  pub record Walked (k : ℕ) (xs e : List ℕ) (l l' : Lows) : Type 0 where
    pub mets : (v : ℕ) → v < n → get_or l'.met v 0 ≡ cut (any_of (same (ending t v)) (upwards xs e)) k (get_or l.met v 0)
    pub wholes : (v : ℕ) → v < n → get_or l'.whole v 0 ≡ cut (same (ending t v) (reverse_aux xs e)) k (get_or l.whole v 0)
    pub fronts : (met : List ℕ) → Front n met l.met → Front n met l'.met

  -- where a node has no child for x, no node has that byte before its ending
  childless : (u x : ℕ) → u < n → Found t n u 0 x none → (v j : ℕ) → v < n → drop j (ending t v) ≡ x ∷ ending t u → ⊥
  childless u x h f v j a e =
      let q = way-lifts t n (falling t n s) j v a in
      let c = ending-cons t n s (lifted t j v) x (ending t u) q.0 (q.1 ∙ e) in
      f (lifted t j v) c.0 q.0 (ending-apart t n s (up t (lifted t j v)) u (omega (arith, s.ups (lifted t j v) c.0 q.0)) h c.2) c.1

  pub walks : (k : ℕ) (xs : List ℕ) (u : ℕ) (l : Lows) → u < n → Walked k xs (ending t u) l (walked_at (child_by t n) k xs u l)
  walks k [] u l h = record { mets = λ v a. refl; wholes = λ v a. lowered-at l.whole u k v a h; fronts = λ met f. f }
  walks k (x ∷ xs) u l h = go (child_by t n u x) (child-found t n s u x h) (walks k xs)
    where
      go : (o : Option ℕ) → Found t n u 0 x o
          → ((c : ℕ) (l : Lows) → c < n → Walked k xs (ending t c) l (walked_at (child_by t n) k xs c l))
          → Walked k (x ∷ xs) (ending t u) l (elim o [
            | none ↦ l
            | some c ↦ walked_at (child_by t n) k xs c (record { met = lowered l.met c k; whole = l.whole })
          ])
      go none f again = record {
        mets = λ v a. rw (false-test (any_of (same (ending t v)) (upwards (x ∷ xs) (ending t u))) (λ e.
            let r = on-way (ending t v) xs (x ∷ ending t u) _ refl e in childless u x h f v r.0 a r.1));
        wholes = λ v a. rw (false-test (same (ending t v) (reverse_aux (x ∷ xs) (ending t u))) (λ e.
            childless u x h f v (length xs) a (ap (drop (length xs)) (same→eq _ _ e ∙ reverse_aux-eq xs (x ∷ ending t u))
            ∙ drop_at (reverse xs) (x ∷ ending t u) (length xs) (length-reverse xs))));
        fronts = λ met g. g;
      }
      go (some c) f again =
          let e : ending t c ≡ x ∷ ending t u = cc (ending-step t n s c f.0 f.1) in
          let r = again c (record { met = lowered l.met c k; whole = l.whole }) f.1 in
          record {
            mets = λ v a.
                let b = any_of (same (ending t v)) (upwards xs (ending t c)) in
                rw (← e) (r.mets v a ∙ ap (cut b k) (lowered-at l.met c k v a f.1) ∙ cut-cut (same (ending t v) (ending t c)) b k (get_or l.met v 0));
            wholes = λ v a. rw (← e) (r.wholes v a);
            fronts = λ met g. r.fronts met (front-lowered n met l.met c k f.1 g);
          }
