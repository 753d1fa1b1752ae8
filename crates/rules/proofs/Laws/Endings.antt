-- What the tests on byte lists say when they pass: equal lists, and endings.
use Rattle.std.specs.Prelude.{ℕ, suc, ◌+◌, ◌-◌, ◌≤◌, ◌≡◌, refl, true, false, ◌||◌, eqb, leb, length, take, drop}
use Rattle.std.proofs.Common.{arith, ap, sym, ◌∙◌, eq-eqb, eqb-true, leb-true, le-leb, length-append, take-append-drop, drop_at}
use mathlib.Core.List.{List, [], ◌∷◌, ◌++◌, reverse, reverse_aux, reverse_aux-eq}
use Rattle.rules.specs.Lists.{same}
use Rattle.rules.specs.Tokens.{ends}
use Rattle.rules.proofs.Laws.Tests.{decide, same_test, false-test, and_l, and_r, or_r}

pub same_refl : (u : List ℕ) → same u u ≡ true
same_refl [] = refl
same_refl (x ∷ u) = cc (eq-eqb x x refl, same_refl u)

pub same→eq : (u t : List ℕ) → same u t ≡ true → u ≡ t
same→eq [] [] h = refl
same→eq [] (y ∷ t) h = cc
same→eq (x ∷ u) [] h = cc
same→eq (x ∷ u) (y ∷ t) h = cc (eqb-true x y (and_l (eqb x y) (same u t) h), same→eq u t (and_r (eqb x y) (same u t) h))

pub same-sym : (u t : List ℕ) → same u t ≡ same t u
same-sym u t = same_test (same u t) (same t u) (λ e. rw (same→eq u t e) (same_refl t)) (λ e. rw (same→eq t u e) (same_refl u))

-- an ending, as what is left of a list without its front
pub ends→front : (u t : List ℕ) → ends u t ≡ true → t ≡ take (length t - length u) t ++ u
ends→front u t h =
    let e : u ≡ drop (length t - length u) t = same→eq u _ (and_r (leb (length u) (length t)) _ h) in
    sym (ap (λ r. take (length t - length u) t ++ r) e ∙ take-append-drop (length t - length u) t)

pub front→ends : (f u t : List ℕ) → t ≡ f ++ u → ends u t ≡ true
front→ends f u t h =
    let l : length t ≡ length f + length u = ap length h ∙ length-append f u in
    let d : drop (length t - length u) t ≡ u = rw h (drop_at f u (length (f ++ u) - length u) (rw length-append (omega arith))) in
    cc (le-leb (length u) (length t) (omega arith), same_refl u)

pub ends-shorter : (u t : List ℕ) → ends u t ≡ true → length u ≤ length t
ends-shorter u t h = leb-true (length u) (length t) (and_l _ _ h)

pub ends-aux : (xs u : List ℕ) → ends u (reverse_aux xs u) ≡ true
ends-aux xs u = front→ends (reverse xs) u (reverse_aux xs u) (reverse_aux-eq xs u)

-- the empty list has no ending but itself
pub ends-nil : (u : List ℕ) → ends u [] ≡ same [] u
ends-nil [] = refl
ends-nil (x ∷ u) = false-test (ends (x ∷ u) []) (λ h. omega (arith, ends-shorter (x ∷ u) [] h))

-- the endings of a longer list are itself and those it had
pub ends-cons : (u t : List ℕ) (x : ℕ) → ends u (x ∷ t) ≡ (same u (x ∷ t) || ends u t)
ends-cons u t x = same_test (ends u (x ∷ t)) (same u (x ∷ t) || ends u t)
    (λ h. go (take (suc (length t) - length u) (x ∷ t)) (ends→front u (x ∷ t) h))
    (λ h. decide (λ _. ends u (x ∷ t) ≡ true) (same u (x ∷ t)) true false
    (λ e. front→ends [] u (x ∷ t) (sym (same→eq u (x ∷ t) e)))
    (λ e. front→ends (x ∷ take (length t - length u) t) u (x ∷ t) (ap (λ r. x ∷ r) (ends→front u t (rw e at h)))))
  where
    go : (f : List ℕ) → x ∷ t ≡ f ++ u → (same u (x ∷ t) || ends u t) ≡ true
    go [] e = cc (same_refl u)
    go (y ∷ f) e = or_r (same u (x ∷ t)) (ends u t) (λ _. front→ends f u t (cc))
