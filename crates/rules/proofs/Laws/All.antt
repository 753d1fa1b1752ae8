-- What holds of each element of a list, and of those that are selected from it.
use Rattle.std.specs.Prelude.{suc, ◌≤◌, ◌≡◌, refl, Bool, true, false, length}
use Rattle.std.proofs.Common.{arith, ap, sym, subst}
use mathlib.Core.List.{List, [], ◌∷◌, ◌++◌, Memᴰ}
use Rattle.rules.specs.Lists.{select, All}
use Rattle.rules.proofs.Laws.Tests.{decide}

module _ {ℓ} {A : Type ℓ} where
  pub all_map : (P Q : A → Type 0) → ((a : A) → P a → Q a) → (l : List A) → All P l → All Q l
  all_map P Q f [] h = tt
  all_map P Q f (a ∷ l) h = (f a h.0, all_map P Q f l h.1)

  pub all_append : (P : A → Type 0) (l m : List A) → All P l → All P m → All P (l ++ m)
  all_append P [] m h k = k
  all_append P (a ∷ l) m h k = (h.0, all_append P l m h.1 k)

  pub all-select : (P : A → Type 0) (p : A → Bool) (l : List A) → All P l → All P (select p l)
  all-select P p [] h = tt
  all-select P p (a ∷ l) h = decide (All P) (p a) _ _ (λ _. (h.0, all-select P p l h.1)) (λ _. all-select P p l h.1)

pub all-mem : {A : Type 0} (P : A → Type 0) (a : A) (l : List A) → All P l → Memᴰ a l → P a
all-mem {A = A} P a [] h m = elim m [ ]
all-mem P a (x ∷ l) h (Memᴰ.head e) = subst P (sym e) h.0
all-mem P a (x ∷ l) h (Memᴰ.tail m) = all-mem P a l h.1 m

pub select-append : {A : Type 0} (p : A → Bool) (l m : List A) → select p (l ++ m) ≡ select p l ++ select p m
select-append p [] m = refl
select-append {A} p (a ∷ l) m = go (p a) (select-append p l m)
  where
    go : (x : Bool) → select p (l ++ m) ≡ select p l ++ select p m
        → elim x [ true ↦ a ∷ select p (l ++ m) | false ↦ select p (l ++ m) ]
        ≡ (◌++◌ {A = A} (elim x [ true ↦ a ∷ select p l | false ↦ select p l ]) (select p m))
    go true e = ap (λ l. a ∷ l) e
    go false e = e

pub length-select : {A : Type 0} (p : A → Bool) (l : List A) → length (select p l) ≤ length l
length-select p [] = omega arith
length-select p (a ∷ l) =
    let h = length-select p l in
    decide (λ r. length r ≤ suc (length l)) (p a) _ _ (λ _. omega arith) (λ _. omega arith)
