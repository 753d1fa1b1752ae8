-- The members of lists: those that are selected, their numbers, and lists in which each stands one time.
use Rattle.std.specs.Prelude.{ℕ, zero, suc, ◌<◌, ◌≡◌, refl, Bool, true, false, length, get_or}
use Rattle.std.proofs.Common.{arith, ap, sym, ◌∙◌, inl, inr}
use mathlib.Core.List.Memᴰ
use mathlib.Core.List.{List, [], ◌∷◌, ◌++◌, map, Memᴰ}
use Rattle.rules.specs.Lists.{select}
use Rattle.rules.specs.Sweep.{Once}
use Rattle.rules.proofs.Laws.Tests.{decide}

-- The members of a filtered list are those that pass.
module _ {A : Type 0} (p : A → Bool) where
  pub select_in : (a : A) (l : List A) → Memᴰ a l → p a ≡ true → Memᴰ a (select p l)
  select_in a [] m t = elim m [ ]
  select_in a (x ∷ l) (Memᴰ.head e) t =
      decide (Memᴰ a) (p x) _ _ (λ _. Memᴰ.head e) (λ f. absurd (let z : ◌≡◌ {A = ℕ} 0 1 = cc in omega arith))
  select_in a (x ∷ l) (Memᴰ.tail m) t =
      decide (Memᴰ a) (p x) _ _ (λ _. Memᴰ.tail (select_in a l m t)) (λ _. select_in a l m t)

  pub select-out : (a : A) (l : List A) → Memᴰ a (select p l) → Memᴰ a l × (p a ≡ true)
  select-out a [] m = absurd (Memᴰ.not-nil m)
  select-out a (x ∷ l) m = go (p x) refl (select-out a l) m
    where
      go : (b : Bool) → p x ≡ b → (Memᴰ a (select p l) → Memᴰ a l × (p a ≡ true))
          → Memᴰ a (elim b [ true ↦ x ∷ select p l | false ↦ select p l ]) → Memᴰ a (x ∷ l) × (p a ≡ true)
      go true e f m = elim (Memᴰ.cases_cons m) [ inl q ↦ (Memᴰ.head q, ap p q ∙ e) | inr k ↦ (Memᴰ.tail (f k).0, (f k).1) ]
      go false e f m = (Memᴰ.tail (f m).0, (f m).1)

-- The members of a list, by their numbers.
module _ {A : Type 0} (d : A) where
  pub mem-at : (l : List A) (i : ℕ) → i < length l → Memᴰ (get_or l i d) l
  mem-at [] i h = absurd (omega arith)
  mem-at (a ∷ l) zero h = Memᴰ.head refl
  mem-at (a ∷ l) (suc i) h = Memᴰ.tail (mem-at l i (omega arith))

  pub number_of : {a : A} (l : List A) → Memᴰ a l → (i : ℕ) × (i < length l) × (get_or l i d ≡ a)
  number_of {a = a} [] m = elim m [ ]
  number_of (b ∷ l) (Memᴰ.head e) = (0, omega arith, sym e)
  number_of (b ∷ l) (Memᴰ.tail m) = let r = number_of l m in (suc r.0, omega (arith, r.1), r.2)

  -- each stands one time if no two numbers have the same one
  abbrev pub Distinct : List A → Type 0
  Distinct l = (i j : ℕ) → i < length l → j < length l → get_or l i d ≡ get_or l j d → i ≡ j

  pub distinct-once : (l : List A) → Distinct l → Once l
  distinct-once [] f = tt
  distinct-once (a ∷ l) f = (
    λ m. let r = number_of l m in let z = f 0 (suc r.0) (omega arith) (omega (arith, r.1)) (sym r.2) in omega arith,
    distinct-once l (λ i j h k e. let z = f (suc i) (suc j) (omega arith) (omega arith) e in omega arith),
  )

  pub once-distinct : (l : List A) → Once l → Distinct l
  once-distinct [] o i j h k e = absurd (omega arith)
  once-distinct (a ∷ l) o zero zero h k e = refl
  once-distinct (a ∷ l) o zero (suc j) h k e = absurd (o.0 (Memᴰ.cast e (mem-at l j (omega arith))))
  once-distinct (a ∷ l) o (suc i) zero h k e = absurd (o.0 (Memᴰ.cast (sym e) (mem-at l i (omega arith))))
  once-distinct (a ∷ l) o (suc i) (suc j) h k e = ap suc (once-distinct l o.1 i j (omega arith) (omega arith) e)

module _ {A : Type 0} where
  pub once-select : (p : A → Bool) (l : List A) → Once l → Once (select p l)
  once-select p [] o = tt
  once-select p (a ∷ l) o =
      decide Once (p a) _ _ (λ _. ((λ m. o.0 (select-out p a l m).0), once-select p l o.1)) (λ _. once-select p l o.1)

  pub once-append : (l m : List A) → Once l → Once m → ((a : A) → Memᴰ a l → Memᴰ a m → ⊥) → Once (l ++ m)
  once-append [] m o q f = q
  once-append (a ∷ l) m o q f = (
    λ k. elim (Memᴰ.append_cases l k) [ inl j ↦ o.0 j | inr j ↦ f a (Memᴰ.head refl) j ],
    once-append l m o.1 q (λ b j. f b (Memᴰ.tail j)),
  )

-- The map tells the members apart.
pub once-map : {A B : Type 0} (f : A → B) (l : List A) → ((a b : A) → Memᴰ a l → Memᴰ b l → f a ≡ f b → a ≡ b) → Once l → Once (map f l)
once-map f [] g o = tt
once-map f (a ∷ l) g o = (
  λ m. let r = Memᴰ.of_map f l m in o.0 (Memᴰ.cast (g a r.0 (Memᴰ.head refl) (Memᴰ.tail r.1) (sym r.2)) r.1),
  once-map f l (λ b c j k. g b c (Memᴰ.tail j) (Memᴰ.tail k)) o.1,
)
