-- Tests and searches on lists of bytes, what holds of each element, and one list laid over another, in which the other definitions are
-- written.
use Rattle.std.specs.Prelude.{ℕ, zero, suc, ◌+◌, Bool, true, false, ◌&&◌, ◌||◌, List, [], ◌∷◌, ◌++◌, eqb, length, drop}
use Rattle.std.proofs.Math.Option.{Option, some, none}

-- the elements that pass
abbrev pub select {ℓ} : {A : Type ℓ} → (A → Bool) → List A → List A
select p [] = []
select p (a ∷ rest) = elim (p a) [ true ↦ a ∷ select p rest | false ↦ select p rest ]

-- some element passes
abbrev pub any_of {ℓ} : {A : Type ℓ} → (A → Bool) → List A → Bool
any_of p [] = false
any_of p (a ∷ rest) = p a || any_of p rest

-- each number below n passes
abbrev pub every : ℕ → (ℕ → Bool) → Bool
every zero p = true
every (suc n) p = p n && every n p

-- the smallest number below n that passes, if there is one
abbrev pub first_below : ℕ → (ℕ → Bool) → Option ℕ
first_below zero p = none
first_below (suc n) p = elim (first_below n p) [ some k ↦ some k | none ↦ elim (p n) [ true ↦ some n | false ↦ none ] ]

-- there is none
abbrev pub is_none : Option ℕ → Bool
is_none none = true
is_none (some k) = false

-- the smallest number from `from` on that passes, or from + fuel
abbrev pub least : (ℕ → Bool) → ℕ → ℕ → ℕ
least p from zero = from
least p from (suc fuel) = elim (p from) [ true ↦ from | false ↦ least p (from + 1) fuel ]

-- the two hold the same bytes
abbrev pub same : List ℕ → List ℕ → Bool
same [] [] = true
same [] (y ∷ ys) = false
same (x ∷ xs) [] = false
same (x ∷ xs) (y ∷ ys) = eqb x y && same xs ys

-- the number of the first that passes, counted from i, or 0
abbrev pub number_where : (List ℕ → Bool) → ℕ → List (List ℕ) → ℕ
number_where p i [] = 0
number_where p i (t ∷ ts) = elim (p t) [ true ↦ i | false ↦ number_where p (i + 1) ts ]

-- l with the entries of m written from its front; what follows them stays
abbrev pub over : List ℕ → List ℕ → List ℕ
over m l = m ++ drop (length m) l

abbrev pub All {ℓ} : {A : Type ℓ} → (A → Type 0) → List A → Type 0
All P [] = Unit {0}
All P (a ∷ l) = P a × All P l
