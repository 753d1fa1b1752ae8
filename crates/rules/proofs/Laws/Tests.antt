-- What the tests of `Rules` and `Tokens` say when they pass, and when they fail.
use Rattle.std.specs.Prelude.{ℕ, zero, suc, ◌+◌, ◌≤◌, ◌<◌, ◌≡◌, refl, ◌≢◌, Bool, true, false, ◌&&◌, ◌||◌, not, List, [], ◌∷◌, eqb, ltb, length, get_or}
use Rattle.std.proofs.Common.{arith, ap, sym, ◌∙◌, ltb-true, ltb-false}
use Rattle.std.proofs.Math.Decide.{ℕ_discrete}
use Rattle.std.proofs.Math.Option.{none}
use Rattle.std.proofs.lemmas.Bool.{eqb-false}
use Rattle.rules.specs.Rules.{Tree, Config, Next, finished, goes, place, recall, end_round, look, next}
use Rattle.rules.specs.Lists.{any_of, every, least}

-- A test is decided, and its answer is kept.
pub decide {ℓ} : {X : Type ℓ} (P : X → Type 0) (t : Bool) (x y : X) → (t ≡ true → P x) → (t ≡ false → P y)
    → P (elim t [ true ↦ x | false ↦ y ])
decide P true x y f g = f refl
decide P false x y f g = g refl

pub clash : (t : Bool) → t ≡ true → t ≡ false → ⊥
clash t p q = let z : ◌≡◌ {A = ℕ} 0 1 = cc in omega arith

-- a Boolean is known by when it is true
pub same_test : (a b : Bool) → (a ≡ true → b ≡ true) → (b ≡ true → a ≡ true) → a ≡ b
same_test true b f g = sym (f refl)
same_test false true f g = g refl
same_test false false f g = refl

pub not_test : (a b : Bool) → (a ≡ true → b ≡ true → ⊥) → (a ≡ false → b ≡ true) → a ≡ not b
not_test true true f g = absurd (f refl refl)
not_test true false f g = refl
not_test false b f g = sym (ap not (g refl))

pub false-test : (a : Bool) → (a ≡ true → ⊥) → a ≡ false
false-test true f = absurd (f refl)
false-test false f = refl

pub and_l : (a b : Bool) → (a && b) ≡ true → a ≡ true
and_l true b t = refl
and_l false b t = t

pub and_r : (a b : Bool) → (a && b) ≡ true → b ≡ true
and_r true b t = t
and_r false b t = cc

pub and-n : (a b : Bool) (P : Type 0) → (a && b) ≡ false → (a ≡ false → P) → (b ≡ false → P) → P
and-n true b P t f g = g t
and-n false b P t f g = f refl

-- `a && b && ..`, as the language groups it, and its tests by their numbers
abbrev joined : Bool → List Bool → Bool
joined a [] = a
joined a (b ∷ l) = joined (a && b) l

abbrev pub conj : List Bool → Bool
conj [] = true
conj (a ∷ l) = joined a l

abbrev pub Passed : List Bool → Type 0
Passed l = (i : ℕ) → get_or l i true ≡ true

joined-out : (a : Bool) (l : List Bool) → joined a l ≡ true → Passed (a ∷ l)
joined-out a [] h zero = h
joined-out a [] h (suc i) = refl
joined-out a (b ∷ l) h zero = and_l a b (joined-out (a && b) l h 0)
joined-out a (b ∷ l) h (suc zero) = and_r a b (joined-out (a && b) l h 0)
joined-out a (b ∷ l) h (suc (suc i)) = joined-out (a && b) l h (suc i)

pub passed : (l : List Bool) → conj l ≡ true → Passed l
passed [] h i = refl
passed (a ∷ l) h i = joined-out a l h i

pub or_r : (a b : Bool) → (a ≡ false → b ≡ true) → (a || b) ≡ true
or_r true b f = refl
or_r false b f = f refl

pub or-nl : (a b : Bool) → (a || b) ≡ false → a ≡ false
or-nl true b t = t
or-nl false b t = refl

pub or-nr : (a b : Bool) → (a || b) ≡ false → b ≡ false
or-nr true b t = cc
or-nr false b t = t

-- a number below the next one, and a number that is 0 or not
pub below_suc : {P : Type 0} (w n : ℕ) → w < suc n → (w < n → P) → (w ≡ n → P) → P
below_suc {P} w n h f g = go (ℕ_discrete w n)
  where
    go : Dec (w ≡ n) → P
    go (yes e) = g e
    go (no d) = f (omega arith)

pub split : {P : Type 0} (v w : ℕ) → (v ≡ w → P) → ((v ≡ w → ⊥) → P) → P
split {P} v w f g = go (ℕ_discrete v w)
  where
    go : Dec (v ≡ w) → P
    go (yes e) = f e
    go (no d) = g d

pub any_of-in {ℓ} : {A : Type ℓ} (p : A → Bool) (l : List A) (d : A) (i : ℕ) → i < length l → p (get_or l i d) ≡ true → any_of p l ≡ true
any_of-in p [] d i h t = absurd (omega arith)
any_of-in p (a ∷ l) d zero h t = cc
any_of-in p (a ∷ l) d (suc i) h t = or_r (p a) _ (λ _. any_of-in p l d i (omega arith) t)

pub any_of-out {ℓ} : {A : Type ℓ} (p : A → Bool) (l : List A) (d : A) → any_of p l ≡ true → (i : ℕ) × (i < length l) × (p (get_or l i d) ≡ true)
any_of-out p [] d t = absurd (clash _ t refl)
any_of-out {A} p (a ∷ l) d t = go (p a) refl t (λ t. any_of-out p l d t)
  where
    go : (b : Bool) → p a ≡ b → (b || any_of p l) ≡ true → (any_of p l ≡ true → (i : ℕ) × (i < length l) × (p (get_or l i d) ≡ true))
        → (i : ℕ) × (i < suc (length l)) × (p (get_or {A = A} (a ∷ l) i d) ≡ true)
    go true e t f = (0, omega arith, e)
    go false e t f = let r = f t in (suc r.0, omega arith, r.2)

pub every-all : (n : ℕ) (p : ℕ → Bool) → ((k : ℕ) → k < n → p k ≡ true) → every n p ≡ true
every-all zero p f = refl
every-all (suc n) p f = cc (f n (omega arith), every-all n p (λ k h. f k (omega arith)))

pub every-at : (n : ℕ) (p : ℕ → Bool) → every n p ≡ true → (k : ℕ) → k < n → p k ≡ true
every-at zero p t k h = absurd (omega arith)
every-at (suc n) p t k h = below_suc k n h (every-at n p (and_r (p n) _ t) k) (λ e. rw e (and_l (p n) _ t))

-- `least` is no smaller than where it starts, no larger than where it stops, nor than any number between that passes.
pub least-ge : (p : ℕ → Bool) (i fuel : ℕ) → i ≤ least p i fuel
least-ge p i zero = omega arith
least-ge p i (suc fuel) = decide (λ m. i ≤ m) (p i) _ _ (λ _. omega arith) (λ _. omega (arith, least-ge p (i + 1) fuel))

pub least-upto : (p : ℕ → Bool) (i fuel : ℕ) → least p i fuel ≤ i + fuel
least-upto p i zero = omega arith
least-upto p i (suc fuel) = decide (λ m. m ≤ i + suc fuel) (p i) _ _ (λ _. omega arith) (λ _. omega (arith, least-upto p (i + 1) fuel))

pub least-le : (p : ℕ → Bool) (i fuel s : ℕ) → i ≤ s → p s ≡ true → least p i fuel ≤ s
least-le p i zero s h t = h
least-le p i (suc fuel) s h t =
    decide (λ m. m ≤ s) (p i) _ _ (λ _. h)
    (λ f. let ne : i ≡ s → ⊥ = λ e. clash (p i) (ap p e ∙ t) f in least-le p (i + 1) fuel s (omega arith) t)

-- It is the number that passes, or at which it stops, if none before does.
pub least-is : (p : ℕ → Bool) (i fuel s : ℕ) → i ≤ s → s ≤ i + fuel → ((j : ℕ) → i ≤ j → j < s → p j ≡ false) → (s < i + fuel → p s ≡ true)
    → least p i fuel ≡ s
least-is p i zero s h k f g = omega arith
least-is p i (suc fuel) s h k f g =
    decide (λ m. m ≡ s) (p i) _ _ (λ t. split i s (λ e. e) (λ n. absurd (clash (p i) t (f i (omega arith) (omega arith)))))
    (λ t.
    let n : i ≡ s → ⊥ = λ e. clash (p i) (ap p e ∙ g (omega arith)) t in
    least-is p (i + 1) fuel s (omega arith) (omega arith) (λ j l. f j (omega arith)) (λ l. g (omega arith)))

pub least-same : (p q : ℕ → Bool) → ((s : ℕ) → p s ≡ q s) → (i fuel : ℕ) → least p i fuel ≡ least q i fuel
least-same p q f i zero = refl
least-same p q f i (suc fuel) = cc (f i, least-same p q f (i + 1) fuel)

-- What comes next: nothing, the end of a round, or a look at a place.
pub next-cases : {E : Type 0} (tree : Tree E) (n : ℕ) (c : Config E) (P : Next E → Type 0)
    → (n < c.boundary → P finished)
    → (c.boundary ≤ n → (tree.leaf c.node || eqb c.depth c.boundary) ≡ true → P (goes (end_round tree c none)))
    → (c.boundary ≤ n → tree.leaf c.node ≡ false → c.depth ≢ c.boundary → P (look tree c (recall tree c.stretches (place c))))
    → P (next tree n c)
next-cases tree n c P f g h =
    decide P (ltb n c.boundary) _ _ (λ t. f (ltb-true _ _ t)) λ t.
    let i = ltb-false n c.boundary t in
    decide P (tree.leaf c.node || eqb c.depth c.boundary) _ _ (g i) (λ u. h i (or-nl _ _ u) (eqb-false _ _ (or-nr (tree.leaf c.node) _ u)))
