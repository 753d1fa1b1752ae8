-- The sweep ends, whatever the fetches are answered: each step takes a byte of a round, or raises the boundary.
use Prim.Native.Nat.{ℕ, zero, suc, ◌+◌, ◌-◌, ◌*◌, ◌≤◌, ◌<◌}
use Rattle.std.proofs.Common.{arith, mul-le-mul_right}
use Rattle.std.specs.Prelude.{◌≡◌, false, List, [], ◌∷◌, ◌++◌}
use Rattle.std.proofs.Math.Path.{refl}
use Rattle.std.proofs.Math.Option.{Option, some, none}
use Rattle.rules.specs.Rules.{Tree, Config, Event, fetched, recalled, hit, shifted, done, place, deeper, fresh, recall, end_round, taken, look, follow, trace}
use Rattle.rules.proofs.Laws.Tests.{next-cases}
use Rattle.rules.proofs.Laws.Hits.{end_before}
use Rattle.rules.specs.Configs.{steps_left}

pub less-end : (n D b b' d : ℕ) → b ≤ n → b < b' → d ≤ D → steps_left n D b' 0 < steps_left n D b d
less-end n D b b' d h k l = omega (arith, mul-le-mul_right (suc D) (let q : suc (suc n - b') ≤ suc n - b = omega arith in q))

pub less-deeper : (n D b d : ℕ) → b ≤ n → d + 1 ≤ D → steps_left n D b (d + 1) < steps_left n D b d
less-deeper n D b d h l = omega (arith, mul-le-mul_right (suc D) (let q : 1 ≤ suc n - b = omega arith in q))

pub steps-enough : (n D S fuel : ℕ) → 1 ≤ S → n * (D + 1) < fuel → steps_left n D S 0 < fuel
steps-enough n D S fuel h k = omega (arith, mul-le-mul_right (suc D) (let q : suc n - S ≤ n = omega arith in q))

-- the events of a whole sweep: done comes last, and nowhere else
abbrev pub Whole : {E : Type 0} → List (Event E) → Type 0
Whole [] = ⊥
Whole (fetched p ∷ es) = Whole es
Whole (recalled p ∷ es) = Whole es
Whole (hit e i ∷ es) = Whole es
Whole (shifted b ss ∷ es) = Whole es
Whole (done ∷ es) = es ≡ []

-- What is asked of the tree.
pub record Finite {E : Type 0} (tree : Tree E) (size : E → ℕ) (D : ℕ) : Type 0 where
  pub bare : size tree.root ≡ 0
  pub grows : (v : E) (x : ℕ) (w : E) → tree.child v x ≡ some w → (size w ≡ suc (size v)) × (size w ≤ D)
  pub inner : (v : E) → tree.leaf v ≡ false → size v < D
  pub moves : (v : E) (o : Option ℕ) → 1 ≤ tree.shift v o

module _ {E : Type 0} (tree : Tree E) (size : E → ℕ) (D : ℕ) (finite : Finite tree size D) (n : ℕ) where
  pub record Sized (c : Config E) : Type 0 where
    pub sized : size c.node ≡ c.depth
    pub deep : c.depth ≤ D

  -- what happens from any configuration on ends, with steps enough
  abbrev Enough : ℕ → (Config E → List (Event E)) → Type 0
  Enough fuel rest = (c : Config E) → Sized c → steps_left n D c.boundary c.depth < fuel → Whole (rest c)

  module _ (fuel : ℕ) (c : Config E) (s : Sized c) (h : c.boundary ≤ n) (l : steps_left n D c.boundary c.depth < suc fuel)
      (rest : Config E → List (Event E)) (ih : Enough fuel rest) where
    end_whole : (o : Option ℕ) → Whole ((end_round tree c o).events ++ rest (end_round tree c o).config)
    end_whole o =
        let t = finite.moves c.node o in
        let c' = (end_round tree c o).config in
        end_before tree Whole (λ end t es w. w) c o (rest c')
        (ih c' (record { sized = finite.bare; deep = omega arith })
        (omega (arith, less-end n D c.boundary c'.boundary c.depth h (omega arith) s.deep)))

    taken-whole : (x : ℕ) (o : Option E) → tree.child c.node x ≡ o → Whole ((taken tree c x o).events ++ rest (taken tree c x o).config)
    taken-whole x none e = end_whole (some x)
    taken-whole x (some v) e =
        let g = finite.grows c.node x v e in
        let d : c.depth + 1 ≤ D = omega (arith, s.sized) in
        ih (deeper c v) (record { sized = omega (arith, s.sized); deep = d }) (omega (arith, less-deeper n D c.boundary c.depth h d))

  whole : (ask : ℕ → ℕ → ℕ) (fuel k : ℕ) → Enough fuel (trace tree n ask fuel k)
  unfolding trace
  whole ask zero k c s l = absurd (omega arith)
  whole ask (suc fuel) k c s l =
      next-cases tree n c (λ x. Whole (follow tree ask (trace tree n ask fuel) k c x)) (λ _. refl)
      (λ h _. end_whole fuel c s h l (trace tree n ask fuel k) (whole ask fuel k) none)
      (λ h _ _. looked h (whole ask fuel) (recall tree c.stretches (place c)))
    where
      looked : c.boundary ≤ n → ((k : ℕ) → Enough fuel (trace tree n ask fuel k)) → (o : Option ℕ)
          → Whole (follow tree ask (trace tree n ask fuel) k c (look tree c o))
      looked h ih none = taken-whole fuel c s h l (trace tree n ask fuel (k + 1)) (ih (k + 1)) (ask k (place c)) _ refl
      looked h ih (some x) = taken-whole fuel c s h l (trace tree n ask fuel k) (ih k) x _ refl

  pub sweep-ends : (S : ℕ) → 1 ≤ S → (ask : ℕ → ℕ → ℕ) (fuel : ℕ) → n * (D + 1) < fuel → Whole (trace tree n ask fuel 0 (fresh tree S))
  sweep-ends S h ask fuel l =
      whole ask fuel 0 (fresh tree S) (record { sized = finite.bare; deep = omega arith }) (steps-enough n D S fuel h l)
