-- How many bytes the rules look at, whatever the fetches are answered: a round at most D, since it looks no further from a node as deep as
-- that, and each round raises the boundary; so at most N × D in all.
use Prim.Native.Nat.{ℕ, zero, suc, ◌+◌, ◌-◌, ◌*◌, ◌≤◌, ◌<◌}
use native.Mathlib.Omega.{arith}
use Rattle.std.proofs.Common.{mul-le-mul_right}
use Rattle.std.specs.Prelude.{◌≡◌, refl, List, [], ◌∷◌, ◌++◌}
use Rattle.std.proofs.Math.Option.{Option, some, none}
use Rattle.std.proofs.Math.ListN.{length}
use Rattle.rules.specs.Rules.{Tree, Config, Event, fetched, recalled, hit, shifted, done, place, deeper, fresh, recall, end_round, taken, look, follow, trace}
use Rattle.rules.specs.Sweep.{places, recalls, looks}
use Rattle.rules.proofs.Laws.Tests.{next-cases}
use Rattle.rules.proofs.Laws.Hits.{end_before}
use Rattle.rules.proofs.Laws.Limit.Ends.{Finite, Sized}

-- A look is a fetch, or takes its byte from a stretch.
pub looks-split : {E : Type 0} (es : List (Event E)) → length (looks es) ≡ length (places es) + length (recalls es)
looks-split [] = refl
looks-split (fetched p ∷ es) = omega (arith, looks-split es)
looks-split (recalled p ∷ es) = omega (arith, looks-split es)
looks-split (hit e i ∷ es) = looks-split es
looks-split (shifted b ss ∷ es) = looks-split es
looks-split (done ∷ es) = looks-split es

-- The end of a round looks at nothing.
pub end-looks : {E : Type 0} (tree : Tree E) (c : Config E) (o : Option ℕ) (rest : List (Event E))
    → looks ((end_round tree c o).events ++ rest) ≡ looks rest
end-looks tree c o rest = end_before tree (λ es. looks es ≡ looks rest) (λ _ _ _ h. h) c o rest refl

module _ {E : Type 0} (tree : Tree E) (size : E → ℕ) (D : ℕ) (finite : Finite tree size D) (n : ℕ) (ask : ℕ → ℕ → ℕ) where
  -- the most looks that are left from a configuration on
  abbrev most : Config E → ℕ
  most c = (suc n - c.boundary) * D - c.depth

  abbrev Looks : (ℕ → Config E → List (Event E)) → Type 0
  Looks rest = (k : ℕ) (c : Config E) → Sized tree size D finite n c → length (looks (rest k c)) ≤ most c

  module _ (rest : ℕ → Config E → List (Event E)) (ih : Looks rest) (c : Config E) (s : Sized tree size D finite n c)
      (h : c.boundary ≤ n) where
    -- A round that ends leaves those of the rounds after it.
    end-few : (k : ℕ) (o : Option ℕ)
        → length (looks ((end_round tree c o).events ++ rest k (end_round tree c o).config)) + D ≤ (suc n - c.boundary) * D
    end-few k o =
        let c' = (end_round tree c o).config in
        let up = finite.moves c.node o in
        rw (end-looks tree c o (rest k c'))
        (omega (
          arith,
          ih k c' (record { sized = finite.bare; deep = omega arith }),
          mul-le-mul_right D (let q : suc (suc n - c'.boundary) ≤ suc n - c.boundary = omega arith in q),
        ))

    -- A byte is taken where the node is less deep than D.
    taken-few : c.depth < D → (x k : ℕ) (o : Option E) → tree.child c.node x ≡ o
        → suc (length (looks ((taken tree c x o).events ++ rest k (taken tree c x o).config))) ≤ most c
    taken-few l x k none e = omega (arith, end-few k (some x))
    taken-few l x k (some v) e =
        let g = finite.grows c.node x v e in
        omega (
          arith,
          ih k (deeper c v) (record { sized = omega (arith, s.sized); deep = omega arith }),
          mul-le-mul_right D (let q : 1 ≤ suc n - c.boundary = omega arith in q),
        )

    look-few : c.depth < D → (k : ℕ) (o : Option ℕ) → length (looks (follow tree ask rest k c (look tree c o))) ≤ most c
    look-few l k none = taken-few l (ask k (place c)) (k + 1) _ refl
    look-few l k (some x) = taken-few l x k _ refl

  looks-from : (fuel : ℕ) → Looks (trace tree n ask fuel)
  unfolding trace
  looks-from zero k c s = omega arith
  looks-from (suc fuel) k c s =
      next-cases tree n c (λ x. length (looks (follow tree ask (trace tree n ask fuel) k c x)) ≤ most c) (λ _. omega arith)
      (λ h _. omega (arith, s.deep, end-few (trace tree n ask fuel) (looks-from fuel) c s h k none))
      (λ h u _. look-few (trace tree n ask fuel) (looks-from fuel) c s h (omega (arith, s.sized, finite.inner c.node u)) k
      (recall tree c.stretches (place c)))

  -- At most N × D in all.
  pub looks-all : (S : ℕ) → 1 ≤ S → (fuel : ℕ) → length (looks (trace tree n ask fuel 0 (fresh tree S))) ≤ n * D
  looks-all S h fuel =
      omega (
        arith,
        looks-from fuel 0 (fresh tree S) (record { sized = finite.bare; deep = omega arith }),
        mul-le-mul_right D (let q : suc n - S ≤ n = omega arith in q),
      )
