-- The places of a round that lie in no stretch, counted one by one.
use Rattle.std.specs.Prelude.{ℕ, suc, ◌+◌, ◌<◌, max, ◌≡◌, refl, ◌&&◌, List, [], ◌∷◌, leb, ltb}
use Rattle.std.proofs.Common.{arith, leb-true, leb-false, ltb-true, ltb-false}
use Rattle.std.proofs.Math.Option.{Option, some, none}
use Rattle.rules.specs.Rules.{Tree, Stretch, recall}
use Rattle.rules.specs.Stretches.{Spans, loose}
use Rattle.rules.proofs.Laws.Tests.{decide, and_l, and_r, and-n}

-- what a place costs, by what is remembered of it
abbrev pub cost : Option ℕ → ℕ
cost none = 1
cost (some x) = 0

module _ {E : Type 0} (tree : Tree E) (D b : ℕ) where
  -- Before the first stretch nothing is remembered.
  cost-before : (q lo : ℕ) (ss : List (Stretch E)) → q < lo → Spans D b lo ss → cost (recall tree ss q) ≡ 1
  cost-before q lo [] i h = refl
  cost-before q lo (s ∷ ss) i h =
      decide (λ o. cost o ≡ 1) (leb s.left q && ltb q s.right) _ _
      (λ t. absurd (omega (arith, leb-true s.left q (and_l _ _ t), h.0)))
      (λ _. cost-before q s.right ss (omega arith) h.4)

  -- One place more to the left adds its cost.
  pub loose_at : (q lo : ℕ) (ss : List (Stretch E)) → q < b → Spans D b lo ss
      → loose b q ss ≡ cost (recall tree ss q) + loose b (suc q) ss
  loose_at q lo [] i h = omega arith
  loose_at q lo (s ∷ ss) i h =
      decide (λ o. loose b q (s ∷ ss) ≡ cost o + loose b (suc q) (s ∷ ss)) (leb s.left q && ltb q s.right) _ _
      (λ t.
      let from = leb-true s.left q (and_l _ _ t) in
      let upto = ltb-true q s.right (and_r (leb s.left q) _ t) in
      let z : max q s.right ≡ max (suc q) s.right = omega arith in
      rw z (omega arith))
      (λ t. and-n (leb s.left q) (ltb q s.right) _ t
      (λ f.
      let before = leb-false s.left q f in
      let z : max q s.right ≡ max (suc q) s.right = omega arith in
      rw z (omega (arith, cost-before q s.right ss (omega arith) h.4)))
      (λ f.
      let past = ltb-false q s.right f in
      let z : max q s.right ≡ q = omega arith in
      let z' : max (suc q) s.right ≡ suc q = omega arith in
      rw (z, z') (omega (arith, loose_at q s.right ss i h.4))))

  -- From the boundary on there is none.
  pub loose_none : (lo : ℕ) (ss : List (Stretch E)) → Spans D b lo ss → loose b b ss ≡ 0
  loose_none lo [] h = omega arith
  loose_none lo (s ∷ ss) h = let z : max b s.right ≡ b = omega arith in rw z (omega (arith, loose_none s.right ss h.4))
