-- What is found and counted of events: no more hits than looks and what was matched before them, and nothing past the image.
use Prim.Native.Nat.{ℕ, zero, suc, ◌+◌, ◌≤◌, ◌<◌}
use native.Mathlib.Omega.{arith}
use Rattle.std.specs.Prelude.{◌≡◌, refl, List, [], ◌∷◌, ◌++◌, ltb, length}
use Rattle.std.proofs.Common.{ap, ◌∙◌, length-append}
use Rattle.std.proofs.Math.Option.{Option, some, none}
use borrow.Author.Tests.{ltb-false}
use Rattle.rules.specs.Rules.{Tree, Config, Event, fetched, recalled, hit, shifted, done, place, hit_at, deeper, hits_up, recall, end_round, taken, look, follow, trace}
use Rattle.rules.specs.Sweep.{places, looks, hits}
use Rattle.rules.proofs.Laws.Tests.{next-cases, decide}
use Rattle.rules.proofs.Laws.Hits.{end-events, end_before}
use Rattle.rules.proofs.Laws.Limit.Looks.{end-looks}

hits-append : {E : Type 0} (l m : List (Event E)) → hits (l ++ m) ≡ hits l ++ hits m
hits-append [] m = refl
hits-append (fetched p ∷ l) m = hits-append l m
hits-append (recalled p ∷ l) m = hits-append l m
hits-append (hit e i ∷ l) m = cc (hits-append l m)
hits-append (shifted b ss ∷ l) m = hits-append l m
hits-append (done ∷ l) m = hits-append l m

-- At most d tokens more are found than places looked at.
abbrev pub AtMost : {E : Type 0} → ℕ → List (Event E) → Type 0
AtMost d es = length (hits es) ≤ length (looks es) + d

module _ {E : Type 0} (tree : Tree E) where
  -- A round that ends fetches nothing then, and finds what its node says.
  module _ (c : Config E) (o : Option ℕ) (rest : List (Event E)) where
    pub end-places : places ((end_round tree c o).events ++ rest) ≡ places rest
    end-places = end_before tree (λ es. places es ≡ places rest) (λ _ _ _ h. h) c o rest refl

    pub end-hits : hits ((end_round tree c o).events ++ rest) ≡ hits (hits_up tree c.boundary c.node c.depth) ++ hits rest
    end-hits = ap hits (end-events tree c o rest) ∙ hits-append (hits_up tree c.boundary c.node c.depth) _

  -- One k deep has k hits at most.
  ups-few : (end : ℕ) (v : E) (k : ℕ) → length (hits (hits_up tree end v k)) ≤ k
  ups-few end v zero = omega arith
  ups-few end v (suc k) = go (tree.token (tree.ancestor v (suc k))) (ups-few end v k)
    where
      go : (t : ℕ) → length (hits (hits_up tree end v k)) ≤ k → length (hits (hit_at end t ++ hits_up tree end v k)) ≤ suc k
      go zero h = omega arith
      go (suc t) h = omega arith

module _ {E : Type 0} (tree : Tree E) (n : ℕ) (ask : ℕ → ℕ → ℕ) where
  -- A step, with what happens after it.
  module _ (more : ℕ → Config E → List (Event E)) (ih : (k : ℕ) (c : Config E) → AtMost c.depth (more k c)) (k : ℕ) (c : Config E) where
    end-few : (k : ℕ) (o : Option ℕ) → AtMost c.depth ((end_round tree c o).events ++ more k (end_round tree c o).config)
    end-few k o =
        let rest = more k (end_round tree c o).config in
        let r = ih k (end_round tree c o).config in
        let few = ups-few tree c.boundary c.node c.depth in
        rw (end-looks tree c o rest, end-hits tree c o rest, length-append) (omega (arith, r, few))

    taken-few : (x k : ℕ) (o : Option E) → AtMost (suc c.depth) ((taken tree c x o).events ++ more k (taken tree c x o).config)
    taken-few x k none = omega (arith, end-few k (some x))
    taken-few x k (some v) = omega (arith, ih k (deeper c v))

    look-few : (o : Option ℕ) → AtMost c.depth (follow tree ask more k c (look tree c o))
    look-few none = omega (arith, taken-few (ask k (place c)) (k + 1) (tree.child c.node (ask k (place c))))
    look-few (some x) = omega (arith, taken-few x k (tree.child c.node x))

  -- Each look comes to one token more at most.
  pub trace-few : (fuel k : ℕ) (c : Config E) → AtMost c.depth (trace tree n ask fuel k c)
  unfolding trace
  trace-few zero k c = omega arith
  trace-few (suc fuel) k c =
      next-cases tree n c (λ x. AtMost c.depth (follow tree ask (trace tree n ask fuel) k c x)) (λ _. omega arith)
      (λ _ _. end-few (trace tree n ask fuel) (trace-few fuel) k c k none)
      (λ _ _ _. look-few (trace tree n ask fuel) (trace-few fuel) k c (recall tree c.stretches (place c)))

  -- When the boundary has passed the image, nothing is left, of whatever is counted.
  pub trace-over : {A : Type 0} (f : List (Event E) → List A) → f [] ≡ [] → f (done ∷ []) ≡ []
      → (fuel k : ℕ) (c : Config E) → n < c.boundary → f (trace tree n ask fuel k c) ≡ []
  unfolding trace
  trace-over f e g zero k c h = e
  trace-over f e g (suc fuel) k c h =
      decide (λ x. f (follow tree ask (trace tree n ask fuel) k c x) ≡ []) (ltb n c.boundary) _ _
      (λ _. g) (λ t. absurd (omega (arith, ltb-false n c.boundary t)))
