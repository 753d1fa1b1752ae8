-- The hits of a round that ends come before its shift: what each of them keeps holds of all that happens then.
use Rattle.std.specs.Prelude.{ℕ, zero, suc, ◌≡◌, refl, List, [], ◌∷◌, ◌++◌}
use Rattle.std.proofs.Common.{sym, subst, append_assoc, append-nil}
use Rattle.std.proofs.Math.Option.{Option}
use Rattle.rules.specs.Rules.{Tree, Config, Event, hit, shifted, hit_at, hits_up, end_round}
use Rattle.rules.specs.Sweep.{recalls}

module _ {E : Type 0} (tree : Tree E) where
  -- the events of a round's end, and those after it
  pub end-events : (c : Config E) (o : Option ℕ) (rest : List (Event E)) → let c' = (end_round tree c o).config in
      (end_round tree c o).events ++ rest ≡ hits_up tree c.boundary c.node c.depth ++ (shifted c'.boundary c'.stretches ∷ rest)
  end-events c o rest = append_assoc (hits_up tree c.boundary c.node c.depth) _ rest

  module _ (P : List (Event E) → Type 0) (keeps : (end t : ℕ) (es : List (Event E)) → P es → P (hit end t ∷ es)) where
    at_before : (end t : ℕ) (es : List (Event E)) → P es → P (hit_at end t ++ es)
    at_before end zero es h = h
    at_before end (suc t) es h = keeps end (suc t) es h

    hits-before : (end : ℕ) (v : E) (k : ℕ) (es : List (Event E)) → P es → P (hits_up tree end v k ++ es)
    hits-before end v zero es h = h
    hits-before end v (suc k) es h =
        let t = tree.token (tree.ancestor v (suc k)) in
        subst P (sym (append_assoc (hit_at end t) (hits_up tree end v k) es)) (at_before end t _ (hits-before end v k es h))

    pub end_before : (c : Config E) (o : Option ℕ) (rest : List (Event E)) → let c' = (end_round tree c o).config in
        P (shifted c'.boundary c'.stretches ∷ rest) → P ((end_round tree c o).events ++ rest)
    end_before c o rest h = subst P (sym (end-events c o rest)) (hits-before c.boundary c.node c.depth _ h)

  -- The end of a round takes nothing from a stretch.
  pub end-recalls : (c : Config E) (o : Option ℕ) → recalls (end_round tree c o).events ≡ []
  end-recalls c o =
      subst (λ es. recalls es ≡ []) (append-nil (end_round tree c o).events) (end_before (λ es. recalls es ≡ []) (λ _ _ _ h. h) c o [] refl)
