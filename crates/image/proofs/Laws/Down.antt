-- A round's way down: how it goes on, over any tree; and over the tokens, that those it met are its hits.
use Rattle.std.specs.Prelude.{ℕ, zero, suc, ◌+◌, ◌-◌, ◌≤◌, ◌≡◌, refl, Bool, true, false, ◌||◌, List, [], ◌∷◌, ◌++◌, map, eqb, length, get_or, drop}
use Rattle.std.proofs.Common.{arith, ap, sym, subst, ◌∙◌}
use Rattle.std.proofs.Math.Option.{Option, some, none}
use Rattle.rules.specs.Lists.{any_of}
use Rattle.rules.specs.Words.{number_of, all_words}
use Rattle.rules.specs.Rules.{Tree, Event, hit_at, hits_up}
use Rattle.rules.specs.Tokens.{of_tokens, ends, grown}
use Rattle.rules.specs.Sweep.{hits}
use Rattle.rules.proofs.Laws.Tests.{decide}
use Rattle.image.specs.Rounds.{Reached, meeting, down, reached, met}

module _ {E : Type 0} (tree : Tree E) (image : List ℕ) (b : ℕ) where
  -- How a walk goes on: it stops, a byte closes it, or it goes to a child.
  pub down-cases : (fuel : ℕ) (v : E) (d : ℕ) (m : List ℕ) (P : Reached E → Type 0)
      → ((tree.leaf v || eqb d b) ≡ true → P (record { node = v; depth = d; closing = none; tokens = m }))
      → ((tree.leaf v || eqb d b) ≡ false → tree.child v (get_or image (b - 1 - d) 0) ≡ none
      → P (record { node = v; depth = d; closing = some (get_or image (b - 1 - d) 0); tokens = m }))
      → ((tree.leaf v || eqb d b) ≡ false → (w : E) → tree.child v (get_or image (b - 1 - d) 0) ≡ some w
      → P (down tree image b fuel w (d + 1) (meeting m (tree.token w))))
      → P (down tree image b (suc fuel) v d m)
  down-cases fuel v d m P f g h = go (tree.leaf v || eqb d b) (tree.child v (get_or image (b - 1 - d) 0)) refl refl
    where
      go : (t : Bool) (o : Option E) → (tree.leaf v || eqb d b) ≡ t → tree.child v (get_or image (b - 1 - d) 0) ≡ o
          → P
          (elim t [
            | true ↦ record { node = v; depth = d; closing = none; tokens = m }
            | false ↦ elim o [
              | none ↦ record { node = v; depth = d; closing = some (get_or image (b - 1 - d) 0); tokens = m }
              | some w ↦ down tree image b fuel w (d + 1) (meeting m (tree.token w))
            ]
          ])
      go true o e q = f e
      go false none e q = g e q
      go false (some w) e q = h e w q

module _ (tokens : List (List ℕ)) (S b : ℕ) where
  abbrev tree : Tree (List ℕ)
  tree = of_tokens tokens S

  -- an ending grows by the byte
  grown-is : (u : List ℕ) (x : ℕ) (w : List ℕ) → grown (all_words tokens) u x ≡ some w → x ∷ u ≡ w
  grown-is u x w =
      decide (λ o. o ≡ some w → x ∷ u ≡ w) (any_of (ends (x ∷ u)) (all_words tokens)) _ _
      (λ _ e. ap (λ o. elim o [ none ↦ [] | some w ↦ w ]) e)
      (λ _ e. absurd (let z : ◌≡◌ {A = ℕ} 0 1 = cc in omega arith))

  -- the hits of a round that comes to the ending u
  abbrev hits_at : List ℕ → List (Event (List ℕ))
  hits_at u = hits_up tree b u (length u)

  hits-above : (x : ℕ) (u : List ℕ) (k : ℕ) → k ≤ length u → hits_up tree b (x ∷ u) k ≡ hits_up tree b u k
  hits-above x u zero h = refl
  hits-above x u (suc k) h =
      let z : suc (length u) - suc k ≡ suc (length u - suc k) = omega arith in
      ap (λ n. hit_at b (number_of tokens (drop n (x ∷ u))) ++ hits_up tree b (x ∷ u) k) z
      ∙ ap (λ es. hit_at b (number_of tokens (drop (length u - suc k) u)) ++ es) (hits-above x u k (omega arith))

  -- Its own, then those of the ending without its first byte.
  hits-grown : (x : ℕ) (u : List ℕ) → hits_at (x ∷ u) ≡ hit_at b (tree.token (x ∷ u)) ++ hits_at u
  hits-grown x u =
      let z : suc (length u) - suc (length u) ≡ 0 = omega arith in
      ap (λ n. hit_at b (number_of tokens (drop n (x ∷ u))) ++ hits_up tree b (x ∷ u) (length u)) z
      ∙ ap (λ es. hit_at b (tree.token (x ∷ u)) ++ es) (hits-above x u (length u) (omega arith))

  -- They are the tokens met.
  abbrev Met : List ℕ → List ℕ → Type 0
  Met u m = hits (hits_at u) ≡ map (λ i. (b, i)) m

  met-on : (m : List ℕ) (x : ℕ) (u : List ℕ) → Met u m → Met (x ∷ u) (meeting m (tree.token (x ∷ u)))
  met-on m x u h = ap hits (hits-grown x u) ∙ go (tree.token (x ∷ u))
    where
      go : (i : ℕ) → hits (hit_at b i ++ hits_at u) ≡ map (λ i. (b, i)) (meeting m i)
      go zero = h
      go (suc i) = cc h

  module _ (image : List ℕ) where
    -- The way down leads to an ending with as many bytes as it is deep.
    abbrev Right : Reached (List ℕ) → Type 0
    Right r = (length r.node ≡ r.depth) × Met r.node r.tokens

    down-right : (fuel : ℕ) (v : List ℕ) (d : ℕ) (m : List ℕ) → length v ≡ d → Met v m → Right (down tree image b fuel v d m)
    down-right zero v d m l h = (l, h)
    down-right (suc fuel) v d m l h =
        down-cases tree image b fuel v d m Right (λ _. (l, h)) (λ _ _. (l, h))
        (λ _ w e.
        subst (λ w. Right (down tree image b fuel w (d + 1) (meeting m (tree.token w)))) (grown-is v _ w e)
        (down-right fuel _ (d + 1) _ (omega arith) (met-on m _ v h)))

    pub met-is : let r = reached tree image b in hits (hits_up tree b r.node r.depth) ≡ met tree image b
    met-is =
        let c = down-right (suc b) [] 0 [] refl refl in
        ap (λ k. hits (hits_up tree b (reached tree image b).node k)) (sym c.0) ∙ c.1
