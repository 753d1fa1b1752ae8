-- A round over tables that represent the tokens is a round over the tokens.
use Rattle.std.specs.Prelude.{ℕ, zero, suc, ◌+◌, ◌-◌, ◌≤◌, ◌<◌, ◌≡◌, refl, Bool, true, false, ◌&&◌, ◌||◌, not, List, [], eqb, ltb, length, get_or}
use Rattle.std.proofs.Common.{arith, ap, sym, subst, ◌∙◌}
use Rattle.std.proofs.Math.Option.{Option, some, none}
use Rattle.rules.specs.Lists.{any_of}
use Rattle.rules.specs.Words.{all_words}
use Rattle.rules.specs.Rules.{Tree}
use Rattle.rules.specs.Tokens.{of_tokens, ends}
use Rattle.book.proofs.Laws.Accepted.{Fit}
use Rattle.tables.specs.Tables.{Tables}
use Rattle.tables.specs.Walks.{child_by, ending}
use Rattle.tables.specs.Represents.{Stand, Represents}
use Rattle.image.specs.Rounds.{Reached, meeting, down, reached}
use Rattle.image.specs.Walk.{tree_in, Walkable}
use Rattle.image.proofs.Laws.Roots.{root-grows}

module _ (tokens : List (List ℕ)) (S : ℕ) (t : Tables) (count : ℕ) (rep : Represents t count tokens) where
  abbrev here : Tree ℕ
  here = tree_in t count

  abbrev there : Tree (List ℕ)
  there = of_tokens tokens S

  child-here : (v x : ℕ) → here.child v x ≡ child_by t count v x
  child-here v x = refl

  child-same : (v x : ℕ) → v < count → Stand t count (here.child v x) (there.child (ending t v) x)
  child-same v x h = rep.child v x h

  -- What the code asks of the tables.
  module _ (fit : Fit tokens) where
    grows : 1 ≤ length tokens → any_of (λ u. ltb (length (ending t 0)) (length u) && ends (ending t 0) u) (all_words tokens) ≡ true
    grows some-token = rw rep.root (root-grows tokens fit some-token)

    below-count : (w : ℕ) (o : Option ℕ) (p : Option (List ℕ)) → Stand t count o p → o ≡ some w → w < count
    below-count w none p s e = absurd (let z : ◌≡◌ {A = ℕ} 0 1 = cc in omega arith)
    below-count w (some v) none s e = absurd s
    below-count w (some v) (some u) s e = let z : v ≡ w = cc in rw z at s.0

    pub walkable : 1 ≤ length tokens → Walkable t count
    walkable some-token = record {
      some-node = rep.some-node;
      tokens = omega (arith, rep.held);
      firsts = omega (arith, rep.held);
      rooted = rep.leaf 0 rep.some-node ∙ ap not (grows some-token);
      below = λ v x w h e. below-count w (here.child v x) _ (child-same v x h) e;
    }

  module _ (image : List ℕ) (b : ℕ) where
    -- The two end at a node and its ending, with the same tokens on the way.
    pub record Same (r : Reached ℕ) (q : Reached (List ℕ)) : Type 0 where
      pub below : r.node < count
      pub node : ending t r.node ≡ q.node
      pub depth : r.depth ≡ q.depth
      pub closing : r.closing ≡ q.closing
      pub tokens-same : r.tokens ≡ q.tokens

    -- The ways down, by the child that the two have.
    module _ (fuel : ℕ)
        (ih : (v d : ℕ) (m : List ℕ) → v < count → Same (down here image b fuel v d m) (down there image b fuel (ending t v) d m)) where
      abbrev on : {E : Type 0} → Tree E → ℕ → E → ℕ → List ℕ → Option E → Reached E
      on tree x v d m o = elim o [
        | none ↦ record { node = v; depth = d; closing = some x; tokens = m }
        | some w ↦ down tree image b fuel w (d + 1) (meeting m (tree.token w))
      ]

      on_same : (x v d : ℕ) (m : List ℕ) → v < count → (o : Option ℕ) (p : Option (List ℕ)) → Stand t count o p
          → Same (on here x v d m o) (on there x (ending t v) d m p)
      on_same x v d m h none none s = record { below = h; node = refl; depth = refl; closing = refl; tokens-same = refl }
      on_same x v d m h none (some u) s = absurd s
      on_same x v d m h (some w) none s = absurd s
      on_same x v d m h (some w) (some u) s =
          subst (λ u. Same (on here x v d m (some w)) (on there x (ending t v) d m (some u))) s.1
          (subst (λ n. Same (down here image b fuel w (d + 1) (meeting m n)) (on there x (ending t v) d m (some (ending t w))))
          (sym (rep.token w s.0)) (ih w (d + 1) _ s.0))

      turn-same : (v d : ℕ) (m : List ℕ) → v < count → (s s' : Bool) → s ≡ s'
          → let x = get_or image (b - 1 - d) 0 in
          Same (elim s [ true ↦ record { node = v; depth = d; closing = none; tokens = m } | false ↦ on here x v d m (here.child v x) ])
          (elim s' [
            | true ↦ record { node = ending t v; depth = d; closing = none; tokens = m }
            | false ↦ on there x (ending t v) d m (there.child (ending t v) x)
          ])
      turn-same v d m h true true e = record { below = h; node = refl; depth = refl; closing = refl; tokens-same = refl }
      turn-same v d m h true false e = absurd (let z : ◌≡◌ {A = ℕ} 0 1 = cc in omega arith)
      turn-same v d m h false true e = absurd (let z : ◌≡◌ {A = ℕ} 0 1 = cc in omega arith)
      turn-same v d m h false false e =
          let x = get_or image (b - 1 - d) 0 in on_same x v d m h (here.child v x) (there.child (ending t v) x) (child-same v x h)

    down-same : (fuel v d : ℕ) (m : List ℕ) → v < count → Same (down here image b fuel v d m) (down there image b fuel (ending t v) d m)
    down-same zero v d m h = record { below = h; node = refl; depth = refl; closing = refl; tokens-same = refl }
    down-same (suc fuel) v d m h =
        turn-same fuel (down-same fuel) v d m h (here.leaf v || eqb d b) (there.leaf (ending t v) || eqb d b)
        (ap (λ l. l || eqb d b) (rep.leaf v h))

    pub reached-same : Same (reached here image b) (reached there image b)
    reached-same = subst (λ u. Same (reached here image b) (down there image b (suc b) u 0 [])) rep.root (down-same (suc b) 0 0 [] rep.some-node)
