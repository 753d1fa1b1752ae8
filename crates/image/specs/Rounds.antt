-- One round of the rules in an image at hand, over any tree of endings: how far down the bytes before the boundary lead, and the hits
-- on that way. Its stretches say only which of these bytes are not fetched. And a round's start, with what the rules do from there on.
use Rattle.std.specs.Prelude.{ℕ, zero, suc, ◌+◌, ◌-◌, true, false, ◌||◌, List, [], ◌∷◌, map, eqb, get_or, length, ◌≤◌, ◌<◌}
use Rattle.std.proofs.Math.Option.{Option, some, none}
use Rattle.rules.specs.Rules.{Tree, Stretch, Config, trace}
use Rattle.rules.specs.Tokens.{of_tokens}
use Rattle.rules.specs.Sweep.{bytes_of, places, recalls, hits}
use Rattle.rules.specs.Setting.{Setting}
use Rattle.rules.specs.Stretches.{Spans}
use Rattle.rules.specs.Configs.{steps_left, byte_of, Inv}

-- Where a round ends: its node and depth, the closing byte, and the tokens on its way, the longest first.
pub record Reached (E : Type 0) : Type 0 where
  pub node : E
  pub depth : ℕ
  pub closing : Option ℕ
  pub tokens : List ℕ

-- the tokens met, when the way comes to a node with token i, 0 for none
abbrev pub meeting : List ℕ → ℕ → List ℕ
meeting m zero = m
meeting m (suc i) = suc i ∷ m

module _ {E : Type 0} (tree : Tree E) (image : List ℕ) (b : ℕ) where
  -- Rules 2 and 3 from node v, d deep, in at most `fuel` steps, of which suc b are enough.
  abbrev pub down : ℕ → E → ℕ → List ℕ → Reached E
  down zero v d m = record { node = v; depth = d; closing = none; tokens = m }
  down (suc fuel) v d m =
      elim (tree.leaf v || eqb d b) [
        | true ↦ record { node = v; depth = d; closing = none; tokens = m }
        | false ↦ elim (tree.child v (get_or image (b - 1 - d) 0)) [
          | none ↦ record { node = v; depth = d; closing = some (get_or image (b - 1 - d) 0); tokens = m }
          | some w ↦ down fuel w (d + 1) (meeting m (tree.token w))
        ]
      ]

  -- The whole round, from the root.
  abbrev pub reached : Reached E
  reached = down (suc b) tree.root 0 []

  -- Rule 3: its hits, the longest token first.
  abbrev pub met : List (ℕ × ℕ)
  met = map (λ i. (b, i)) reached.tokens

-- The leftmost place that a round looked at.
abbrev pub lowest : {E : Type 0} → ℕ → Reached E → ℕ
lowest b r = elim r.closing [ none ↦ b - r.depth | some x ↦ b - 1 - r.depth ]

-- the start of a round at boundary b
abbrev pub start_at : ℕ → List (Stretch (List ℕ)) → Config (List ℕ)
start_at b ss = record { boundary = b; node = []; depth = 0; stretches = ss }

module _ (tokens : List (List ℕ)) (S D : ℕ) (setting : Setting tokens S D) (image : List ℕ) where
  -- What is fetched, spared and found from the start of a round on, in at most `fuel` steps.
  abbrev pub fetches_from : ℕ → ℕ → ℕ → List (Stretch (List ℕ)) → ℕ
  fetches_from fuel k b ss = length (places (trace (of_tokens tokens S) (length image) (bytes_of image) fuel k (start_at b ss)))

  abbrev pub spares_from : ℕ → ℕ → ℕ → List (Stretch (List ℕ)) → ℕ
  spares_from fuel k b ss = length (recalls (trace (of_tokens tokens S) (length image) (bytes_of image) fuel k (start_at b ss)))

  abbrev pub hits_from : ℕ → ℕ → ℕ → List (Stretch (List ℕ)) → List (ℕ × ℕ)
  hits_from fuel k b ss = hits (trace (of_tokens tokens S) (length image) (bytes_of image) fuel k (start_at b ss))

  -- What holds at the start of a round.
  pub record Starts (b : ℕ) (ss : List (Stretch (List ℕ))) (fuel : ℕ) : Type 0 where
    pub inv : Inv (byte_of image) D (start_at b ss)
    pub spans : Spans D b 0 ss
    pub enough : b ≤ length image → steps_left (length image) D b 0 < fuel
