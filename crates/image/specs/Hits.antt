-- The buffers that are lent for a sweep's hits, and what a round notes in them.
use Rattle.std.specs.Prelude.{ℕ, ◌+◌, ◌≡◌, true, false, List, [], ◌∷◌, map, ltb, length, set}
use Rattle.whole.specs.Image.{room}
use Rattle.image.specs.declared.hits.HitsMut.{HitsMut}

-- What is written goes into the same lent memory.
abbrev pub SameBuffers : HitsMut → HitsMut → Type 0
SameBuffers before after = (after.ends.ghost_name ≡ before.ends.ghost_name) × (after.tokens.ghost_name ≡ before.tokens.ghost_name)

-- A list with x at place i, if that is below `room`.
abbrev pub note : ℕ → ℕ → ℕ → List ℕ → List ℕ
note room i x l = elim (ltb i room) [ true ↦ set l i x | false ↦ l ]

-- A list with xs from place i on, as far as they lie below `room`.
abbrev pub notes : ℕ → ℕ → List ℕ → List ℕ → List ℕ
notes room i [] l = l
notes room i (x ∷ xs) l = notes room (i + 1) xs (note room i x l)

-- The hits found stand in two lists of ends and tokens, behind the `hits` before them and as far as both lists have room; n are
-- there then.
pub record Noted (ends₀ tokens₀ : List ℕ) (hits : ℕ) (found : List (ℕ × ℕ)) (ends tokens : List ℕ) (n : ℕ) : Type 0 where
  pub number : n ≡ hits + length found
  pub ends-hold : ends ≡ notes (room ends₀ tokens₀) hits (map (λ h. h.0) found) ends₀
  pub tokens-hold : tokens ≡ notes (room ends₀ tokens₀) hits (map (λ h. h.1) found) tokens₀

-- One hit, or those found, stand in the buffers.
abbrev pub NotedAt : HitsMut → ℕ → ℕ → ℕ → HitsMut → Type 0
NotedAt before i end number after =
    (after.ends.now ≡ note (room before.ends.now before.tokens.now) i end before.ends.now)
    × (after.tokens.now ≡ note (room before.ends.now before.tokens.now) i number before.tokens.now)

abbrev pub NotedIn : HitsMut → ℕ → List (ℕ × ℕ) → HitsMut → ℕ → Type 0
NotedIn before hits found after n = Noted before.ends.now before.tokens.now hits found after.ends.now after.tokens.now n
