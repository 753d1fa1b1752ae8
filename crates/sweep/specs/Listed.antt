-- A part as the buffers have it.
use Rattle.std.specs.Prelude.{ℕ, ◌≤◌, ◌≡◌, List, [], ◌∷◌, map, length, take, drop}
use Rattle.rules.specs.Sweep.{further}
use Rattle.listing.specs.Parts.{from_at, to_at, listed_at}
use Rattle.sweep.specs.declared.hits.Part.{Part}

-- The ends and numbers of hits, side by side.
abbrev pub pairs : List ℕ → List ℕ → List (ℕ × ℕ)
pairs [] l = []
pairs (e ∷ es) [] = []
pairs (e ∷ es) (i ∷ is) = (e, i) ∷ pairs es is

-- The hits that the buffers' first n entries are.
abbrev pub held : ℕ → List ℕ → List ℕ → List (ℕ × ℕ)
held n ends numbers = pairs (take n ends) (take n numbers)

-- The part goes on from `at`, and what is listed of it are the `hits` hits that the buffers hold, but for the first `before`, moved by
-- `from`.
pub record Listing (tokens : List (List ℕ)) (image : List ℕ) (at : ℕ) (p : Part) (ends numbers : List ℕ) : Type 0 where
  pub begins : p.from ≡ from_at tokens image at
  pub ends_at : p.to ≡ to_at tokens image at
  pub inside : (p.before ≤ p.hits) × (p.hits ≤ length ends) × (p.hits ≤ length numbers)
  pub lists : listed_at tokens image at ≡ map (further p.from) (drop p.before (held p.hits ends numbers))
