-- The hits of an image by parts, for more of them than the buffers hold. A part begins so far to the left that no token is cut which ends
-- past what was listed before, and it is so short that its hits fit.
use Rattle.std.specs.Prelude.{ℕ, zero, suc, ◌+◌, ◌-◌, min, true, false, List, [], ◌++◌, map, leb, ltb, length, take, drop}
use Rattle.rules.specs.Lists.{select}
use Rattle.rules.specs.Tokens.{longest_of}
use Rattle.rules.specs.Sweep.{further, hits_of}

-- How many hits the buffers hold, and how many bytes a part may have: at most 68 tokens end at one place (`Laws.Fits`).
abbrev pub max_hits : ℕ
max_hits = 262144

abbrev pub max_part : ℕ
max_part = 3855

-- Where the part begins that goes on from `at`: D − 1 bytes before it, or at the image's start.
abbrev pub part_from : ℕ → ℕ → ℕ
part_from longest at = at - (longest - 1)

-- Where a part ends that begins at `from`, in an image of n bytes.
abbrev pub part_to : ℕ → ℕ → ℕ
part_to n from = min n (from + max_part)

-- the bytes from one place up to another
abbrev pub between : ℕ → ℕ → List ℕ → List ℕ
between from to image = take (to - from) (drop from image)

-- the hits that end past `at`, and those that end at `to` at most
abbrev pub past : ℕ → List (ℕ × ℕ) → List (ℕ × ℕ)
past at = select (λ h. ltb at h.0)

abbrev pub up_to : ℕ → List (ℕ × ℕ) → List (ℕ × ℕ)
up_to to = select (λ h. leb h.0 to)

module _ (tokens : List (List ℕ)) (image : List ℕ) where
  -- where the part that goes on from `at` begins and ends
  abbrev pub from_at : ℕ → ℕ
  from_at at = part_from (longest_of tokens) at

  abbrev pub to_at : ℕ → ℕ
  to_at at = part_to (length image) (from_at at)

  -- The part that goes on from `at`, and what is listed of it: the hits past `at`, with their ends in the whole image.
  abbrev pub part_at : ℕ → List ℕ
  part_at at = between (from_at at) (to_at at) image

  abbrev pub listed_at : ℕ → List (ℕ × ℕ)
  listed_at at = past at (map (further (from_at at)) (hits_of tokens (part_at at)))

  -- What is listed from `at` on. Each part goes on by a byte at least, so the image's length is fuel enough.
  abbrev pub listed_from : ℕ → ℕ → List (ℕ × ℕ)
  listed_from zero at = []
  listed_from (suc fuel) at = elim (ltb at (length image)) [ true ↦ listed_at at ++ listed_from fuel (to_at at) | false ↦ [] ]
