-- The filter before the reader's repeat test: a mark for each body so far, at a number that is made of its length and of bytes at its ends.
-- No answer hangs on these numbers. A body and its reverse have equal ones, so a body whose mark is not set is a word of none so far.
use Rattle.std.specs.Prelude.{ℕ, zero, suc, ◌+◌, ◌-◌, ◌*◌, ◌/◌, ◌%◌, ◌^◌, min, ◌≡◌, Bool, true, List, [], ◌∷◌, ltb, length, get_or, set}
use Rattle.std.specs.Int.Bits.{bit_and, bit_or}

abbrev pub marks : ℕ
marks = 1024

-- at most so many bytes at each end make a hash
abbrev pub near : ℕ
near = 8

-- So many pairs of bytes, from the pair that lies i from both ends on inwards. As 37 is odd, no step loses what the others brought.
abbrev pub hash_from : List ℕ → ℕ → ℕ → ℕ → ℕ
hash_from body zero i sum = sum
hash_from body (suc pairs) i sum =
    hash_from body pairs (i + 1) ((37 * sum + get_or body i 0 + get_or body (length body - 1 - i) 0) % marks)

-- The hash of a body: of its length and of these pairs, a byte in the middle being paired with itself.
abbrev pub hash : List ℕ → ℕ
hash body = hash_from body (min near (length body - length body / 2)) 0 (length body % marks)

-- The filter is a list of cells of 64 marks.
module _ (filter : List ℕ) (n : ℕ) where
  abbrev cell_at : ℕ
  cell_at = get_or filter (n / 64) 0

  abbrev bit : ℕ
  bit = 2 ^ (n % 64)

  -- mark n is set
  abbrev pub is_marked : Bool
  is_marked = ltb 0 (bit_and cell_at bit)

  -- the filter with mark n set
  abbrev pub marked : List ℕ
  marked = set filter (n / 64) (bit_or cell_at bit)

-- The filter has all its marks, and that of each of these tokens is set.
abbrev pub Covers : List ℕ → List (List ℕ) → Type 0
Covers filter [] = length filter * 64 ≡ marks
Covers filter (t ∷ ts) = (is_marked filter (hash t) ≡ true) × Covers filter ts
