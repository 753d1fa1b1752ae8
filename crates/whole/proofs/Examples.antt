-- Samples of the whole call: "a" and "aa" have three hits in "aab", for which four bytes are fetched.
use Rattle.std.specs.Prelude.{ℕ, ◌≡◌, refl, List, [], ◌∷◌, ◌++◌, length, replicate}
use Rattle.rules.specs.Rules.{trace}
use Rattle.rules.specs.Sweep.{happens}
use Rattle.book.specs.Book.{Verdict, accepted, refused}
use Rattle.tables.specs.Tables.{Tables, built}
use Rattle.whole.specs.Image.{Swept, sweep_image}

abbrev book : List ℕ
book = 1 ∷ 97 ∷ 2 ∷ 97 ∷ 97 ∷ 0 ∷ []

-- the book without its last two bytes
abbrev cut : List ℕ
cut = 1 ∷ 97 ∷ 2 ∷ 97 ∷ []

abbrev image : List ℕ
image = 97 ∷ 97 ∷ 98 ∷ []

-- tables of n entries and a buffer of n entries, as they are lent
abbrev nines : ℕ → Tables
nines n = record { parent = replicate n 9; label = replicate n 9; token = replicate n 9; first = replicate n 9; next = replicate n 9; shift = replicate n 9 }

abbrev eights : ℕ → List ℕ
eights n = replicate n 8

-- three nodes: "", "a", "aa"; the fourth entry stays
abbrev three : Tables
three = record {
  parent = 0 ∷ 0 ∷ 1 ∷ 9 ∷ [];
  label = 0 ∷ 97 ∷ 97 ∷ 9 ∷ [];
  token = 0 ∷ 1 ∷ 2 ∷ 9 ∷ [];
  first = 1 ∷ 2 ∷ 0 ∷ 9 ∷ [];
  next = 0 ∷ 0 ∷ 0 ∷ 9 ∷ [];
  shift = 1 ∷ 1 ∷ 1 ∷ 9 ∷ [];
}

-- The sweep, with buffers of so many entries.
abbrev swept : ℕ → ℕ → Swept
swept ends tokens = sweep_image book image (nines 4) (eights ends) (eights tokens)

-- What it leaves once the tables are built.
abbrev leaves : Verdict ℕ → List ℕ → List ℕ → Swept
leaves answer ends tokens = record { answer = answer; fetched = 4; spared = 0; tables = three; ends = ends; tokens = tokens }

-- All hits are there, and what follows them stays in both buffers.
all_found : swept 5 4 ≡ leaves (accepted 3) (1 ∷ 2 ∷ 2 ∷ 8 ∷ 8 ∷ []) (1 ∷ 2 ∷ 1 ∷ 8 ∷ [])
unfolding happens trace built
all_found = refl

-- There is room for exactly the hits there are.
just-room : swept 3 4 ≡ leaves (accepted 3) (1 ∷ 2 ∷ 2 ∷ []) (1 ∷ 2 ∷ 1 ∷ 8 ∷ [])
unfolding happens trace built
just-room = refl

-- 12 where the first buffer is the shorter: the number of all hits, and the first of them as far as it reaches.
first-shorter : swept 1 3 ≡ leaves (refused 12 3) (1 ∷ []) (1 ∷ 8 ∷ 8 ∷ [])
unfolding happens trace built
first-shorter = refl

-- 12 where the second is.
second-shorter : swept 4 2 ≡ leaves (refused 12 3) (1 ∷ 2 ∷ 8 ∷ 8 ∷ []) (1 ∷ 2 ∷ [])
unfolding happens trace built
second-shorter = refl

-- 12 where both are empty: the tables are built all the same.
no_room_lem : swept 0 0 ≡ leaves (refused 12 3) [] []
unfolding happens trace built
no_room_lem = refl

-- "c", "bc" and "abc" in "abc": the longest comes first, and a buffer of two entries holds the two longest.
abbrev nested : Swept
nested = sweep_image (1 ∷ 99 ∷ 2 ∷ 98 ∷ 99 ∷ 3 ∷ 97 ∷ 98 ∷ 99 ∷ 0 ∷ []) (97 ∷ 98 ∷ 99 ∷ []) (nines 7) (eights 2) (eights 4)

longest-first : (nested.answer ≡ refused 12 3) × (nested.ends ≡ 3 ∷ 3 ∷ []) × (nested.tokens ≡ 3 ∷ 2 ∷ 8 ∷ 8 ∷ [])
unfolding happens trace
longest-first = (refl, refl, refl)

-- "aa" and "aaaaa" in "aaaaaa": the whole call counts what it takes from stretches, also after 12.
abbrev remembers : ℕ → Swept
remembers n = sweep_image (5 ∷ replicate 5 97 ++ (2 ∷ 97 ∷ 97 ∷ 0 ∷ [])) (replicate 6 97) (nines 8) (eights n) (eights n)

spared-counted : ((remembers 7).answer ≡ accepted 7) × ((remembers 7).fetched ≡ 11) × ((remembers 7).spared ≡ 8) × ((remembers 6).answer ≡ refused 12 7)
    × ((remembers 6).fetched ≡ 11) × ((remembers 6).spared ≡ 8)
unfolding happens trace
spared-counted = (refl, refl, refl, refl, refl, refl)

-- A card number stands there reversed and in book order: both hits have its number.
abbrev turned : ℕ → Swept
turned n = sweep_image (4 ∷ 97 ∷ 98 ∷ 99 ∷ 120 ∷ 0 ∷ []) (120 ∷ 99 ∷ 98 ∷ 97 ∷ 97 ∷ 98 ∷ 99 ∷ 120 ∷ []) (nines n) (eights 2) (eights 2)

both_found : ((turned 9).answer ≡ accepted 2) × ((turned 9).fetched ≡ 9) × ((turned 9).ends ≡ 4 ∷ 8 ∷ []) × ((turned 9).tokens ≡ 1 ∷ 1 ∷ [])
unfolding happens trace
both_found = (refl, refl, refl, refl)

-- 7: the tables are an entry short of both words.
both-short : (turned 8).answer ≡ refused 7 9
both-short = refl

-- What a refusal before building leaves: all that was lent.
abbrev untouched : Verdict ℕ → ℕ → Swept
untouched answer n = record { answer = answer; fetched = 0; spared = 0; tables = nines n; ends = eights 4; tokens = eights 2 }

-- 7: a table has an entry too few.
too_short_lem : sweep_image book image (nines 3) (eights 4) (eights 2) ≡ untouched (refused 7 4) 3
too_short_lem = refl

module _ (long : List ℕ) (e : length long ≡ 16777217) where
  -- 8: the image has a byte too many, whatever its bytes are.
  too_long_lem : sweep_image book long (nines 4) (eights 4) (eights 2) ≡ untouched (refused 8 16777216) 4
  too_long_lem = rw (e, sweep_image) refl

  -- 7 before 8.
  seven-first : sweep_image book long (nines 3) (eights 4) (eights 2) ≡ untouched (refused 7 4) 3
  seven-first = refl

  -- 1 before 7 and 8.
  one-first : sweep_image cut long (nines 0) (eights 4) (eights 2) ≡ untouched (refused 1 2) 0
  one-first = refl
