-- Samples of what the answers say, the number of hits or the refusal, and the bytes fetched and spared; of a round and its hits; and of
-- stretches by their places.
use Rattle.std.specs.Prelude.{ℕ, ◌≡◌, refl, List, [], ◌∷◌, Ok, Err}
use Rattle.std.proofs.Math.Option.{some, none}
use Rattle.rules.specs.Tokens.{of_tokens}
use Rattle.book.specs.Book.{accepted, refused}
use Rattle.book.specs.declared.Refusal.TheVariants.{Repeat}
use Rattle.trie.specs.Answers.{tree_only}
use Rattle.image.specs.declared.Found.{Found}
use Rattle.image.specs.declared.Refusal.TheVariants.{Unread, TooShort, TooLong, TooMany}
use Rattle.image.specs.declared.spans.Span.{Span}
use Rattle.image.specs.Results.{swept_of, fetched_of, spared_of}
use Rattle.image.specs.Rounds.{Reached, reached, met}
use Rattle.image.specs.Hits.{notes}
use Rattle.image.specs.Walk.{tree_in, newest}
use Rattle.image.specs.Spans.{Places, in_use, renewed}

abbrev found : Found
found = record { hits = 5; fetched = 40; spared = 6 }

cases-told : swept_of (Ok found) ∷ swept_of (Err (Unread (Repeat 3))) ∷ swept_of (Err (TooShort 3)) ∷ swept_of (Err (TooLong 3)) ∷ swept_of (Err (TooMany found)) ∷ []
    ≡ accepted 5 ∷ refused 4 3 ∷ refused 7 3 ∷ refused 8 3 ∷ refused 12 5 ∷ []
cases-told = refl

fetches-told : fetched_of (Ok found) ∷ fetched_of (Err (TooShort 3)) ∷ fetched_of (Err (TooMany found)) ∷ [] ≡ 40 ∷ 0 ∷ 40 ∷ []
fetches-told = refl

spares-told : spared_of (Ok found) ∷ spared_of (Err (TooLong 3)) ∷ spared_of (Err (TooMany found)) ∷ [] ≡ 6 ∷ 0 ∷ 6 ∷ []
spares-told = refl

-- A round before place 3, over the nodes "", "c", "bc", "abc" with these tokens.
abbrev round : List ℕ → List ℕ → Reached ℕ
round token image = reached (tree_in (tree_only [] (0 ∷ 99 ∷ 98 ∷ 97 ∷ []) token (1 ∷ 2 ∷ 3 ∷ 0 ∷ []) (0 ∷ 0 ∷ 0 ∷ 0 ∷ [])) 4) image 3

-- In "abc" it comes to "abc", a token itself; in "xbc" to "bc", and "c" is the longest token then, or "bc", or there is none.
to-token : round (0 ∷ 1 ∷ 2 ∷ 3 ∷ []) (97 ∷ 98 ∷ 99 ∷ []) ≡ record { node = 3; depth = 3; closing = none; tokens = 3 ∷ 2 ∷ 1 ∷ [] }
to-token = refl

past-token : round (0 ∷ 1 ∷ 0 ∷ 2 ∷ []) (120 ∷ 98 ∷ 99 ∷ []) ≡ record { node = 2; depth = 2; closing = some 120; tokens = 1 ∷ [] }
past-token = refl

to-longer : round (0 ∷ 1 ∷ 2 ∷ 0 ∷ []) (120 ∷ 98 ∷ 99 ∷ []) ≡ record { node = 2; depth = 2; closing = some 120; tokens = 2 ∷ 1 ∷ [] }
to-longer = refl

no-token : round (0 ∷ 0 ∷ 0 ∷ 1 ∷ []) (120 ∷ 98 ∷ 99 ∷ []) ≡ record { node = 2; depth = 2; closing = some 120; tokens = [] }
no-token = refl

-- "c", "bc" and "abc" in "abc": three hits, the longest first.
longest-first : met (of_tokens ((99 ∷ []) ∷ (98 ∷ 99 ∷ []) ∷ (97 ∷ 98 ∷ 99 ∷ []) ∷ []) 1) (97 ∷ 98 ∷ 99 ∷ []) 3 ≡ (3, 3) ∷ (3, 2) ∷ (3, 1) ∷ []
longest-first = refl

-- Three numbers behind one: a buffer with room for three holds the first two of them.
short-buffer : notes 3 1 (3 ∷ 2 ∷ 1 ∷ []) (8 ∷ 8 ∷ 8 ∷ 8 ∷ []) ≡ 8 ∷ 3 ∷ 2 ∷ 8 ∷ []
short-buffer = refl

-- The first three of four numbers, the last of them first.
newest-first : newest (1 ∷ 2 ∷ 3 ∷ 4 ∷ []) 3 ≡ 3 ∷ 2 ∷ 1 ∷ []
newest-first = refl

abbrev stretch : ℕ → ℕ → Places
stretch l r = record { left = l; right = r; node = tt }

abbrev slot : ℕ → ℕ → Span
slot l r = record { left = l; right = r }

-- Two stretches in use, of three.
two-in-use : in_use (record { slots = slot 1 3 ∷ slot 4 6 ∷ slot 7 9 ∷ []; used = 2 }) ≡ stretch 1 3 ∷ stretch 4 6 ∷ []
two-in-use = refl

-- A round matched the places from 10 up to 30 and shifts by 5: its stretch is kept, and one that ends at 8 is too short by then.
one_kept : renewed 10 30 35 (stretch 0 8 ∷ []) ≡ stretch 10 30 ∷ []
one_kept = refl
