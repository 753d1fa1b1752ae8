-- Samples of merging: the book that is written, and each refusal alone and in its order.
use Rattle.std.specs.Prelude.{ℕ, ◌≡◌, refl, true, false, Ok, Err, List, [], ◌∷◌, ◌++◌, map, replicate}
use Rattle.book.specs.Book.{accepted, refused, read_book}
use Rattle.book.specs.declared.Refusal.TheVariants.{Repeat}
use Rattle.merge.specs.Merge.{Answer, wrote, first_bad, second_bad, limits_passed, no_room, verdict, Merging, join, merge}
use Rattle.merge.specs.Answers.{answer_of}
use Rattle.merge.specs.Steps.{if_wanted, placed, judged}
use Rattle.merge.specs.declared.Refusal.TheVariants.{Unread, SecondUnread, OverLimits, TooShort}

-- "b" and "aa"; "a", "aa" and "c"
abbrev north : List ℕ
north = 1 ∷ 98 ∷ 2 ∷ 97 ∷ 97 ∷ 0 ∷ []

abbrev south : List ℕ
south = 1 ∷ 97 ∷ 2 ∷ 97 ∷ 97 ∷ 1 ∷ 99 ∷ 0 ∷ []

-- an output of n bytes, and what a refusal leaves
abbrev sevens : ℕ → List ℕ
sevens n = replicate n 7

abbrev refuses : Answer → List ℕ → Merging
refuses answer out = record { answer = answer; out = out }

-- All of the first, then what it lacks of the second, each in its own order; what follows 00h stays.
written : merge north south (sevens 12)
    ≡ record { answer = wrote 10; out = 1 ∷ 98 ∷ 2 ∷ 97 ∷ 97 ∷ 1 ∷ 97 ∷ 1 ∷ 99 ∷ 0 ∷ 7 ∷ 7 ∷ [] }
written = refl

-- The other way round.
turned : merge south north (sevens 10)
    ≡ record { answer = wrote 10; out = 1 ∷ 97 ∷ 2 ∷ 97 ∷ 97 ∷ 1 ∷ 99 ∷ 1 ∷ 98 ∷ 0 ∷ [] }
turned = refl

-- The first book has all that the second has.
nothing-new : merge north north (sevens 7) ≡ record { answer = wrote 6; out = north ++ sevens 1 }
nothing-new = refl

-- "abcd", and its reverse
abbrev card : List ℕ
card = 97 ∷ 98 ∷ 99 ∷ 100 ∷ []

abbrev back : List ℕ
back = 100 ∷ 99 ∷ 98 ∷ 97 ∷ []

-- A card number whose reverse the first book has is passed over.
reverse-passed : merge (4 ∷ card ++ (0 ∷ [])) (4 ∷ back ++ (0 ∷ [])) (sevens 6) ≡ record { answer = wrote 6; out = 4 ∷ card ++ (0 ∷ []) }
reverse-passed = refl

-- Five bytes and their reverse are two tokens.
five-stay : merge (5 ∷ 101 ∷ card ++ (0 ∷ [])) (5 ∷ back ++ (101 ∷ 0 ∷ [])) (sevens 13)
    ≡ record { answer = wrote 13; out = 5 ∷ 101 ∷ card ++ (5 ∷ back ++ (101 ∷ 0 ∷ [])) }
five-stay = refl

-- The length is that of the bytes written, and a reverse is not written.
own-written : merge north (4 ∷ card ++ (0 ∷ [])) (sevens 11)
    ≡ record { answer = wrote 11; out = 1 ∷ 98 ∷ 2 ∷ 97 ∷ 97 ∷ 4 ∷ card ++ (0 ∷ []) }
own-written = refl

-- 14, with the closing 00h.
too_short_lem : merge north south (sevens 9) ≡ refuses (no_room 10) (sevens 9)
too_short_lem = refl

-- The first book's own refusal, before all others.
first-bad : merge (1 ∷ 97 ∷ 1 ∷ 97 ∷ 0 ∷ []) (0 ∷ []) [] ≡ refuses (first_bad 4 2) []
first-bad = refl

first-empty : merge (0 ∷ []) south (sevens 12) ≡ refuses (first_bad 6 0) (sevens 12)
first-empty = refl

-- 13, with the number of the second book's refusal and not its place; before 14.
second-bad : merge north (1 ∷ 97 ∷ 1 ∷ 97 ∷ 0 ∷ []) (sevens 1) ≡ refuses (second_bad 4) (sevens 1)
second-bad = refl

second_empty : merge north (0 ∷ []) [] ≡ refuses (second_bad 6) []
second_empty = refl

-- The same for each refusal of the second book, whatever the output.
second-any : (second out : List ℕ) (k v : ℕ) → read_book second ≡ refused k v → merge north second out ≡ refuses (second_bad k) out
second-any second out k v e = cc e

-- `k` tokens "a", which serve as any others do, as the first book's tokens are not compared with one another; and tokens of 16,320 + k bytes
abbrev letters : ℕ → List (List ℕ)
letters k = replicate k (97 ∷ [])

abbrev long : ℕ → List (List ℕ)
long k =
    replicate 512 97 ∷ replicate 256 97 ∷ replicate 128 97 ∷ replicate 64 97 ∷ replicate k 97 ∷ replicate 15 (replicate 1024 97)

-- "aa", which the first book has, and "b", "cc", "d", which it lacks
abbrev more : List (List ℕ)
more = (97 ∷ 97 ∷ []) ∷ (98 ∷ []) ∷ (99 ∷ 99 ∷ []) ∷ (100 ∷ []) ∷ []

-- 5: token 257, by its record's place in the second book; a token that the first has is passed over, what follows is not asked; before 14.
tokens-over : join ((97 ∷ 97 ∷ []) ∷ letters 255) more [] ≡ refuses (limits_passed 3) []
tokens-over = refl

-- One token more fits before it.
tokens-later : join ((97 ∷ 97 ∷ []) ∷ letters 254) more (sevens 3) ≡ refuses (limits_passed 5) (sevens 3)
tokens-later = refl

-- 256 pass.
tokens-pass : join ((97 ∷ 97 ∷ []) ∷ letters 252) more [] ≡ refuses (no_room 515) []
tokens-pass = refl

-- 256 counts tokens: 255 with two words each leave room for another.
cards-pass : (join (replicate 255 card) ((98 ∷ []) ∷ []) (sevens 1278)).answer ≡ wrote 1278
cards-pass = refl

-- 5: body byte 16,385, though a shorter body behind it would fit; 16,384 pass.
bodies-over : join (long 63) ((98 ∷ 98 ∷ []) ∷ (99 ∷ []) ∷ []) (sevens 3) ≡ refuses (limits_passed 0) (sevens 3)
bodies-over = refl

bodies-pass : join (long 63) ((98 ∷ []) ∷ []) (sevens 3) ≡ refuses (no_room 16406) (sevens 3)
bodies-pass = refl

-- 5: both words of a card number count, to body byte 16,385; 16,384 pass, and the length wanted has its own bytes alone.
words-over : join (long 57) (card ∷ []) (sevens 3) ≡ refuses (limits_passed 0) (sevens 3)
words-over = refl

words-pass : join (long 56) (card ∷ []) (sevens 3) ≡ refuses (no_room 16402) (sevens 3)
words-pass = refl

-- A reverse is passed over before 5 is asked: 256 tokens, or 16,384 body bytes, are reached, and the token behind it is over them.
tokens-reached : join (card ∷ letters 255) (back ∷ (98 ∷ []) ∷ []) [] ≡ refuses (limits_passed 5) []
tokens-reached = refl

bodies-reached : join (card ∷ long 56) (back ∷ (98 ∷ []) ∷ []) [] ≡ refuses (limits_passed 5) []
bodies-reached = refl

-- Each answer has its number and value, and each case of the enum its answer.
numbers-told : map verdict (wrote 9 ∷ first_bad 4 9 ∷ second_bad 4 ∷ limits_passed 9 ∷ no_room 9 ∷ [])
    ≡ accepted 9 ∷ refused 4 9 ∷ refused 13 4 ∷ refused 5 9 ∷ refused 14 9 ∷ []
numbers-told = refl

cases-told : map answer_of (Ok 9 ∷ Err (Unread (Repeat 9)) ∷ Err (SecondUnread 4) ∷ Err (OverLimits 9) ∷ Err (TooShort 9) ∷ [])
    ≡ wrote 9 ∷ first_bad 4 9 ∷ second_bad 4 ∷ limits_passed 9 ∷ no_room 9 ∷ []
cases-told = refl

-- What the steps hand on: bytes placed, or not wanted, and what a survey judges.
placed-right : placed (sevens 5) 2 (if_wanted true (8 ∷ 9 ∷ [])) ∷ placed (sevens 5) 2 (if_wanted false (8 ∷ 9 ∷ [])) ∷ []
    ≡ (7 ∷ 7 ∷ 8 ∷ 9 ∷ 7 ∷ []) ∷ sevens 5 ∷ []
placed-right = refl

judged-right : judged (letters 256) more ∷ judged (letters 1) ((97 ∷ []) ∷ (98 ∷ []) ∷ []) ∷ [] ≡ Err (OverLimits 0) ∷ Ok 5 ∷ []
judged-right = refl
