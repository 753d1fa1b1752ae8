-- Samples of refused books, a table for each cause: the cause alone, and beside others so that their order is pinned. And of places of tokens,
-- of the bodies of a book, of a book's bytes, and of the marks of bodies.
use Rattle.std.specs.Prelude.{ℕ, suc, ◌≡◌, refl, Bool, true, false, ◌&&◌, List, [], ◌∷◌, ◌++◌, eqb, length, replicate, Some, None, Ok, Err}
use Rattle.book.specs.Book.{Reading, accepted, refused, too_long, refusal_in, found, missing, unread, place_in, bodies_in, read_from, read_book, summary}
use Rattle.book.specs.Bytes.{kind_of, book_of}
use Rattle.book.specs.Filter.{hash, is_marked, marked, Covers}
use Rattle.book.specs.declared.Refusal.TheVariants.{Unfinished, UnknownKind, Trailing, Repeat, OverLimits, NoToken}
use Rattle.book.specs.Answers.{refusal_of, answered_by, place_of}

-- A book that is read on from its first byte, with the tokens before it, and the refusal.
record Sample : Type 0 where
  before : List (List ℕ)
  book : List ℕ
  number : ℕ
  value : ℕ

row : List (List ℕ) → List ℕ → ℕ → ℕ → Sample
row before book number value = record { before = before; book = book; number = number; value = value }

-- `k` tokens "a", and `k` tokens of 1,024 bytes
letters : ℕ → List (List ℕ)
letters k = replicate k (97 ∷ [])

long : ℕ → List (List ℕ)
long k = replicate k (replicate 1024 97)

right : Reading → Sample → Bool
right (accepted tokens) s = false
right (refused k v) s = eqb k s.number && eqb v s.value

all_right : List Sample → Bool
unfolding right
all_right [] = true
all_right (s ∷ ss) = right (read_from s.book (suc (length s.book)) 0 s.before) s && all_right ss

-- A record: 1 for a missing kind, 2, 1 for a short body.
record-right : all_right (
    row [] (1 ∷ 97 ∷ []) 1 2  -- the kind is missing
    ∷ row [] (1 ∷ 97 ∷ 2 ∷ 98 ∷ []) 1 2  -- the body is short
    ∷ row [] (1 ∷ 97 ∷ 69 ∷ []) 2 2  -- the kind is above 44h, and 2 comes before 1 for a short body
    ∷ row [] (1 ∷ 97 ∷ 68 ∷ []) 1 2  -- 44h is a kind
    ∷ []) ≡ true
unfolding row all_right right
record-right = refl

-- After 00h: 3, 6.
closed-right : all_right (
    row [] (1 ∷ 97 ∷ 0 ∷ 7 ∷ []) 3 3  -- bytes after 00h
    ∷ row [] (0 ∷ 0 ∷ []) 3 1  -- 3 comes before 6
    ∷ row [] (0 ∷ []) 6 0  -- no token
    ∷ []) ≡ true
unfolding row all_right right
closed-right = refl

-- 4: a repeat, before what follows it.
repeat-right : all_right (row [] (1 ∷ 97 ∷ 1 ∷ 97 ∷ []) 4 2 ∷ row (letters 255) (1 ∷ 97 ∷ 0 ∷ []) 4 0 ∷ []) ≡ true
unfolding row letters all_right right
repeat-right = refl

-- 4 for the reverse of an earlier body of 4, 7 or 10 bytes; one of 5 is new, and one that reads the same backwards does not repeat itself.
turned_right : all_right (
    row [] (4 ∷ 97 ∷ 98 ∷ 98 ∷ 120 ∷ 4 ∷ 120 ∷ 98 ∷ 98 ∷ 97 ∷ 0 ∷ []) 4 5
    ∷ row ((1 ∷ 2 ∷ 3 ∷ 4 ∷ 5 ∷ 6 ∷ 7 ∷ []) ∷ []) (7 ∷ 7 ∷ 6 ∷ 5 ∷ 4 ∷ 3 ∷ 2 ∷ 1 ∷ []) 4 0
    ∷ row ((0 ∷ 1 ∷ 2 ∷ 3 ∷ 4 ∷ 5 ∷ 6 ∷ 7 ∷ 8 ∷ 9 ∷ []) ∷ []) (10 ∷ 9 ∷ 8 ∷ 7 ∷ 6 ∷ 5 ∷ 4 ∷ 3 ∷ 2 ∷ 1 ∷ 0 ∷ []) 4 0
    ∷ row ((1 ∷ 2 ∷ 3 ∷ 4 ∷ 5 ∷ []) ∷ []) (5 ∷ 5 ∷ 4 ∷ 3 ∷ 2 ∷ 1 ∷ 69 ∷ []) 2 6
    ∷ row [] (4 ∷ 97 ∷ 98 ∷ 98 ∷ 97 ∷ 69 ∷ []) 2 5
    ∷ []) ≡ true
unfolding row all_right right
turned_right = refl

-- 5: token 257; 256 pass.
tokens-right : all_right (row (letters 256) (1 ∷ 98 ∷ 0 ∷ []) 5 0 ∷ row (letters 256) (0 ∷ 7 ∷ []) 3 1 ∷ []) ≡ true
unfolding row letters all_right right
tokens-right = refl

-- 8: image byte 16,777,217; 16,777,216 pass.
images-right : too_long 16777216 ∷ too_long 16777217 ∷ [] ≡ false ∷ true ∷ []
images-right = refl

-- 256 counts tokens: after 255 with two words each there is room for another.
cards-right : all_right (row (replicate 255 (97 ∷ 98 ∷ 98 ∷ 120 ∷ [])) (1 ∷ 98 ∷ 69 ∷ []) 2 2 ∷ []) ≡ true
unfolding row all_right right
cards-right = refl

-- 5: body byte 16,385; 16,384 pass.
bodies_right : all_right (
    row (long 16) (1 ∷ 98 ∷ 0 ∷ []) 5 0 ∷ row (replicate 1023 97 ∷ long 15) (1 ∷ 98 ∷ 69 ∷ []) 2 2 ∷ []) ≡ true
unfolding row long all_right right
bodies_right = refl

-- 5: the reverse counts too, and one that reads the same backwards counts once; five bytes have none. 5 comes before 4 for the reverse of an
-- earlier body too.
both_right : all_right (
    row (replicate 1016 97 ∷ long 15) (4 ∷ 97 ∷ 98 ∷ 98 ∷ 120 ∷ 69 ∷ []) 2 5
    ∷ row (replicate 1017 97 ∷ long 15) (4 ∷ 97 ∷ 98 ∷ 98 ∷ 120 ∷ 69 ∷ []) 5 0
    ∷ row (replicate 1020 97 ∷ long 15) (4 ∷ 97 ∷ 98 ∷ 98 ∷ 97 ∷ 69 ∷ []) 2 5
    ∷ row (replicate 1021 97 ∷ long 15) (4 ∷ 97 ∷ 98 ∷ 98 ∷ 97 ∷ 69 ∷ []) 5 0
    ∷ row (replicate 1019 97 ∷ long 15) (5 ∷ 97 ∷ 98 ∷ 98 ∷ 98 ∷ 120 ∷ 69 ∷ []) 2 6
    ∷ row ((120 ∷ 98 ∷ 98 ∷ 97 ∷ []) ∷ replicate 1009 97 ∷ long 15) (4 ∷ 97 ∷ 98 ∷ 98 ∷ 120 ∷ 0 ∷ []) 5 0
    ∷ []) ≡ true
unfolding row long all_right right
both_right = refl

-- 5: so do the reverses of earlier tokens.
earlier-right : all_right (row ((120 ∷ 98 ∷ 98 ∷ 97 ∷ []) ∷ replicate 1009 97 ∷ long 15) (4 ∷ 97 ∷ 98 ∷ 98 ∷ 121 ∷ 69 ∷ []) 5 0 ∷ []) ≡ true
unfolding row long all_right right
earlier-right = refl

-- What a reader learns: two tokens, and the body bytes of three words.
learnt-right : summary (read_book (1 ∷ 97 ∷ 4 ∷ 97 ∷ 98 ∷ 98 ∷ 120 ∷ 0 ∷ []))
    ≡ accepted (record { tokens = 2; bodies = 9; shortest = 1; longest = 4 })
learnt-right = refl

-- 5 comes before 4, and 1 for a short body before 5.
limits-first : all_right (row (letters 300) (1 ∷ 97 ∷ 0 ∷ []) 5 0 ∷ row (letters 300) (2 ∷ 97 ∷ []) 1 0 ∷ []) ≡ true
unfolding row letters all_right right
limits-first = refl

-- The number comes first, then the value; both are 0 where there is no refusal.
refused-told : refusal_in (read_book (1 ∷ 97 ∷ 1 ∷ 97 ∷ [])) ≡ (4, 2)
refused-told = refl

accepted-told : refusal_in (read_book (1 ∷ 97 ∷ 0 ∷ [])) ≡ (0, 0)
accepted-told = refl

-- Each case of the enum has its number.
cases-told : refusal_of (Unfinished 9) ∷ refusal_of (UnknownKind 9) ∷ refusal_of (Trailing 9) ∷ refusal_of (Repeat 9) ∷ refusal_of (OverLimits 9) ∷ refusal_of NoToken ∷ []
    ≡ (1, 9) ∷ (2, 9) ∷ (3, 9) ∷ (4, 9) ∷ (5, 9) ∷ (6, 0) ∷ []
cases-told = refl

-- Both tokens of a book, and two that it lacks.
places-right : (let book = read_book (1 ∷ 97 ∷ 2 ∷ 98 ∷ 99 ∷ 0 ∷ []) in place_in book 1 ∷ place_in book 2 ∷ place_in book 0 ∷ place_in book 3 ∷ [])
    ≡ found 1 1 ∷ found 3 2 ∷ missing ∷ missing ∷ []
places-right = refl

-- A book with a repeat is refused, whatever token is asked for.
unread-right : (let book = read_book (1 ∷ 97 ∷ 1 ∷ 97 ∷ 0 ∷ []) in place_in book 0 ∷ place_in book 1 ∷ []) ≡ unread 4 2 ∷ unread 4 2 ∷ []
unread-right = refl

-- An answer that is whole, and one that is refused.
answered-whole : {E : Type 0} (told : E → ℕ × ℕ) → answered_by {A = ℕ} told (Ok 7) ≡ accepted 7
answered-whole told = refl

answered-refused : answered_by {A = ℕ} refusal_of (Err (OverLimits 9)) ≡ refused 5 9
answered-refused = refl

-- Each case of a place has its numbers.
places-told : place_of (Ok (Some (record { at = 7; size = 5 }))) ∷ place_of (Ok None) ∷ place_of (Err (Repeat 9)) ∷ [] ≡ found 7 5 ∷ missing ∷ unread 4 9 ∷ []
places-told = refl

-- The bodies of a book that breaks off, of one that goes on behind its 00h, of one with a kind above 44h, and of an empty one.
bodies-found : bodies_in (1 ∷ 97 ∷ 2 ∷ 98 ∷ 99 ∷ 3 ∷ 97 ∷ []) ∷ bodies_in (1 ∷ 97 ∷ 0 ∷ 1 ∷ 98 ∷ []) ∷ bodies_in (1 ∷ 97 ∷ 69 ∷ 1 ∷ 98 ∷ []) ∷ bodies_in [] ∷ []
    ≡ ((97 ∷ []) ∷ (98 ∷ 99 ∷ []) ∷ []) ∷ ((97 ∷ []) ∷ []) ∷ ((97 ∷ []) ∷ []) ∷ [] ∷ []
bodies-found = refl

-- A book made of tokens, one of them long, and the kinds of the long ones.
made-right : book_of ((97 ∷ []) ∷ (98 ∷ 99 ∷ []) ∷ []) ≡ 1 ∷ 97 ∷ 2 ∷ 98 ∷ 99 ∷ 0 ∷ []
made-right = refl

long-right : book_of (replicate 128 97 ∷ (98 ∷ []) ∷ []) ≡ 65 ∷ replicate 128 97 ++ (1 ∷ 98 ∷ 0 ∷ [])
long-right = refl

kinds-right : kind_of 64 ∷ kind_of 128 ∷ kind_of 256 ∷ kind_of 512 ∷ kind_of 1024 ∷ [] ≡ 64 ∷ 65 ∷ 66 ∷ 67 ∷ 68 ∷ []
kinds-right = refl

-- Hashes: of no byte and of one; of a body and the same read backwards; of two that differ in their ninth byte of seventeen.
hashes-right : hash [] ∷ hash (97 ∷ []) ∷ hash (1 ∷ 2 ∷ 3 ∷ []) ∷ hash (3 ∷ 2 ∷ 1 ∷ []) ∷ hash (replicate 8 1 ++ (5 ∷ replicate 8 1))
    ∷ hash (replicate 8 1 ++ (6 ∷ replicate 8 1)) ∷ []
    ≡ 0 ∷ 231 ∷ 163 ∷ 163 ∷ 737 ∷ 737 ∷ []
hashes-right = refl

-- Mark 64 is the first of the second cell, and no other is set with it.
only-marked : (m : ℕ) → Bool
only-marked m = is_marked (marked (replicate 16 0) 64) m

marks-right : only-marked 64 ∷ only-marked 0 ∷ only-marked 63 ∷ only-marked 65 ∷ only-marked 128 ∷ [] ≡ true ∷ false ∷ false ∷ false ∷ false ∷ []
unfolding only-marked
marks-right = refl

-- Those of its cell that are set stay.
marks_stay : marked (1 ∷ 128 ∷ 1 ∷ []) 70 ≡ 1 ∷ 192 ∷ 1 ∷ []
marks_stay = refl

-- A filter of all its marks covers a token whose mark was set.
covers-right : Covers (marked (replicate 16 0) (hash (97 ∷ []))) ((97 ∷ []) ∷ [])
covers-right = (refl, refl)
