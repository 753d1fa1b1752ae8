-- Two books as one: which tokens it has, and refusals 5, 13 and 14.
use Rattle.std.specs.Prelude.{ℕ, ◌+◌, Bool, true, false, ◌||◌, not, List, ◌++◌, ltb, length, take}
use Rattle.rules.specs.Lists.{select, any_of, least, over}
use Rattle.rules.specs.Words.{is_word}
use Rattle.rules.specs.Tokens.{body_bytes}
use Rattle.book.specs.Book.{Verdict, accepted, refused, max_tokens, max_bodies, read_book, record_place}
use Rattle.book.specs.Bytes.{book_of}

-- The tokens lack t: it is a word of none of them.
abbrev pub lacks : List (List ℕ) → List ℕ → Bool
lacks tokens t = not (any_of (is_word t) tokens)

-- All tokens of the first book, then those of the second that the first lacks, each in its own order.
abbrev pub merged : List (List ℕ) → List (List ℕ) → List (List ℕ)
merged tokens others = tokens ++ select (lacks tokens) others

-- The tokens are over the limits of a book: more than 256, or more than 16,384 body bytes.
abbrev pub too_large : List (List ℕ) → Bool
too_large tokens = ltb max_tokens (length tokens) || ltb max_bodies (body_bytes tokens)

-- How many tokens of the second book come before the first one with which the merged book is over its limits; all, if none is.
abbrev pub fitting : List (List ℕ) → List (List ℕ) → ℕ
fitting tokens others = least (λ i. too_large (merged tokens (take (i + 1) others))) 0 (length others)

-- Refusal 5: there is such a token.
abbrev pub over_limits : List (List ℕ) → List (List ℕ) → Bool
over_limits tokens others = ltb (fitting tokens others) (length others)

-- Refusal 14: the output is shorter than the book.
abbrev pub too_short : List ℕ → List ℕ → Bool
too_short out book = ltb (length out) (length book)

-- What merging answers: the length written; the first book's own refusal; the number of the second book's; the place in the second book where
-- the limits are passed; or the length that the output needs.
pub data Answer : Type 0 where
  wrote : ℕ → Answer
  first_bad : ℕ → ℕ → Answer
  second_bad : ℕ → Answer
  limits_passed : ℕ → Answer
  no_room : ℕ → Answer

-- Its number and value: 1 to 6, 13, 5, 14.
abbrev pub verdict : Answer → Verdict ℕ
verdict (wrote n) = accepted n
verdict (first_bad k v) = refused k v
verdict (second_bad k) = refused 13 k
verdict (limits_passed place) = refused 5 place
verdict (no_room n) = refused 14 n

-- The answer, and what the lent output then holds.
pub record Merging : Type 0 where
  pub answer : Answer
  pub out : List ℕ

-- The tokens of both books are known: 5, by the record's place in the second book, then 14. Then the book is written, and what follows it
-- stays.
abbrev pub join : List (List ℕ) → List (List ℕ) → List ℕ → Merging
join tokens others out =
    let book = book_of (merged tokens others) in
    elim (over_limits tokens others) [
      | true ↦ record { answer = limits_passed (record_place others (fitting tokens others)); out = out }
      | false ↦ elim (too_short out book) [
        | true ↦ record { answer = no_room (length book); out = out }
        | false ↦ record { answer = wrote (length book); out = over book out }
      ]
    ]

-- 1 to 6 of the first book, 13, 5, 14. A refusal leaves the output as it was.
abbrev pub merge : List ℕ → List ℕ → List ℕ → Merging
merge first second out =
    elim (read_book first) [
      | refused k v ↦ record { answer = first_bad k v; out = out }
      | accepted tokens ↦ elim (read_book second) [
        | refused k v ↦ record { answer = second_bad k; out = out }
        | accepted others ↦ join tokens others out
      ]
    ]
