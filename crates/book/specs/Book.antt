-- The revocation book: its records, its limits, refusals 1 to 6 in document 01's order, and the test of 8.
use Rattle.std.specs.Prelude.{ℕ, zero, suc, ◌+◌, ◌-◌, ◌*◌, ◌^◌, Bool, true, false, ◌&&◌, ◌||◌, List, [], ◌∷◌, ◌++◌, leb, ltb, eqb, length, get_or, take, drop}
use Rattle.rules.specs.Lists.{any_of}
use Rattle.rules.specs.Words.{words_of, is_word}
use Rattle.rules.specs.Tokens.{total, body_bytes, shortest_of, longest_of}

-- The limits of a book: tokens, body bytes, and the length of an image that is swept with it.
abbrev pub max_tokens : ℕ
max_tokens = 256

abbrev pub max_bodies : ℕ
max_bodies = 16384

abbrev pub max_image : ℕ
max_image = 16777216

-- Refusal 8: an image of n bytes is over its limit.
abbrev pub too_long : ℕ → Bool
too_long n = ltb max_image n

-- the longest body that a kind can have
abbrev pub max_body : ℕ
max_body = 1024

-- What a call answers that may be refused: a result, or a refusal's number and value.
pub data Verdict (A : Type 0) : Type 0 where
  accepted : A → Verdict A
  refused : ℕ → ℕ → Verdict A

-- the refusal's number and value, both 0 where there is none
abbrev pub refusal_in : {A : Type 0} → Verdict A → ℕ × ℕ
refusal_in (accepted a) = (0, 0)
refusal_in (refused k v) = (k, v)

-- Reading a book gives its tokens in book order.
abbrev pub Reading : Type 0
Reading = Verdict (List (List ℕ))

-- The body's length for a kind from 01h to 44h.
abbrev pub body_length : ℕ → ℕ
body_length kind = elim (leb kind 64) [ true ↦ kind | false ↦ 128 * 2 ^ (kind - 65) ]

-- The record at place `at`: its kind, its body's length, its body.
module _ (book : List ℕ) (at : ℕ) where
  abbrev pub kind_at : ℕ
  kind_at = get_or book at 0

  abbrev pub size_at : ℕ
  size_at = body_length kind_at

  abbrev pub body_at : List ℕ
  body_at = take size_at (drop (at + 1) book)

  -- Refusal 1, value the book's length: the kind byte is missing.
  abbrev pub kind_missing : Bool
  kind_missing = leb (length book) at

  -- Refusal 2: the kind is above 44h.
  abbrev pub kind_unknown : Bool
  kind_unknown = ltb 68 kind_at

  -- Kind 00h closes the book.
  abbrev pub closes : Bool
  closes = eqb kind_at 0

  -- Refusal 1, value the record's place: the body is cut short.
  abbrev pub body_short : Bool
  body_short = ltb (length book) (at + 1 + size_at)

  -- The body's length where a whole record stands, and else 0.
  abbrev pub whole_at : ℕ
  whole_at = elim (kind_missing || kind_unknown || body_short) [ true ↦ 0 | false ↦ size_at ]

  -- Refusal 5: token 257, or body bytes over 16,384, with those of all words of this body.
  abbrev pub over_limits : List (List ℕ) → Bool
  over_limits tokens = leb max_tokens (length tokens) || ltb max_bodies (body_bytes tokens + total (words_of body_at))

  -- Refusal 4: the body is a word of an earlier one: equal to it or, for a card number, its reverse.
  abbrev pub repeats : List (List ℕ) → Bool
  repeats tokens = any_of (is_word body_at) tokens

  -- Refusal 3: bytes follow 00h.
  abbrev pub trailing : Bool
  trailing = ltb (at + 1) (length book)

-- Refusal 6: no token.
abbrev pub no_token : List (List ℕ) → Bool
no_token tokens = eqb (length tokens) 0

-- After 00h at place `at`: 3, then 6.
abbrev pub closed : List ℕ → ℕ → List (List ℕ) → Reading
closed book at tokens =
    elim (trailing book at) [
      | true ↦ refused 3 (at + 1)
      | false ↦ elim (no_token tokens) [ true ↦ refused 6 0 | false ↦ accepted tokens ]
    ]

-- From the record at place `at` on, with the tokens before it: 1 for a missing kind, 2, 1 for a short body, 5, 4.
abbrev pub read_from : List ℕ → ℕ → ℕ → List (List ℕ) → Reading
read_from book zero at tokens = refused 1 (length book)
read_from book (suc fuel) at tokens =
    elim (kind_missing book at) [
      | true ↦ refused 1 (length book)
      | false ↦ elim (kind_unknown book at) [
        | true ↦ refused 2 at
        | false ↦ elim (closes book at) [
          | true ↦ closed book at tokens
          | false ↦ elim (body_short book at) [
            | true ↦ refused 1 at
            | false ↦ elim (over_limits book at tokens) [
              | true ↦ refused 5 at
              | false ↦ elim (repeats book at tokens) [
                | true ↦ refused 4 at
                | false ↦ read_from book fuel (at + 1 + size_at book at) (tokens ++ (body_at book at ∷ []))
              ]
            ]
          ]
        ]
      ]
    ]

-- The whole book. A record takes a byte at least, so its length is fuel enough.
abbrev pub read_book : List ℕ → Reading
read_book book = read_from book (suc (length book)) 0 []

-- What a reader learns of the tokens: how many there are, all body bytes, S and D.
pub record Totals : Type 0 where
  pub tokens : ℕ
  pub bodies : ℕ
  pub shortest : ℕ
  pub longest : ℕ

abbrev pub totals_of : List (List ℕ) → Totals
totals_of tokens = record {
  tokens = length tokens;
  bodies = body_bytes tokens;
  shortest = shortest_of tokens;
  longest = longest_of tokens;
}

abbrev pub summary : Reading → Verdict Totals
summary (accepted tokens) = accepted (totals_of tokens)
summary (refused k v) = refused k v

-- Where token number i stands in the book: the place and the length of its body; or it is not in the book, or the book is refused, with the
-- refusal's number and value.
pub data Place : Type 0 where
  found : ℕ → ℕ → Place
  missing : Place
  unread : ℕ → ℕ → Place

-- The place of the record with i others before it: each of them takes a kind byte and its body.
abbrev pub record_place : List (List ℕ) → ℕ → ℕ
record_place tokens i = i + total (take i tokens)

-- A token has the number i.
abbrev pub has_token : List (List ℕ) → ℕ → Bool
has_token tokens i = leb 1 i && leb i (length tokens)

-- The body stands behind its record's kind byte.
abbrev pub place_in : Reading → ℕ → Place
place_in (refused k v) i = unread k v
place_in (accepted tokens) i =
    elim (has_token tokens i) [
      | true ↦ found (record_place tokens (i - 1) + 1) (length (get_or tokens (i - 1) []))
      | false ↦ missing
    ]

-- The bodies of the whole records that follow one another from place `at` on, up to where none with a body stands.
abbrev pub bodies_from : List ℕ → ℕ → ℕ → List (List ℕ)
bodies_from book zero at = []
bodies_from book (suc fuel) at =
    let n = whole_at book at in
    elim (eqb n 0) [ true ↦ [] | false ↦ take n (drop (at + 1) book) ∷ bodies_from book fuel (at + 1 + n) ]

-- Those of a book from its start on, be it accepted or not. A record takes a byte at least, so its length is fuel enough.
abbrev pub bodies_in : List ℕ → List (List ℕ)
bodies_in book = bodies_from book (length book) 0

-- What the reader needs of a book.
abbrev pub needed : ℕ
needed = max_tokens + max_bodies + 1 + max_body
