-- Rule 5 straight from the records of a book, and caches of its byte shift and of whole shifts: an entry is 0 or right.
use Rattle.std.specs.Prelude.{ℕ, ◌+◌, ◌*◌, ◌<◌, ◌≡◌, false, List, [], ◌∷◌, length, get_or}
use Rattle.std.proofs.Math.Option.{some}
use Rattle.rules.specs.Lists.{any_of}
use Rattle.rules.specs.Words.{all_words}
use Rattle.rules.specs.Tokens.{ends, byte_shift, shift_of, shortest_of}
use Rattle.book.specs.Book.{Reading, accepted, refused, read_book}

-- the tokens of a book, none where it is refused
abbrev pub tokens_in : Reading → List (List ℕ)
tokens_in (accepted tokens) = tokens
tokens_in (refused k v) = []

abbrev pub tokens_of : List ℕ → List (List ℕ)
tokens_of book = tokens_in (read_book book)

-- and their words
abbrev pub words_in : List ℕ → List (List ℕ)
words_in book = all_words (tokens_of book)

-- A book that is accepted, with its S.
pub record Accepted (book : List ℕ) (shortest : ℕ) : Type 0 where
  pub read : read_book book ≡ accepted (tokens_of book)
  pub short : shortest ≡ shortest_of (tokens_of book)

-- an entry is 0 or right
abbrev pub Right : ℕ → ℕ → Type 0
Right entry right = (entry ≡ 0 → ⊥) → entry ≡ right

-- The byte shift by byte and by depths below 64.
pub record ByByte (book : List ℕ) (shortest : ℕ) (cache : List ℕ) : Type 0 where
  pub size : length cache ≡ 256 * 64
  pub right : (d x : ℕ) → d < 64 → x < 256 → Right (get_or cache (256 * d + x) 0) (byte_shift (words_in book) shortest d (some x))

-- The shift of a round that ends at its first byte, by that byte, if the root has no child for it.
pub record BySkip (book : List ℕ) (shortest : ℕ) (cache : List ℕ) : Type 0 where
  pub size : length cache ≡ 256
  pub right : (x : ℕ) → x < 256 → (get_or cache x 0 ≡ 0 → ⊥)
      → (any_of (ends (x ∷ [])) (words_in book) ≡ false) × (get_or cache x 0 ≡ shift_of (words_in book) shortest [] (some x))
