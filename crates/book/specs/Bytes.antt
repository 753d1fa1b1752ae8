-- The bytes of a book that is made of tokens.
use Rattle.std.specs.Prelude.{ℕ, List, [], ◌∷◌, ◌++◌, eqb, length}
use Rattle.rules.specs.Lists.{least}
use Rattle.book.specs.Book.{body_length}

-- The kind, from 01h on, whose bodies have n bytes; 44h where there is none.
abbrev pub kind_of : ℕ → ℕ
kind_of n = least (λ kind. eqb (body_length kind) n) 1 67

-- The records of the tokens, one after the other: a kind byte and the body.
abbrev pub records_of : List (List ℕ) → List ℕ
records_of [] = []
records_of (t ∷ ts) = kind_of (length t) ∷ t ++ records_of ts

-- The records, and 00h.
abbrev pub book_of : List (List ℕ) → List ℕ
book_of tokens = records_of tokens ++ (0 ∷ [])
