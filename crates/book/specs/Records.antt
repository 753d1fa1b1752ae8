-- The records of a book by the bodies that they have, and how far they have been read.
use Rattle.std.specs.Prelude.{ℕ, ◌+◌, ◌≤◌, ◌≡◌, List, [], ◌∷◌, length, take, drop}
use Rattle.rules.specs.Tokens.{total}
use Rattle.book.specs.Book.{max_body, whole_at}

-- The record at place `at` has the body t.
pub record Held (book : List ℕ) (at : ℕ) (t : List ℕ) : Type 0 where
  pub some : 1 ≤ length t
  pub short : length t ≤ max_body
  pub whole : whole_at book at ≡ length t
  pub inside : at + 1 + length t ≤ length book
  pub body : take (length t) (drop (at + 1) book) ≡ t

-- The records from place `at` on have the bodies ts.
abbrev pub Records : List ℕ → ℕ → List (List ℕ) → Type 0
Records book at [] = Unit {0}
Records book at (t ∷ ts) = Held book at t × Records book (at + 1 + length t) ts

-- The tokens ts have been read, up to place `at`.
pub record Upto (book : List ℕ) (at : ℕ) (ts : List (List ℕ)) : Type 0 where
  pub place : at ≡ length ts + total ts
  pub records : Records book 0 ts
