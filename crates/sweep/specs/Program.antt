-- What the program's functions promise: the book that is swept, the sweep with tables of its own, and what is read of a file.
use Rattle.std.specs.Prelude.{ℕ, zero, suc, ◌≡◌, Bool, true, false, List, eqb, Result, Ok, Err, length}
use Rattle.std.specs.declared.ops.ControlFlow.{ControlFlow}
use Rattle.std.specs.declared.ops.ControlFlow.TheVariants.{Continue, Break}
use Rattle.book.specs.Book.{accepted, read_book}
use Rattle.book.specs.Answers.{Amounts}
use Rattle.book.specs.declared.Totals.{Totals as Sums}
use Rattle.image.specs.declared.Found.{Found}
use Rattle.image.specs.declared.Refusal.{Refusal}
use Rattle.whole.specs.Image.{room, hits_of, fetches_of, spares_of, counted, noted}
use Rattle.image.specs.Results.{swept_of, fetched_of, spared_of}
use Rattle.image.specs.Rule5.{tokens_of}
pub use Rattle.listing.specs.Opening.{image_limit}
unfoldable pub use Rattle.listing.specs.Opening.{opened, opening}

-- The book is accepted.
abbrev pub Accepted : List ℕ → Type 0
Accepted book = read_book book ≡ accepted (tokens_of book)

-- The book is accepted, and the totals are those of its tokens.
pub record Known (book : List ℕ) (totals : Sums) : Type 0 where
  pub read : Accepted book
  pub sums : Amounts totals (tokens_of book)

-- The answer is that of the sweep of the image, and the buffers, as lent and as left, have its hits.
pub record Answered (book image : List ℕ) (r : Result Found Refusal) (ends numbers ends' numbers' : List ℕ) : Type 0 where
  pub answer : swept_of r ≡ counted (room ends numbers) (length (hits_of (tokens_of book) image))
  pub fetched : fetched_of r ≡ fetches_of (tokens_of book) image
  pub spared : spared_of r ≡ spares_of (tokens_of book) image
  pub in-ends : ends' ≡ noted (λ h. h.0) (room ends numbers) (hits_of (tokens_of book) image) ends
  pub in-tokens : numbers' ≡ noted (λ h. h.1) (room ends numbers) (hits_of (tokens_of book) image) numbers

-- What comes after a read, by its answer, where `done` bytes were read before: one that failed ends the reading, but a folder's first read
-- counts as a file's end; no byte is the file's end; after any other there is more.
abbrev pub after_read : {E : Type 0} → Result ℕ E → ℕ → Bool → ControlFlow (Result ℕ E) ℕ
after_read (Err e) done false = Break (Err e)
after_read (Err e) done true = elim (eqb done 0) [ true ↦ Break (Ok 0) | false ↦ Break (Err e) ]
after_read (Ok zero) done folder = Break (Ok done)
after_read (Ok (suc n)) done folder = Continue (suc n)
