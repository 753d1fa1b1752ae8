-- What `merge` answers where both books are read.
use Prim.Native.Nat.{ℕ}
use mathlib.Core.Path.{◌≡◌, ap, ◌∙◌}
use mathlib.Core.Bool.{false}
use mathlib.Core.List.{List}
use borrow.Author.Tests.{le-ltb}
use lib.ListN.{length}
use Rattle.rules.specs.Tokens.{body_bytes}
use Rattle.book.specs.Book.{max_tokens, max_bodies, Totals as Sums, bodies_in}
use Rattle.book.specs.Answers.{totalled}
use Rattle.book.specs.declared.Totals.{Totals}
use Rattle.book.proofs.Laws.Accepted.{Summed, accepted-fit}
use Rattle.book.proofs.Laws.Bodies.{accepted-bodies}
use Rattle.book.proofs.Laws.Bytes.{accepted-bytes}
use Rattle.merge.specs.Merge.{too_large, Merging, join, merge}
use Rattle.merge.specs.Steps.{Books}

-- The bodies of an accepted book are its tokens, and within the limits.
module _ {book : List ℕ} {totals : Sums} (s : Summed book totals) where
  bodies-are : bodies_in book ≡ s.tokens
  bodies-are = accepted-bodies book s.tokens s.read

  bounded : too_large (bodies_in book) ≡ false
  bounded =
      let f = accepted-fit book s.tokens s.read in
      rw bodies-are (cc (le-ltb max_tokens (length s.tokens) f.count, le-ltb max_bodies (body_bytes s.tokens) f.bodies))

pub books : {first second : List ℕ} (totals : Totals) {others : Sums} → Summed first (totalled totals) → Summed second others
    → Books first second totals
books {first} totals s u = record {
  made = rw (bodies-are s) (accepted-bytes first s.tokens s.read);
  count = rw (bodies-are s) (ap (λ t. t.tokens) s.sums);
  bodies = rw (bodies-are s) (ap (λ t. t.bodies) s.sums);
  first_fits = bounded s;
  second_fits = bounded u;
}

module _ (first second out : List ℕ) where
  module _ (totals : Sums) (s : Summed first totals) where
    pub joined : (others : Sums) → Summed second others → (m : Merging) → m ≡ join (bodies_in first) (bodies_in second) out
        → m ≡ merge first second out
    joined others u m e = rw (bodies-are s, bodies-are u) at e ∙ cc (s.read, u.read)
