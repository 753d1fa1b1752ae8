-- A book that is accepted, and the sweep with tables that are long enough for every such book.
use Rattle.std.specs.Prelude.{Result}
use Prim.Native.Nat.{ℕ, ◌+◌, ◌≤◌}
use native.Mathlib.Omega.{arith}
use mathlib.Core.Path.{◌≡◌, ap, ◌∙◌}
use mathlib.Core.List.{List}
use borrow.Author.Tests.{le-ltb}
use lib.ListN.{length}
use Rattle.rules.specs.Tokens.{body_bytes}
use Rattle.book.specs.Book.{max_image}
use Rattle.book.proofs.Laws.Accepted.{accepted-fit}
use Rattle.tables.specs.Tables.{Tables, built, written, shortest_table}
use Rattle.image.specs.declared.Found.{Found}
use Rattle.image.specs.declared.Refusal.{Refusal}
use Rattle.whole.specs.Image.{room, hits_of, fetches_of, spares_of, counted, noted, sweep_image}
use Rattle.image.specs.Results.{swept_of, fetched_of, spared_of}
use Rattle.image.specs.Rule5.{tokens_of}
use Rattle.sweep.specs.Program.{Accepted, Answered}

module _ (book image : List ℕ) (t : Tables) (ends numbers : List ℕ) (read : Accepted book) (small : length image ≤ max_image)
    (long : 16385 ≤ shortest_table t) where
  swept : sweep_image book image t ends numbers ≡ (let found = hits_of (tokens_of book) image in
      let r = room ends numbers in
      record {
        answer = counted r (length found);
        fetched = fetches_of (tokens_of book) image;
        spared = spares_of (tokens_of book) image;
        tables = written (built (tokens_of book)) t;
        ends = noted (λ h. h.0) r found ends;
        tokens = noted (λ h. h.1) r found numbers;
      })
  swept =
      let f = accepted-fit book (tokens_of book) read in
      cc (read, le-ltb max_image (length image) small, le-ltb (shortest_table t) (1 + body_bytes (tokens_of book)) (omega (arith, f.bodies)))

  pub finds : (r : Result Found Refusal) (u : Tables) (ends' numbers' : List ℕ)
      → record { answer = swept_of r; fetched = fetched_of r; spared = spared_of r; tables = u; ends = ends'; tokens = numbers' }
      ≡ sweep_image book image t ends numbers
      → Answered book image r ends numbers ends' numbers'
  finds r u ends' numbers' e =
      let q = e ∙ swept in
      record {
        answer = ap (λ s. s.answer) q;
        fetched = ap (λ s. s.fetched) q;
        spared = ap (λ s. s.spared) q;
        in-ends = ap (λ s. s.ends) q;
        in-tokens = ap (λ s. s.tokens) q;
      }
