-- Which line comes is told by the starts of the book and of the image.
use Prim.Native.Nat.{ℕ, suc, min, ◌≤◌, ◌<◌}
use native.Mathlib.Omega.{arith}
use mathlib.Core.Path.{◌≡◌, refl, ap, sym, ◌∙◌}
use mathlib.Core.Bool.{Bool, true, false}
use mathlib.Core.List.{List}
use borrow.Author.Tests.{lt-ltb, le-ltb, ltb-true, ltb-false}
use lib.Dec.{ltb}
use lib.ListN.{length, take, length-take}
use Rattle.book.specs.Book.{Verdict, accepted, refused, Totals, read_book, summary, needed}
use Rattle.book.proofs.Laws.Prefix.{enough}
use Rattle.sweep.specs.Program.{image_limit, opened, opening}

by-test : (v : Verdict Totals) (m n : ℕ) → ltb image_limit m ≡ ltb image_limit n → opened v m ≡ opened v n
unfolding opening opened
by-test (refused k w) m n e = refl
by-test (accepted totals) m n e = rw (e, opened)

start-long : (n : ℕ) (b : Bool) → ltb image_limit n ≡ b → ltb image_limit (min (suc image_limit) n) ≡ b
start-long n true e = lt-ltb image_limit (min (suc image_limit) n) (omega (arith, ltb-true image_limit n e))
start-long n false e = le-ltb image_limit (min (suc image_limit) n) (omega (arith, ltb-false image_limit n e))

-- What is said of the starts is said of the whole.
pub judged : (v : Verdict Totals) (book image : List ℕ) → v ≡ opening book (length image)
    → (whole all : List ℕ) → book ≡ take needed whole → image ≡ take (suc image_limit) all → v ≡ opening whole (length all)
unfolding opening opened
judged v book image e whole all p q =
    e
    ∙ ap (λ b. opened (summary (read_book b)) (length image)) p
    ∙ ap (λ r. opened (summary r) (length image)) (enough needed (omega arith) whole)
    ∙ by-test (summary (read_book whole)) (length image) (length all)
    (ap (λ l. ltb image_limit (length l)) q ∙ ap (ltb image_limit) (length-take (suc image_limit) all) ∙ start-long (length all) (ltb image_limit (length all)) refl)

-- The book's refusal comes first.
pub unread : (book : List ℕ) (n k v : ℕ) → refused k v ≡ summary (read_book book) → refused k v ≡ opening book n
unfolding opening opened
unread book n k v e = ap (λ v. opened v n) e

module _ (book image : List ℕ) (totals : Totals) (e : accepted totals ≡ summary (read_book book)) where
  pub over : image_limit < length image → refused 8 image_limit ≡ opening book (length image)
  unfolding opening opened
  over h =
      let s : opened (accepted totals) (length image) ≡ refused 8 image_limit = rw (lt-ltb image_limit (length image) h, opened) in
      sym s ∙ ap (λ v. opened v (length image)) e

  pub within : length image ≤ image_limit → accepted totals ≡ opening book (length image)
  unfolding opening opened
  within h =
      let s : opened (accepted totals) (length image) ≡ accepted totals = rw (le-ltb image_limit (length image) h, opened) in
      sym s ∙ ap (λ v. opened v (length image)) e
