-- Which line of the program comes first.
use Rattle.std.specs.Prelude.{ℕ, true, false, List, ltb}
use Rattle.book.specs.Book.{Verdict, accepted, refused, Totals, read_book, summary}

-- How many bytes an image may have.
abbrev pub image_limit : ℕ
image_limit = 65536

-- Which line comes, by what is read of the book and by the image's length: the book's refusal; then 8; then those of the sweep.
unfoldable pub opened : Verdict Totals → ℕ → Verdict Totals
opened (refused k v) n = refused k v
opened (accepted totals) n = elim (ltb image_limit n) [ true ↦ refused 8 image_limit | false ↦ accepted totals ]

-- Which line comes for a book and an image of n bytes.
unfoldable pub opening : List ℕ → ℕ → Verdict Totals
opening book n = opened (summary (read_book book)) n
