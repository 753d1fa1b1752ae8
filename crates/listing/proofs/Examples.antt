-- Samples of parts: where they begin and end, and what is listed of them; of lines and how they wait; and of which line comes.
use Rattle.std.specs.Prelude.{ℕ, ◌≡◌, refl, List, [], ◌∷◌, length}
use Rattle.rules.specs.Rules.{trace}
use Rattle.rules.specs.Sweep.{happens}
use Rattle.book.specs.Book.{accepted, refused}
use Rattle.listing.specs.Parts.{part_from, part_to, listed_at, listed_from}
use Rattle.listing.specs.Lines.{ascii, decimal, image_line, hit_line, end_line, refused_line, longest_line, waiting}
use Rattle.listing.specs.Opening.{opened, opening}

-- A part begins D − 1 bytes before what is not listed yet, or at the image's start.
begins-late : part_from 5 10 ≡ 6
begins-late = refl

begins-first : part_from 1024 1023 ≡ 0
begins-first = refl

-- It has 3,855 bytes, or ends with the image.
ends-early : part_to 65536 6 ≡ 3861
ends-early = refl

ends_last : part_to 3860 6 ≡ 3860
ends_last = refl

-- "a" and "aba" in "ababa", from place 3 on: the part is "baba", and what ends past place 3 is listed.
abbrev tokens : List (List ℕ)
tokens = (97 ∷ []) ∷ (97 ∷ 98 ∷ 97 ∷ []) ∷ []

abbrev image : List ℕ
image = 97 ∷ 98 ∷ 97 ∷ 98 ∷ 97 ∷ []

goes_on : listed_at tokens image 3 ≡ (5, 2) ∷ (5, 1) ∷ []
unfolding happens trace
goes_on = refl

lists-all : listed_from tokens image 5 0 ≡ (1, 1) ∷ (3, 2) ∷ (3, 1) ∷ (5, 2) ∷ (5, 1) ∷ []
unfolding happens trace
lists-all = refl

-- The bytes of a text.
text-right : ascii "az AZ 09\n" ≡ 97 ∷ 122 ∷ 32 ∷ 65 ∷ 90 ∷ 32 ∷ 48 ∷ 57 ∷ 10 ∷ []
text-right = refl

-- Numbers: as many digits as there are, the first first.
zero_right : decimal 0 ≡ 48 ∷ []
zero_right = refl

one-digit : decimal 9 ≡ ascii "9"
one-digit = refl

two_digits : decimal 10 ≡ ascii "10"
two_digits = refl

three-digits : decimal 120 ≡ ascii "120"
three-digits = refl

most-digits : decimal 18446744073709551615 ≡ ascii "18446744073709551615"
most-digits = refl

-- The four lines.
image-line : image_line 8 1 ≡ ascii "image 8 tokens 1\n"
image-line = refl

hit-line : hit_line 8 1 ≡ ascii "hit 8 1\n"
hit-line = refl

end_line_lem : end_line 1 7 0 ≡ ascii "end 1 7 0\n"
end_line_lem = refl

empty-line : end_line 0 100 23 ≡ ascii "end 0 100 23\n"
empty-line = refl

refused-line : refused_line 8 65536 ≡ ascii "refused 8 65536\n"
refused-line = refl

-- The largest numbers make the longest line.
longest-line : length (end_line 18446744073709551615 18446744073709551615 18446744073709551615) ≡ longest_line
longest-line = refl

-- Bytes wait on where 67 are left for a line, and are written where 66 are.
room-left : waiting 33 100 ≡ 33
room-left = refl

no-room-left : waiting 34 100 ≡ 0
no-room-left = refl

-- The token "a": a book, and the same with its end missing.
abbrev book : List ℕ
book = 1 ∷ 97 ∷ 0 ∷ []

abbrev cut : List ℕ
cut = 1 ∷ 97 ∷ []

-- 1 comes before 8, 8 where the image is a byte too long, and neither where it is not.
book-first : opening cut 65537 ≡ refused 1 2
unfolding opening opened
book-first = refl

image-second : opening book 65537 ≡ refused 8 65536
unfolding opening opened
image-second = refl

sweep-last : opening book 65536 ≡ accepted (record { tokens = 1; bodies = 1; shortest = 1; longest = 1 })
unfolding opening opened
sweep-last = refl
