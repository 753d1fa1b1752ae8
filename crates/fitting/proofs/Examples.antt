-- Samples: a token laid over an image, each kind of answer; and each refusal alone and before those that come later.
use Rattle.std.specs.Prelude.{ℕ, ◌≡◌, Ok, Err, List, [], ◌∷◌, map, length}
use Rattle.std.proofs.Math.Path.{refl}
use Rattle.book.specs.Book.{Verdict, accepted, refused, read_book}
use Rattle.book.specs.declared.Refusal.TheVariants.{Repeat}
use Rattle.fitting.specs.Fitting.{Fit, fits, differs, cut_off, fit_at, fit_in}
use Rattle.fitting.specs.Answers.{fitting_of}
use Rattle.fitting.specs.declared.stands.Fit.TheVariants.{Fits, Differs, CutOff}
use Rattle.fitting.specs.declared.Refusal.TheVariants.{Unread, TooLong, NotInBook, BeyondImage}

-- "axbbx", and "cccaxbbx"
axbbx : List ℕ
axbbx = 97 ∷ 120 ∷ 98 ∷ 98 ∷ 120 ∷ []

image : List ℕ
image = 99 ∷ 99 ∷ 99 ∷ 97 ∷ 120 ∷ 98 ∷ 98 ∷ 120 ∷ []

-- It fits at the end of the image. At end 7 its last byte meets a b. At end 5 its last byte agrees and the four before it do not: the place
-- farthest right counts.
over-right : map (fit_at axbbx image) (8 ∷ 7 ∷ 5 ∷ []) ≡ fits ∷ differs 6 ∷ differs 3 ∷ []
unfolding axbbx image
over-right = refl

-- It begins left of "bbx" and of "x" and agrees with them, and at end 0, as in an empty image, lies over nothing; where it differs from "abx"
-- that comes first.
cut_right : fit_at axbbx (98 ∷ 98 ∷ 120 ∷ []) 3 ∷ fit_at axbbx (120 ∷ 97 ∷ []) 1 ∷ fit_at axbbx image 0 ∷ fit_at axbbx [] 0
    ∷ fit_at axbbx (97 ∷ 98 ∷ 120 ∷ []) 3 ∷ []
    ≡ cut_off ∷ cut_off ∷ cut_off ∷ cut_off ∷ differs 0 ∷ []
unfolding axbbx image
cut_right = refl

-- A token that begins with the image is not cut off.
first-right : fit_at (120 ∷ []) (120 ∷ 97 ∷ []) 1 ≡ fits
first-right = refl

-- A card number's reverse does not fit: "abbx" over "xbba".
order-right : fit_at (97 ∷ 98 ∷ 98 ∷ 120 ∷ []) (120 ∷ 98 ∷ 98 ∷ 97 ∷ []) 4 ≡ differs 3
order-right = refl

-- The book of "a" and "ba", and the image "bac": its tokens by their numbers, at an end.
book : List ℕ
book = 1 ∷ 97 ∷ 2 ∷ 98 ∷ 97 ∷ 0 ∷ []

ask : ℕ → ℕ → Verdict Fit
ask number end = fit_in (read_book book) (98 ∷ 97 ∷ 99 ∷ []) number end

numbers-right : ask 1 2 ∷ ask 2 2 ∷ ask 1 1 ∷ ask 2 1 ∷ [] ≡ accepted fits ∷ accepted fits ∷ accepted (differs 0) ∷ accepted (differs 0) ∷ []
unfolding ask book
numbers-right = refl

-- 16: number 0, and one too great. 16 before 17.
sixteen-right : ask 0 2 ∷ ask 3 2 ∷ [] ≡ refused 16 0 ∷ refused 16 0 ∷ []
unfolding ask book
sixteen-right = refl

sixteen-first : ask 0 4 ∷ ask 3 4 ∷ [] ≡ refused 16 0 ∷ refused 16 0 ∷ []
unfolding ask book
sixteen-first = refl

-- 17: an end past the image's, be it empty; its own end is taken, and 0.
seventeen-right : ask 1 4 ∷ fit_in (read_book book) [] 1 1 ∷ [] ≡ refused 17 0 ∷ refused 17 0 ∷ []
unfolding ask book
seventeen-right = refl

last_end : ask 1 3 ≡ accepted (differs 2)
unfolding ask book
last_end = refl

first-end : ask 2 0 ≡ accepted cut_off
unfolding ask book
first-end = refl

module _ (long : List ℕ) (e : length long ≡ 16777217) where
  -- 8, whatever the bytes of the image are; before 16 and 17.
  eight-right : fit_in (read_book book) long 1 1 ≡ refused 8 16777216
  unfolding book
  eight-right = rw (e, fit_in) refl

  eight-first : fit_in (read_book book) long 0 16777218 ≡ refused 8 16777216
  unfolding book
  eight-first = rw (e, fit_in) refl

  -- 4 before 8, 16 and 17.
  book-first : fit_in (read_book (1 ∷ 97 ∷ 1 ∷ 97 ∷ 0 ∷ [])) long 0 16777218 ≡ refused 4 2
  book-first = refl

module _ (full : List ℕ) (e : length full ≡ 16777216) where
  -- An image at its limit is taken, so that 16 comes.
  limit-right : fit_in (read_book book) full 0 1 ≡ refused 16 0
  unfolding book
  limit-right = rw (e, fit_in) refl

-- Each case of the answer.
cases-told : map fitting_of (Ok Fits ∷ Ok (Differs 9) ∷ Ok CutOff ∷ Err (Unread (Repeat 9)) ∷ Err (TooLong 9) ∷ Err NotInBook ∷ Err BeyondImage ∷ [])
    ≡ accepted fits ∷ accepted (differs 9) ∷ accepted cut_off ∷ refused 4 9 ∷ refused 8 9 ∷ refused 16 0 ∷ refused 17 0 ∷ []
cases-told = refl
