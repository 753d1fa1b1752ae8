-- What is promised of the answer: it fits exactly if the token stands there in book order; at an answered place it differs from the image,
-- and at each place right of it that the token lies over it does not; and it is cut off exactly if it begins left of the image and agrees
-- with all that it lies over.
use Rattle.std.specs.Prelude.{ℕ, ◌+◌, ◌-◌, ◌≤◌, ◌<◌, ◌≡◌, List, [], length, get_or, take, drop}
use Rattle.book.specs.Book.{accepted, max_image, read_book}
use Rattle.fitting.specs.Fitting.{Fit, fits, differs, cut_off, fit_in}

module _ (t image : List ℕ) (end : ℕ) where
  -- The token t stands in the image in book order, its right edge at the end.
  abbrev pub InOrder : Type 0
  InOrder = (length t ≤ end) × (take (length t) (drop (end - length t) image) ≡ t)

  -- It lies over a place of the image,
  abbrev pub Over : ℕ → Type 0
  Over place = (place < end) × (end ≤ place + length t)

  -- and has there the same byte.
  abbrev pub SameAt : ℕ → Type 0
  SameAt place = get_or t (place + length t - end) 0 ≡ get_or image place 0

  -- The answer says how far the token agrees.
  pub record Tells (answer : Fit) : Type 0 where
    pub fits-if : InOrder → answer ≡ fits
    pub fits-only : answer ≡ fits → InOrder
    pub differs-there : (place : ℕ) → answer ≡ differs place → Over place × (SameAt place → ⊥)
    pub same-right : (place : ℕ) → answer ≡ differs place → (right : ℕ) → place < right → Over right → SameAt right
    pub cut-if : end < length t → ((place : ℕ) → Over place → SameAt place) → answer ≡ cut_off
    pub cut-only : answer ≡ cut_off → (end < length t) × ((place : ℕ) → Over place → SameAt place)

-- Whenever an answer is given, it is of the token with that number, at an end within the image.
unfoldable pub TellsFor : Type 0
TellsFor =
    (book image : List ℕ) (number end : ℕ) (answer : Fit) → fit_in (read_book book) image number end ≡ accepted answer →
    (tokens : List (List ℕ)) × (read_book book ≡ accepted tokens) × (1 ≤ number) × (number ≤ length tokens) × (end ≤ length image)
    × Tells (get_or tokens (number - 1) []) image end answer

-- And one is given wherever the book is read, the image within its limit, the number in the book and the end in the image.
unfoldable pub AnswersFor : Type 0
AnswersFor =
    (book image : List ℕ) (tokens : List (List ℕ)) (number end : ℕ) → read_book book ≡ accepted tokens → length image ≤ max_image →
    1 ≤ number → number ≤ length tokens → end ≤ length image →
    (answer : Fit) × (fit_in (read_book book) image number end ≡ accepted answer)
