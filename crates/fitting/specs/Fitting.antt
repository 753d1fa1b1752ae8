-- Where a token stops fitting an image, with its right edge at an end: refusals 1 to 6, 8, 16 and 17, and what is answered else.
use Rattle.std.specs.Prelude.{ℕ, ◌-◌, Bool, true, false, not, List, [], ltb, length, get_or, take}
use Rattle.std.proofs.Math.Option.{some, none}
use Rattle.rules.specs.Tokens.{mismatch}
use Rattle.book.specs.Book.{Verdict, Reading, accepted, refused, max_image, too_long, has_token}

-- It fits; it differs at a place of the image, and at none right of it; or it is cut off, as it begins left of the image.
pub data Fit : Type 0 where
  fits : Fit
  differs : ℕ → Fit
  cut_off : Fit

-- The token t in book order, for an end within the image: rule 5's test, not moved, against the image up to there. A mismatch comes before cut
-- off.
abbrev pub fit_at : List ℕ → List ℕ → ℕ → Fit
fit_at t image end =
    elim (mismatch (take end image) t 0) [
      | some k ↦ differs (end - 1 - k)
      | none ↦ elim (ltb end (length t)) [ true ↦ cut_off | false ↦ fits ]
    ]

-- Refusal 16: no token has this number.
abbrev pub not_in_book : List (List ℕ) → ℕ → Bool
not_in_book tokens number = not (has_token tokens number)

-- Refusal 17: the end lies beyond the image.
abbrev pub beyond_image : List ℕ → ℕ → Bool
beyond_image image end = ltb (length image) end

-- Token number `number` of a book that is read: 1 to 6, 8, 16, 17.
abbrev pub fit_in : Reading → List ℕ → ℕ → ℕ → Verdict Fit
fit_in (refused k v) image number end = refused k v
fit_in (accepted tokens) image number end =
    elim (too_long (length image)) [
      | true ↦ refused 8 max_image
      | false ↦ elim (not_in_book tokens number) [
        | true ↦ refused 16 0
        | false ↦ elim (beyond_image image end) [
          | true ↦ refused 17 0
          | false ↦ accepted (fit_at (get_or tokens (number - 1) []) image end)
        ]
      ]
    ]
