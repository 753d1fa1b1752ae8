-- What the steps of merging hand to one another: two books that can be merged, which tokens of the second are new, and whether they fit.
use Rattle.std.specs.Prelude.{ℕ, ◌+◌, ◌<◌, ◌≡◌, Bool, true, false, Result, Ok, Err, List, [], ◌++◌, length, get_or, take, drop}
use Rattle.rules.specs.Tokens.{body_bytes}
use Rattle.book.specs.Book.{record_place, bodies_in}
use Rattle.book.specs.Bytes.{book_of}
use Rattle.book.specs.declared.Totals.{Totals}
use Rattle.merge.specs.Merge.{lacks, merged, too_large, fitting, over_limits}
use Rattle.merge.specs.declared.Refusal.{Refusal}
use Rattle.merge.specs.declared.Refusal.TheVariants.{OverLimits}
use Rattle.merge.specs.declared.survey.Marked.{Marked}

-- Two books within the limits, of which the first is made of its bodies and has these totals.
pub record Books (first second : List ℕ) (totals : Totals) : Type 0 where
  pub made : first ≡ book_of (bodies_in first)
  pub count : totals.tokens ≡ length (bodies_in first)
  pub bodies : totals.bodies ≡ body_bytes (bodies_in first)
  pub first_fits : too_large (bodies_in first) ≡ false
  pub second_fits : too_large (bodies_in second) ≡ false

-- Each mark says whether the tokens lack that one of the others.
abbrev pub Marks : List (List ℕ) → List (List ℕ) → List Bool → Type 0
Marks tokens others marks = (i : ℕ) → i < length others → get_or marks i false ≡ lacks tokens (get_or others i [])

-- 5, or the length of the merged book.
abbrev pub judged : List (List ℕ) → List (List ℕ) → Result ℕ Refusal
judged tokens others =
    elim (over_limits tokens others) [
      | true ↦ Err (OverLimits (record_place others (fitting tokens others)))
      | false ↦ Ok (length (book_of (merged tokens others)))
    ]

-- the length that a survey found
abbrev pub needed : Result Marked Refusal → Result ℕ Refusal
needed (Ok m) = Ok m.length
needed (Err why) = Err why

-- What a survey finds: whether the others fit, and where they do, which the tokens lack.
pub record Surveyed (tokens others : List (List ℕ)) (found : Result Marked Refusal) : Type 0 where
  pub fits : needed found ≡ judged tokens others
  pub tells : (m : Marked) → found ≡ Ok m → Marks tokens others m.marks

-- the bytes, if they are wanted
abbrev pub if_wanted : Bool → List ℕ → List ℕ
if_wanted true bytes = bytes
if_wanted false bytes = []

-- The output with bytes from place `to` on.
abbrev pub placed : List ℕ → ℕ → List ℕ → List ℕ
placed out to bytes = take to out ++ bytes ++ drop (to + length bytes) out
