-- What an answer tells as an outcome is what the definitions tell of it: the refusal's number and value, and 0 and 0 where it is none.
use Rattle.std.specs.Prelude.{ℕ, ◌≡◌, refl, Result, Ok, Err}
use Rattle.book.specs.Book.{refusal_in}
use Rattle.book.specs.Answers.{answered_by}
use Rattle.merge.specs.Merge.{verdict}
use Rattle.merge.specs.Answers.{answer_of}
use Rattle.merge.specs.declared.Refusal.{Refusal}

pub merging-told : (r : Result ℕ Refusal)
    → refusal_in (answered_by (λ why. refusal_in (verdict (answer_of (Err why)))) r) ≡ refusal_in (verdict (answer_of r))
merging-told (Ok length) = refl
merging-told (Err why) = refl
