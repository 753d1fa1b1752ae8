-- What an answer tells as an outcome is what the definitions tell of it: the refusal's number and value, and 0 and 0 where it is none.
use Rattle.std.specs.Prelude.{◌≡◌, refl, Result, Ok, Err}
use Rattle.book.specs.Book.{refusal_in}
use Rattle.book.specs.Answers.{answered_by}
use Rattle.fitting.specs.Answers.{fitting_of}
use Rattle.fitting.specs.declared.stands.Fit.{Fit}
use Rattle.fitting.specs.declared.Refusal.{Refusal}

pub fitting-told : (r : Result Fit Refusal) → refusal_in (answered_by (λ why. refusal_in (fitting_of (Err why))) r) ≡ refusal_in (fitting_of r)
fitting-told (Ok stand) = refl
fitting-told (Err why) = refl
