-- What an answer tells as an outcome is what the definitions tell of it: the refusal's number and value, and 0 and 0 where it is none.
use Rattle.std.specs.Prelude.{◌≡◌, refl, Result, Ok, Err}
use Rattle.book.specs.Book.{refusal_in}
use Rattle.book.specs.Answers.{answered_by}
use Rattle.image.specs.Results.{refusal_of, swept_of}
use Rattle.image.specs.declared.Found.{Found}
use Rattle.image.specs.declared.Refusal.{Refusal}

pub swept-told : (r : Result Found Refusal) → refusal_in (answered_by refusal_of r) ≡ refusal_in (swept_of r)
swept-told (Ok found) = refl
swept-told (Err why) = refl
