-- What an answer tells as an outcome is what the definitions tell of it: the refusal's number and value, and 0 and 0 where it is none.
use Prim.{Unit}
use Rattle.std.specs.Prelude.{◌≡◌, refl, Result, Ok, Err}
use Rattle.book.specs.Book.{refusal_in}
use Rattle.book.specs.Answers.{answered_by}
use Rattle.scan.specs.Calls.{step_refusal}
use Rattle.scan.specs.Results.{refusal_of, verdict_of, answer_of}
use Rattle.scan.specs.declared.Scan.{Scan}
use Rattle.scan.specs.declared.Answer.{Answer}
use Rattle.scan.specs.declared.Answer.TheVariants.{Fetch, Hit, Done}
use Rattle.scan.specs.declared.Refusal.{Refusal}

pub opening-told : (s : Scan) (r : Result Unit Refusal) → refusal_in (answered_by refusal_of r) ≡ refusal_in (verdict_of s r)
opening-told s (Ok u) = refl
opening-told s (Err why) = refl

pub answer-told : (r : Result Answer Refusal) → refusal_in (answered_by refusal_of r) ≡ step_refusal (answer_of r)
answer-told (Ok (Fetch place)) = refl
answer-told (Ok (Hit end token)) = refl
answer-told (Ok Done) = refl
answer-told (Err why) = refl
