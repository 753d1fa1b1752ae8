-- The code's answers as `Merge` has them.
use Rattle.std.specs.Prelude.{ℕ, Result, Ok, Err}
use Rattle.book.specs.Answers.{refusal_of}
use Rattle.merge.specs.Merge.{Answer, wrote, first_bad, second_bad, limits_passed, no_room}
use Rattle.merge.specs.declared.Refusal.{Refusal}
use Rattle.merge.specs.declared.Refusal.TheVariants.{Unread, SecondUnread, OverLimits, TooShort}

abbrev pub answer_of : Result ℕ Refusal → Answer
answer_of (Ok n) = wrote n
answer_of (Err (Unread why)) = first_bad (refusal_of why).0 (refusal_of why).1
answer_of (Err (SecondUnread number)) = second_bad number
answer_of (Err (OverLimits place)) = limits_passed place
answer_of (Err (TooShort n)) = no_room n
