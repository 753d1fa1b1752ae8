-- What the program judges, as a verdict.
use Rattle.std.specs.Prelude.{Result, Ok, Err}
use Rattle.book.specs.Book.{Verdict, accepted, refused, Totals}
use Rattle.book.specs.Answers.{totalled}
use Rattle.image.specs.Results.{refusal_of}
use Rattle.image.specs.declared.Refusal.{Refusal}
use Rattle.sweep.specs.declared.job.Job.{Job}

-- A refusal's number and value, or the totals of the book that is swept.
abbrev pub opening_of : Result Job Refusal → Verdict Totals
opening_of (Err why) = refused (refusal_of why).0 (refusal_of why).1
opening_of (Ok job) = accepted (totalled job.totals)
