-- What starting and the calls answer, as the definitions have it.
use Prim.{Unit}
use Rattle.std.specs.Prelude.{ℕ, Ok, Err}
use Rattle.std.specs.Prelude.{Result as Either}
use Rattle.std.proofs.Math.Option.{Option, some, none}
use Rattle.book.specs.Book.{Verdict, accepted, refused as unread}
use Rattle.scan.specs.declared.Scan.{Scan}
use Rattle.scan.specs.declared.Started.{Started}
use Rattle.scan.specs.declared.Answer.{Answer as Said}
use Rattle.scan.specs.declared.Answer.TheVariants.{Fetch, Hit, Done}
use Rattle.scan.specs.declared.Refusal.{Refusal}
use Rattle.scan.specs.declared.Refusal.TheVariants.{TooLong, Broken, OutOfRange, OutOfTurn, Overlong}
use Rattle.scan.specs.declared.Stepped.{Stepped as Result}
use Rattle.scan.specs.declared.Delivered.{Delivered as Handed}
use Rattle.scan.specs.Start.{state_of}
use Rattle.scan.specs.Calls.{Answer, fetch, found, over, refused, Stepped}
use Rattle.scan.specs.Packets.{Delivered}

-- each refusal's number and value
abbrev pub refusal_of : Refusal → ℕ × ℕ
refusal_of (TooLong v) = (8, v)
refusal_of (Broken v) = (9, v)
refusal_of OutOfRange = (10, 0)
refusal_of OutOfTurn = (11, 0)
refusal_of Overlong = (15, 0)

-- How starting went, and the state that is handed back.
pub record Opened : Type 0 where
  pub state : Scan
  pub verdict : Verdict Scan

abbrev pub opened : Verdict Scan → Opened
opened v = record { state = state_of v; verdict = v }

abbrev pub verdict_of : Scan → Either Unit Refusal → Verdict Scan
verdict_of s (Ok _) = accepted s
verdict_of s (Err why) = unread (refusal_of why).0 (refusal_of why).1

abbrev pub started_of : Started → Opened
started_of r = record { state = r.state; verdict = verdict_of r.state r.opening }

abbrev pub said_of : Said → Answer
said_of (Fetch p) = fetch p
said_of (Hit e i) = found e i
said_of Done = over

abbrev pub denied_of : Refusal → Answer
denied_of why = refused (refusal_of why).0 (refusal_of why).1

abbrev pub answer_of : Either Said Refusal → Answer
answer_of (Ok a) = said_of a
answer_of (Err why) = denied_of why

abbrev pub stepped_of : Result → Stepped
stepped_of r = record { state = r.state; answer = answer_of r.answer }

abbrev pub delivered_of : Handed → Delivered
delivered_of r = record { step = record { state = r.state; answer = answer_of r.answer }; used = r.used }

abbrev pub judged_of : Either Unit Refusal → Option Answer
judged_of (Ok _) = none
judged_of (Err why) = some (denied_of why)
