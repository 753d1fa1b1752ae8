-- What the code's answers say in document 01's numbers.
use Rattle.std.specs.Prelude.{ℕ, ◌≡◌, List, length, Option, Some, None, Result, Ok, Err}
use Rattle.rules.specs.Tokens.{body_bytes, shortest_of, longest_of}
use Rattle.book.specs.Book.{Verdict, accepted, refused, Place, found, missing, unread}
use Rattle.book.specs.Book as book
use Rattle.book.specs.declared.Refusal.{Refusal}
use Rattle.book.specs.declared.Refusal.TheVariants.{Unfinished, UnknownKind, Trailing, Repeat, OverLimits, NoToken}
use Rattle.book.specs.declared.Totals.{Totals}
use Rattle.book.specs.declared.Place.{Place as Spot}

-- each refusal's number and value
abbrev pub refusal_of : Refusal → ℕ × ℕ
refusal_of (Unfinished v) = (1, v)
refusal_of (UnknownKind v) = (2, v)
refusal_of (Trailing v) = (3, v)
refusal_of (Repeat v) = (4, v)
refusal_of (OverLimits v) = (5, v)
refusal_of NoToken = (6, 0)

-- totals, readings and places as `Book` has them
abbrev pub totalled : Totals → book.Totals
totalled t = record { tokens = t.tokens; bodies = t.bodies; shortest = t.shortest; longest = t.longest }

-- The totals are those of the tokens.
pub record Amounts (t : Totals) (tokens : List (List ℕ)) : Type 0 where
  pub count : t.tokens ≡ length tokens
  pub bodies : t.bodies ≡ body_bytes tokens
  pub shortest : t.shortest ≡ shortest_of tokens
  pub longest : t.longest ≡ longest_of tokens

-- An answer, where a refusal's number and value are told by `told`.
abbrev pub answered_by : {A E : Type 0} → (E → ℕ × ℕ) → Result A E → Verdict A
answered_by told (Ok a) = accepted a
answered_by told (Err why) = refused (told why).0 (told why).1

abbrev pub verdict_of : Result Totals Refusal → Verdict book.Totals
verdict_of (Ok t) = accepted (totalled t)
verdict_of (Err r) = refused (refusal_of r).0 (refusal_of r).1

abbrev pub place_of : Result (Option Spot) Refusal → Place
place_of (Ok (Some p)) = found p.at p.size
place_of (Ok None) = missing
place_of (Err why) = unread (refusal_of why).0 (refusal_of why).1
