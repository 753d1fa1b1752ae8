-- Demand 3: one claim about a list of calls as a whole, with any bytes and in any order: the answers are the rules', the bytes
-- fetched are within the limit, as many are looked at as are fetched and spared together, and few stretches are remembered. From building
-- on.
use Rattle.std.specs.Prelude.{ℕ, zero, suc, ◌+◌, ◌^◌, ◌≤◌, min, ◌≡◌, true, false, List, [], ◌∷◌, ◌++◌, length, get_or, take, drop}
use Rattle.std.proofs.Math.Option.{Option, some, none}
use Rattle.rules.specs.Rules.{Event, fetched, recalled, hit, shifted, done}
use Rattle.rules.specs.Sweep.{happens, looks, limit, Few}
use Rattle.book.specs.Book.{read_book, accepted}
use Rattle.tables.specs.Tables.{Tables, Sizes, build}
use Rattle.scan.specs.declared.Scan.{Scan}
use Rattle.scan.specs.State.{used}
use Rattle.scan.specs.Start.{start}
use Rattle.scan.specs.Calls.{Answer, fetch, found, over, refused, carry_on, supply}
use Rattle.scan.specs.Packets.{Delivered, none_used, overlong, supply_packet}
use Rattle.scan.specs.Answers.{answers, first, later, is_refused, descent}

-- A call carries on, supplies a byte, or supplies a packet.
pub data Call : Type 0 where
  carry : Call
  give : ℕ → Call
  send : List ℕ → Call

-- The bytes that come with a call.
abbrev pub brought : Call → List ℕ
brought carry = []
brought (give x) = x ∷ []
brought (send xs) = xs

-- What a call hands back, and how many of its bytes it used: a supplied one where the call is not refused.
abbrev pub called : Tables → Scan → Call → Delivered
called t s carry = none_used (carry_on t s)
called t s (give x) = let r = supply t s x in record { step = r; used = elim (is_refused r.answer) [ true ↦ 0 | false ↦ 1 ] }
called t s (send xs) = supply_packet t s xs

-- What a call answers, and how many bytes it used.
pub record Said : Type 0 where
  pub answer : Answer
  pub used : ℕ

abbrev pub say : Answer → ℕ → Said
say a k = record { answer = a; used = k }

-- What a list of calls answers, the bytes it takes, and its last state. A byte is fetched when a call takes it.
pub record Ran : Type 0 where
  pub said : List Said
  pub taken : List ℕ
  pub last : Scan

-- Each call is handed the state that the one before gave back, and takes the bytes it used.
abbrev pub ran : Tables → Scan → List Call → Ran
ran t s [] = record { said = []; taken = []; last = s }
ran t s (c ∷ cs) =
    let d = called t s c in
    let rest = ran t d.step.state cs in
    record { said = say d.step.answer d.used ∷ rest.said; taken = take d.used (brought c) ++ rest.taken; last = rest.last }

-- The place whose byte is due after an answer.
abbrev pub due_after : Answer → Option ℕ
due_after (fetch p) = some p
due_after (found e i) = none
due_after over = none
due_after (refused k v) = none

-- What the calls are to be answered, where the byte of this place is due or none: in turn the next of `todo`, out of turn 11, and a
-- packet that is too long 15. A packet uses its bytes up to the first answer that does not fetch the place below, or all of them, and is
-- answered what comes then; before its first byte that is the place that is due.
abbrev pub expected : Option ℕ → List Answer → List Call → List Said
expected due todo [] = []
expected (some p) todo (carry ∷ cs) = say (refused 11 0) 0 ∷ expected (some p) todo cs
expected none todo (carry ∷ cs) = say (first todo) 0 ∷ expected (due_after (first todo)) (later todo) cs
expected (some p) todo (give x ∷ cs) = say (first todo) 1 ∷ expected (due_after (first todo)) (later todo) cs
expected none todo (give x ∷ cs) = say (refused 11 0) 0 ∷ expected none todo cs
expected (some p) todo (send xs ∷ cs) =
    let k = min (length xs) (descent (suc p) (fetch p ∷ todo)) in
    let a = first (drop k (fetch p ∷ todo)) in
    elim (overlong xs) [
      | true ↦ say (refused 15 0) 0 ∷ expected (some p) todo cs
      | false ↦ say a k ∷ expected (due_after a) (drop k todo) cs
    ]
expected none todo (send xs ∷ cs) =
    say (elim (overlong xs) [ true ↦ refused 15 0 | false ↦ refused 11 0 ]) 0 ∷ expected none todo cs

-- How many of the events to come a call passes that uses k bytes: those of its bytes, and on through the hit or done that it answers, or up
-- to the place that it asks for, which is due and not yet looked at.
abbrev pub passed : {E : Type 0} → ℕ → List (Event E) → ℕ
passed k [] = 0
passed zero (fetched p ∷ es) = 0
passed (suc k) (fetched p ∷ es) = suc (passed k es)
passed k (recalled p ∷ es) = suc (passed k es)
passed k (hit e i ∷ es) = 1
passed k (shifted b ss ∷ es) = suc (passed k es)
passed k (done ∷ es) = 1

-- The history of a list of calls: what they have passed of all that happens with the bytes taken. It is read off these events and the answers
-- given; no state is in it. A call that is refused passes nothing.
abbrev pub history : {E : Type 0} → List Said → List (Event E) → List (Event E)
history [] es = []
history (s ∷ said) es =
    elim (is_refused s.answer) [
      | true ↦ history said es
      | false ↦ (let k = passed s.used es in take k es ++ history said (drop k es))
    ]

-- The rounds of a list are those the rules make when each place they fetch gets the next byte taken. `longest` is D.
pub record Demand3 (book : List ℕ) (longest n : ℕ) (calls : List Call) (r : Ran) : Type 0 where
  pub tokens : List (List ℕ)
  pub read : read_book book ≡ accepted tokens
  pub events : List (Event (List ℕ))
  pub rules : events ≡ happens tokens n (λ k p. get_or r.taken k 0)
  pub said : r.said ≡ expected none (answers events) calls
  pub counted : r.last.supplied ≡ length r.taken
  pub looked : r.last.supplied + r.last.spared ≡ length (looks (history r.said events))
  pub limited : length r.taken ≤ limit n longest
  pub few_now : 4 ^ length (used r.last.stretches) ≤ longest
  pub few_between : Few longest events

-- Demand 3 in one piece. Building takes a book and lent tables, answers the number of nodes, S and D, and leaves tables; starting takes
-- these numbers and a length; then any list of calls is made.
unfoldable pub Demand3For : Type 0
Demand3For =
    (book : List ℕ) (lent : Tables) (sizes : Sizes) → (build book lent).answer ≡ accepted sizes →
    (n : ℕ) (s : Scan) → start n sizes.shortest sizes.nodes ≡ accepted s →
    (calls : List Call) → Demand3 book sizes.longest n calls (ran (build book lent).tables s calls)
