-- What the calls in turn are to answer, and the bill: how many bytes were taken from stretches when each answer is given.
use Rattle.std.specs.Prelude.{ℕ, zero, suc, ◌+◌, min, ◌≡◌, refl, List, [], ◌∷◌, drop}
use Rattle.std.proofs.Common.{arith, ap}
use Rattle.rules.specs.Rules.{Event, fetched, recalled, hit, shifted, done}
use Rattle.rules.proofs.Laws.Image.{events_of}
use Rattle.scan.specs.State.{max_spared}
use Rattle.scan.specs.Calls.{Answer, fetch, found}
use Rattle.scan.specs.Answers.{answers, later}

-- a bill with one number more in front
abbrev pub billed : ℕ → (ℕ → ℕ) → ℕ → ℕ
billed m bill zero = m
billed m bill (suc i) = bill i

-- The bill of the i-th answer, from 0, where m were taken before.
abbrev pub bill_of : {E : Type 0} → ℕ → List (Event E) → ℕ → ℕ
bill_of m [] = λ i. m
bill_of m (fetched p ∷ es) = billed m (bill_of m es)
bill_of m (recalled p ∷ es) = bill_of (suc m) es
bill_of m (hit e i ∷ es) = billed m (bill_of m es)
bill_of m (shifted b ss ∷ es) = bill_of m es
bill_of m (done ∷ es) = λ i. m

-- The answers to come, and their bill.
abbrev pub Plan : Type 0
Plan = List Answer × (ℕ → ℕ)

abbrev pub plan : {E : Type 0} → ℕ → List (Event E) → Plan
plan m es = (answers es, bill_of m es)

-- a bill without its first k numbers
abbrev pub skipped : ℕ → (ℕ → ℕ) → ℕ → ℕ
skipped zero bill = bill
skipped (suc k) bill = skipped k (λ i. bill (suc i))

-- An answer in front; the plan after the first answer; and after so many.
abbrev pub says : Answer → ℕ → Plan → Plan
says a m q = (a ∷ q.0, billed m q.1)

abbrev pub onward : Plan → Plan
onward q = (later q.0, λ i. q.1 (suc i))

abbrev pub after : ℕ → Plan → Plan
after k q = (drop k q.0, skipped k q.1)

-- What a state has of the bill: the count stops.
abbrev pub capped : ℕ → ℕ
capped m = min max_spared m

pub capped-more : (m k : ℕ) → capped (capped m + k) ≡ capped (m + k)
capped-more m k = omega arith

-- Plans do not show nodes.
pub events-plan : {E F : Type 0} (f : E → F) (m : ℕ) (es : List (Event E)) → plan m (events_of f es) ≡ plan m es
events-plan f m [] = refl
events-plan f m (fetched p ∷ es) = ap (says (fetch p) m) (events-plan f m es)
events-plan f m (recalled p ∷ es) = events-plan f (suc m) es
events-plan f m (hit e i ∷ es) = ap (says (found e i) m) (events-plan f m es)
events-plan f m (shifted b ss ∷ es) = events-plan f m es
events-plan f m (done ∷ es) = refl
