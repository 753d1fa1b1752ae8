-- What the calls are to answer, read off the rules' events.
use Rattle.std.specs.Prelude.{ℕ, suc, ◌-◌, Bool, true, false, List, [], ◌∷◌, eqb}
use Rattle.rules.specs.Rules.{Event, fetched, recalled, hit, shifted, done}
use Rattle.scan.specs.Calls.{Answer, fetch, found, over, refused}

-- The answers to the calls in turn, in order; after them, done.
abbrev pub answers : {E : Type 0} → List (Event E) → List Answer
answers [] = []
answers (fetched p ∷ es) = fetch p ∷ answers es
answers (recalled p ∷ es) = answers es
answers (hit e i ∷ es) = found e i ∷ answers es
answers (shifted b ss ∷ es) = answers es
answers (done ∷ es) = over ∷ []

abbrev pub first : List Answer → Answer
first [] = over
first (a ∷ rest) = a

abbrev pub later : List Answer → List Answer
later [] = []
later (a ∷ rest) = rest

abbrev pub is_refused : Answer → Bool
is_refused (fetch p) = false
is_refused (found e i) = false
is_refused over = false
is_refused (refused k v) = true

-- How many answers, from the first on, each fetch the place just below the one before, the first the one just below `last`.
abbrev pub descent : ℕ → List Answer → ℕ
descent last [] = 0
descent last (fetch p ∷ rest) = elim (eqb (suc p) last) [ true ↦ suc (descent (last - 1) rest) | false ↦ 0 ]
descent last (found e i ∷ rest) = 0
descent last (over ∷ rest) = 0
descent last (refused k v ∷ rest) = 0

-- The places to fetch among answers, in order.
abbrev pub places_in : List Answer → List ℕ
places_in [] = []
places_in (fetch p ∷ rest) = p ∷ places_in rest
places_in (found e i ∷ rest) = places_in rest
places_in (over ∷ rest) = places_in rest
places_in (refused k v ∷ rest) = places_in rest

-- The hits among answers, in order.
abbrev pub hits_in : List Answer → List (ℕ × ℕ)
hits_in [] = []
hits_in (fetch p ∷ rest) = hits_in rest
hits_in (found e i ∷ rest) = (e, i) ∷ hits_in rest
hits_in (over ∷ rest) = hits_in rest
hits_in (refused k v ∷ rest) = hits_in rest
