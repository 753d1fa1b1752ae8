-- The history of a list of calls, against the plan of what is to come: what a call in turn passes is what it is billed for.
use Rattle.std.specs.Prelude.{ℕ, zero, suc, ◌+◌, ◌-◌, ◌≤◌, ◌≡◌, refl, Bool, true, false, List, [], ◌∷◌, ◌++◌, eqb, length, take, drop}
use Rattle.std.proofs.Common.{arith, ap, sym, subst, ◌∙◌, length-append, take-append-drop}
use Rattle.std.proofs.Math.Option.{Option, some, none}
use Rattle.rules.specs.Rules.{Event, fetched, recalled, hit, shifted, done}
use Rattle.rules.specs.Sweep.{places, recalls}
use Rattle.rules.proofs.Laws.Limit.Ends.{Whole}
use Rattle.scan.specs.Calls.{Answer, fetch, found, over, refused}
use Rattle.scan.specs.Answers.{answers, first, is_refused, descent}
use Rattle.scan.proofs.Laws.Bill.{bill_of, Plan, plan, onward, after}
use Rattle.demands.specs.Demand3.{Said, due_after, passed, history}

-- The first so many answers are places to fetch.
abbrev pub Fetching : ℕ → List Answer → Type 0
Fetching zero todo = Unit {0}
Fetching (suc used) [] = ⊥
Fetching (suc used) (fetch p ∷ todo) = Fetching used todo
Fetching (suc used) (found e i ∷ todo) = ⊥
Fetching (suc used) (over ∷ todo) = ⊥
Fetching (suc used) (refused k v ∷ todo) = ⊥

pub descent-fetching : (used last : ℕ) (todo : List Answer) → used ≤ descent last todo → Fetching used todo
descent-fetching zero last todo h = tt
descent-fetching (suc used) last [] h = absurd (omega arith)
descent-fetching (suc used) last (fetch p ∷ todo) h = go (eqb (suc p) last) h (descent-fetching used (last - 1) todo)
  where
    go : (b : Bool) → suc used ≤ (elim b as (λ b. ℕ) [ true ↦ suc (descent (last - 1) todo) | false ↦ 0 ])
        → (used ≤ descent (last - 1) todo → Fetching used todo) → Fetching used todo
    go true h ih = ih (omega arith)
    go false h ih = absurd (omega arith)
descent-fetching (suc used) last (found e i ∷ todo) h = absurd (omega arith)
descent-fetching (suc used) last (over ∷ todo) h = absurd (omega arith)
descent-fetching (suc used) last (refused k v ∷ todo) h = absurd (omega arith)

module _ {E : Type 0} where
  -- Where the byte of this place is due, or none, the events to come have this plan, after m bytes taken from stretches.
  abbrev pub Planned : Option ℕ → ℕ → Plan → List (Event E) → Type 0
  Planned none m todo es = todo ≡ plan m es
  Planned (some p) m todo es = (rest : List (Event E)) × (es ≡ fetched p ∷ rest) × (todo ≡ plan m rest)

  -- Nothing is to come, or done comes last.
  abbrev pub Closes : List (Event E) → Type 0
  Closes [] = Unit {0}
  Closes (e ∷ es) = Whole (e ∷ es)

  pub whole-closes : (es : List (Event E)) → Whole es → Closes es
  whole-closes [] w = tt
  whole-closes (e ∷ es) w = w

  -- A call that uses so many bytes, and answers the first of what is to come `now`: it passes its bytes, is billed for what it passes, and
  -- what comes behind that is planned.
  pub record Passes (now : Plan) (used m : ℕ) (es : List (Event E)) : Type 0 where
    pub plain : is_refused (first now.0) ≡ false
    pub fetches : length (places (take (passed used es) es)) ≡ used
    pub bill : now.1 0 ≡ m + length (recalls (take (passed used es) es))
    pub rest : Planned (due_after (first now.0)) (now.1 0) (onward now) (drop (passed used es) es)
    pub closes : Closes (drop (passed used es) es)

  pub passes : (es : List (Event E)) → Closes es → (used m : ℕ) → Fetching used (answers es) → Passes (after used (plan m es)) used m es
  passes [] w zero m f = record { plain = refl; fetches = refl; bill = omega arith; rest = refl; closes = tt }
  passes [] w (suc used) m f = absurd f
  passes (fetched p ∷ es) w zero m f = record { plain = refl; fetches = refl; bill = omega arith; rest = (es, refl, refl); closes = w }
  passes (fetched p ∷ es) w (suc used) m f =
      let r = passes es (whole-closes es w) used m f in
      record { plain = r.plain; fetches = ap suc r.fetches; bill = r.bill; rest = r.rest; closes = r.closes }
  passes (recalled p ∷ es) w used m f =
      let r = passes es (whole-closes es w) used (suc m) f in
      record { plain = r.plain; fetches = r.fetches; bill = r.bill ∙ omega arith; rest = r.rest; closes = r.closes }
  passes (hit e i ∷ es) w zero m f = record { plain = refl; fetches = refl; bill = omega arith; rest = refl; closes = whole-closes es w }
  passes (hit e i ∷ es) w (suc used) m f = absurd f
  passes (shifted b ss ∷ es) w used m f =
      let r = passes es (whole-closes es w) used m f in
      record { plain = r.plain; fetches = r.fetches; bill = r.bill; rest = r.rest; closes = r.closes }
  passes (done ∷ es) w zero m f =
      let e : ◌≡◌ {A = Plan} ([], λ i. m) (plan m es) = ap (plan m) (sym w) in
      record { plain = refl; fetches = refl; bill = omega arith; rest = e; closes = subst Closes (sym w) tt }
  passes (done ∷ es) w (suc used) m f = absurd f

  -- What is taken from stretches, of events one after the other.
  pub recalls-append : (l r : List (Event E)) → recalls (l ++ r) ≡ recalls l ++ recalls r
  recalls-append [] r = refl
  recalls-append (fetched p ∷ l) r = recalls-append l r
  recalls-append (recalled p ∷ l) r = cc (recalls-append l r)
  recalls-append (hit e i ∷ l) r = recalls-append l r
  recalls-append (shifted b ss ∷ l) r = recalls-append l r
  recalls-append (done ∷ l) r = recalls-append l r

  pub places-append : (l r : List (Event E)) → places (l ++ r) ≡ places l ++ places r
  places-append [] r = refl
  places-append (fetched p ∷ l) r = cc (places-append l r)
  places-append (recalled p ∷ l) r = places-append l r
  places-append (hit e i ∷ l) r = places-append l r
  places-append (shifted b ss ∷ l) r = places-append l r
  places-append (done ∷ l) r = places-append l r

  -- The history of a call and the others: by whether it is refused.
  abbrev on_refused : List (Event E) → List (Event E) → Bool → List (Event E)
  on_refused others all b = elim b [ true ↦ others | false ↦ all ]

  pub history-refused : (s : Said) (said : List Said) (es : List (Event E)) → is_refused s.answer ≡ true → history (s ∷ said) es ≡ history said es
  history-refused s said es e = ap (on_refused (history said es) _) e

  pub history-passed : (s : Said) (said : List Said) (es : List (Event E)) → is_refused s.answer ≡ false
      → history (s ∷ said) es ≡ take (passed s.used es) es ++ history said (drop (passed s.used es) es)
  history-passed s said es e = ap (on_refused (history said es) _) e

  -- A history has no more of it than what happens in all.
  pub history-few : (said : List Said) (es : List (Event E)) → length (recalls (history said es)) ≤ length (recalls es)
  history-few [] es = omega arith
  history-few (s ∷ said) es = go (is_refused s.answer) (passed s.used es) (history-few said)
    where
      go : (b : Bool) (k : ℕ) → ((es : List (Event E)) → length (recalls (history said es)) ≤ length (recalls es))
          → length (recalls (on_refused (history said es) (take k es ++ history said (drop k es)) b)) ≤ length (recalls es)
      go true k ih = ih es
      go false k ih =
          rw (recalls-append (take k es) (history said (drop k es)), length-append)
          (omega (arith, ih (drop k es), whole-recalls))
        where
          whole-recalls : length (recalls (take k es)) + length (recalls (drop k es)) ≡ length (recalls es)
          whole-recalls =
              sym (length-append (recalls (take k es)) (recalls (drop k es)))
              ∙ ap length (sym (recalls-append (take k es) (drop k es)) ∙ ap recalls (take-append-drop k es))

  -- When all answers are given, all is billed.
  some-answer : (es : List (Event E)) → Whole es → 1 ≤ length (answers es)
  some-answer [] w = absurd w
  some-answer (fetched p ∷ es) w = omega arith
  some-answer (recalled p ∷ es) w = some-answer es w
  some-answer (hit e i ∷ es) w = omega arith
  some-answer (shifted b ss ∷ es) w = some-answer es w
  some-answer (done ∷ es) w = omega arith

  pub bill-total : (es : List (Event E)) → Whole es → (m i : ℕ) → length (answers es) ≤ suc i → bill_of m es i ≡ m + length (recalls es)
  bill-total [] w m i h = absurd w
  bill-total (fetched p ∷ es) w m zero h = absurd (omega (arith, some-answer es w))
  bill-total (fetched p ∷ es) w m (suc i) h = bill-total es w m i (omega arith)
  bill-total (recalled p ∷ es) w m i h = bill-total es w (suc m) i h ∙ omega arith
  bill-total (hit e j ∷ es) w m zero h = absurd (omega (arith, some-answer es w))
  bill-total (hit e j ∷ es) w m (suc i) h = bill-total es w m i (omega arith)
  bill-total (shifted b ss ∷ es) w m i h = bill-total es w m i h
  bill-total (done ∷ es) w m i h = rw w (omega arith)
