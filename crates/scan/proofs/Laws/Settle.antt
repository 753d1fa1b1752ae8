-- One call in turn: it answers the next of what the rules say, bills what they took from stretches, and comes to a state for what they say
-- after that.
use Prim.Native.Nat.{ℕ, zero, suc, ◌+◌, ◌-◌, ◌*◌, ◌≤◌, ◌<◌, min}
use Rattle.std.proofs.Common.{arith, mul-le-mul, sym, ◌∙◌, lt-ltb}
use Rattle.std.proofs.Math.Nat.{lt_of_not-le}
use Rattle.std.specs.Prelude.{◌≡◌, Bool, true, length, get_or}
use Rattle.std.proofs.Math.Path.{refl, ap, subst}
use Rattle.std.proofs.Math.Bool.{false}
use mathlib.Core.List.{List, [], ◌∷◌, ◌++◌}
use Rattle.std.proofs.Math.Option.{Option, some, none}
use Rattle.book.specs.Book.{max_body}
use Rattle.rules.specs.Rules.{Config, Event, Step, Next, finished, wants, goes, hit_at, hits_up, take_byte, next, follow, trace}
use Rattle.rules.specs.Sweep.{recalls}
use Rattle.rules.specs.Configs.{steps_left}
use Rattle.tables.specs.Tables.{Tables}
use Rattle.tables.specs.Walks.{depth, carrier, of_tables}
use Rattle.tables.specs.Shape.{up}
use Rattle.tables.proofs.Laws.Hits.{hits_from, deeper, hits-climb, Carries, carrier-carries}
use Rattle.scan.specs.Calls.{Answer, fetch, found, over, refused, Stepped, counted, awaiting, told, first_hit, stepped, settle, enough, carry_on, supply}
use Rattle.scan.specs.declared.Scan.{Scan}
use Rattle.scan.specs.State.{config_of, tree_of, wants_byte, max_supplied, max_spared}
use Rattle.scan.specs.Answers.{is_refused, first, later}
use Rattle.scan.specs.Within.{Ready, Pending, Left}
use Rattle.scan.proofs.Laws.Bill.{Plan, plan, says, onward, capped, capped-more}
use Rattle.scan.proofs.Laws.Within.{owing-left}
use Rattle.scan.proofs.Laws.Walk.{Given, given-ready, Sat, SatStep, SatNext, next-sat}
use Rattle.scan.proofs.Laws.Range.{state_at, sat-cap, stands, judged-turn}

-- There are steps enough before the boundary has passed the image.
abbrev pub Enough : ℕ → ℕ → Config ℕ → ℕ → Type 0
Enough n D c fuel = c.boundary ≤ n → steps_left n D c.boundary c.depth < fuel

pub enough-steps : (n D : ℕ) → D ≤ max_body → (c : Config ℕ) → Enough n D c ((n + 2) * (max_body + 2))
enough-steps n D h c i = omega (arith, mul-le-mul {n₁ = suc n - c.boundary} {m₁ = suc D} {n₂ = suc n} {m₂ = 1025} (omega arith) (omega arith))

-- A byte is due after this answer.
abbrev pub is_fetch : Answer → Bool
is_fetch (fetch p) = true
is_fetch (found e i) = false
is_fetch over = false
is_fetch (refused k v) = false

-- Going on, by what comes next, and by whether a hit is left.
abbrev pub on_next : Tables → ℕ → Scan → Next ℕ → Stepped
on_next t fuel s x = elim x [
  | finished ↦ record { state = s; answer = over }
  | wants at ↦ record { state = awaiting s; answer = fetch at }
  | goes w ↦ settle t fuel (stepped t s w)
]

abbrev pub on_left : Tables → ℕ → Scan → Next ℕ → ℕ → Stepped
on_left t fuel s x v = elim v [ zero ↦ on_next t fuel s x | suc w ↦ told t s ]

-- A call, by how it is judged.
abbrev pub on_judged : Scan → Stepped → Option Answer → Stepped
on_judged s r j = elim j [ some a ↦ record { state = s; answer = a } | none ↦ r ]

-- Going on is never refused.
settle-plain : (t : Tables) (fuel : ℕ) (s : Scan) → is_refused (settle t fuel s).answer ≡ false
settle-plain t zero s = refl
settle-plain t (suc fuel) s = go s.hit (next (tree_of t s) s.image (config_of s)) (settle-plain t fuel)
  where
    go : (v : ℕ) (x : Next ℕ) → ((s : Scan) → is_refused (settle t fuel s).answer ≡ false)
        → is_refused (on_left t fuel s x v).answer ≡ false
    go zero finished ih = refl
    go zero (wants at) ih = refl
    go zero (goes w) ih = ih (stepped t s w)
    go (suc v) x ih = refl

-- The end plays no part where no hit is left.
owing-hits : (t : Tables) (count S end v : ℕ)
    → hits_up (of_tables t count S) (elim v [ zero ↦ 0 | suc w ↦ end ]) v (depth t v) ≡ hits_up (of_tables t count S) end v (depth t v)
owing-hits t count S end zero = refl
owing-hits t count S end (suc v) = refl

-- A hit that is left comes first, and after it those from the nearest node above that carries a token; these are in range too.
module _ {t : Tables} {count n S : ℕ} (ready : Ready t count n S) {c : Config ℕ} {end v : ℕ} (a : 0 < v) (p : Pending t count n S c end v) where
  abbrev above : ℕ
  above = carrier t (up t v)

  falls : up t v < v
  falls = ready.tree.falling.ups v a p.below

  above-carries : Carries t count ready.tree.falling S end (up t v) above
  above-carries = carrier-carries t count ready.tree.falling S end (up t v) (omega (arith, falls, p.below))

  pub first-told : (m : ℕ) (rest : List (Event ℕ)) → let tree = of_tables t count S in
      plan m (hits_up tree end v (depth t v) ++ rest)
      ≡ says (found end (get_or t.token v 0)) m (plan m (hits_up tree end above (depth t above) ++ rest))
  first-told m rest =
      let f = ready.tree.falling in
      ap (λ es. plan m (es ++ rest)) (hits-climb t count f S end v a p.below)
      ∙ go (get_or t.token v 0) p.marked (hits_from t count f S end (up t v))
      ∙ ap (λ es. says (found end (get_or t.token v 0)) m (plan m (es ++ rest))) above-carries.same
    where
      go : (i : ℕ) → 1 ≤ i → (es : List (Event ℕ)) → plan m ((hit_at end i ++ es) ++ rest) ≡ says (found end i) m (plan m (es ++ rest))
      go zero h es = absurd (omega arith)
      go (suc i) h es = refl

  pub above-pending : 0 < above → Pending t count n S c end above
  above-pending b = record {
    below = omega (arith, above-carries.below, falls, p.below);
    marked = above-carries.marked b;
    deep = omega (arith, above-carries.deep, deeper t count ready.tree.falling S end v a p.below, p.deep);
    inside = p.inside;
    before = p.before;
    near = p.near;
    root = p.root;
    upto = p.upto;
  }

module _ {tokens : List (List ℕ)} {S D : ℕ} {t : Tables} {count n : ℕ} (given : Given tokens S D t count n) (ask : ℕ → ℕ → ℕ) where
  -- What happens from a configuration on, after k bytes.
  abbrev pub run : ℕ → ℕ → Config ℕ → List (Event ℕ)
  run fuel k c = trace (of_tables t count S) n ask fuel k c

  -- The step that the byte after the first k makes, which is for place `at`.
  abbrev fed : ℕ → ℕ → Config ℕ → Step ℕ
  fed k at c = take_byte (of_tables t count S) c (ask k at)

  -- What is to come where the hits of node v with this end are left, and m bytes were taken from stretches.
  abbrev pub left : ℕ → ℕ → ℕ → List (Event ℕ) → Plan
  left m end v rest = plan m (hits_up (of_tables t count S) end v (depth t v) ++ rest)

  -- What is to come at a configuration: the hits that are left, and then; if a byte is due, what comes after it is taken.
  abbrev pub Todo : ℕ → ℕ → Bool → Config ℕ → ℕ → ℕ → Plan → Type 0
  Todo k m false c end v todo = (fuel : ℕ) × Enough n D c fuel × (todo ≡ left m end v (run fuel k c))
  Todo k m true c end v todo =
      (at : ℕ) × (fuel : ℕ) × (next (of_tables t count S) n c ≡ wants at)
      × Enough n D (fed k at c).config fuel × (todo ≡ plan m ((fed k at c).events ++ run fuel (k + 1) (fed k at c).config))

  -- An answer that is no place to fetch wants none.
  none-wanted : (a : Answer) (c : Config ℕ) → is_fetch a ≡ false → (p : ℕ) → a ≡ fetch p → next (of_tables t count S) n c ≡ wants p
  none-wanted a c e p q = absurd (let z : ◌≡◌ {A = ℕ} 0 1 = cc in omega arith)

  -- A call that leaves k bytes taken answers the first of `todo` and is billed so, and the others are still to come.
  pub record Settled (k : ℕ) (todo : Plan) (r : Stepped) : Type 0 where
    pub config : Config ℕ
    pub due : Bool
    pub end : ℕ
    pub hit : ℕ
    pub is : r ≡ record { state = state_at n S count config due k (capped (todo.1 0)) end hit; answer = first todo.0 }
    pub sat : Sat given config k
    pub owes : Left t count n S config due end hit
    pub rest : Todo k (todo.1 0) due config end hit (onward todo)
    pub turn : is_fetch (first todo.0) ≡ due
    pub wanted : (p : ℕ) → first todo.0 ≡ fetch p → next (of_tables t count S) n config ≡ wants p

  module _ (k : ℕ) where
    -- Going on from states with steps enough settles.
    abbrev Settles : ℕ → Type 0
    Settles fuel = (m f : ℕ) (c : Config ℕ) (end v : ℕ) → Sat given c k → Left t count n S c false end v → 1 ≤ fuel → Enough n D c fuel
        → Enough n D c f → Settled k (left m end v (run f k c)) (settle t fuel (state_at n S count c false k (capped m) end v))

    -- A hit that is left is answered.
    told-settles : (m f : ℕ) (c : Config ℕ) (end v : ℕ) → Sat given c k → 0 < v → Pending t count n S c end v → Enough n D c f
        → Settled k (left m end v (run f k c)) (told t (state_at n S count c false k (capped m) end v))
    told-settles m f c end v s a p h =
        let ready = given-ready given in
        let w = carrier t (up t v) in
        subst (λ todo. Settled k todo (told t (state_at n S count c false k (capped m) end v))) (sym (first-told ready a p m (run f k c)))
        (record {
          config = c;
          due = false;
          end = elim w [ zero ↦ 0 | suc u ↦ end ];
          hit = w;
          is = refl;
          sat = s;
          owes = owing-left t count n S c false refl end w (above-pending ready a p);
          rest = (f, h, ap (λ es. plan m (es ++ run f k c)) (sym (owing-hits t count S end w)));
          turn = refl;
          wanted = none-wanted (found end (get_or t.token v 0)) c refl;
        })

    -- The boundary has passed the image, and no hit is left.
    over-settles : (m : ℕ) (c : Config ℕ) (end : ℕ) → Sat given c k → Left t count n S c false end 0 → n < c.boundary
        → (todo : List Answer) → first todo ≡ over → later todo ≡ []
        → Settled k (todo, λ i. m) (record { state = state_at n S count c false k (capped m) end 0; answer = over })
    unfolding trace
    over-settles m c end s l h todo e f = record {
      config = c;
      due = false;
      end = end;
      hit = 0;
      is = cc e;
      sat = s;
      owes = l;
      rest = (0, (λ i. absurd (omega arith)), ap (λ l. (l, λ i. m)) f);
      turn = ap is_fetch e;
      wanted = none-wanted (first todo) c (ap is_fetch e);
    }

    -- After a step its hits are left.
    step-settles : (m fuel f : ℕ) (c : Config ℕ) (end : ℕ) (w : Step ℕ) → SatStep given c k w → Settles fuel
        → 1 ≤ fuel → Enough n D w.config fuel → Enough n D w.config f
        → Settled k (plan m (w.events ++ run f k w.config)) (settle t fuel (stepped t (state_at n S count c false k (capped m) end 0) w))
    step-settles m fuel f c end w s ih l g h =
        let v = first_hit t c.node w.events in
        let to : ℕ = elim v [ zero ↦ 0 | suc u ↦ c.boundary ] in
        let bill = m + length (recalls w.events) in
        let todo = plan m (w.events ++ run f k w.config) in
        subst (λ x. Settled k todo (settle t fuel (state_at n S count w.config false k x to v))) (sym (capped-more m (length (recalls w.events))))
        (subst (λ todo. Settled k todo (settle t fuel (state_at n S count w.config false k (capped bill) to v)))
        (ap (λ es. plan bill (es ++ run f k w.config)) (owing-hits t count S c.boundary v) ∙ sym (s.leaves.heard m (run f k w.config)))
        (ih bill f w.config to v s.sat (owing-left t count n S w.config false refl c.boundary v s.leaves.pending) l g h))

    next-settles : (m fuel f : ℕ) (c : Config ℕ) (end : ℕ) → Sat given c k → Left t count n S c false end 0 → Settles fuel
        → Enough n D c (suc fuel) → Enough n D c (suc f) → (x : Next ℕ) → next (of_tables t count S) n c ≡ x → SatNext given c k x
        → Settled k (plan m (follow (of_tables t count S) ask (run f) k c x)) (on_next t fuel (state_at n S count c false k (capped m) end 0) x)
    next-settles m fuel f c end s l ih g h finished e x = over-settles m c end s l x (over ∷ []) refl refl
    next-settles m fuel f c end s l ih g h (wants at) e x =
        let w = x (ask k at) in
        record {
          config = c;
          due = true;
          end = end;
          hit = 0;
          is = refl;
          sat = s;
          owes = record { none = l.none; some = l.some; idle = λ a. absurd (omega arith) };
          rest = (at, f, e, λ i. omega (arith, h w.early, w.less), refl);
          turn = refl;
          wanted = λ p q. let z : at ≡ p = cc in cc;
        }
    next-settles m fuel f c end s l ih g h (goes w) e x =
        let a = g x.early in
        let b = h x.early in
        step-settles m fuel f c end w x ih (omega (arith, x.less)) (λ _. omega (arith, x.less)) (λ _. omega (arith, x.less))

    settle-settles : (fuel : ℕ) → Settles fuel
    unfolding trace
    settle-settles zero m f c end v s l i g h = absurd (omega arith)
    settle-settles (suc fuel) m f c end (suc v) s l i g h = told-settles m f c end (suc v) s (omega arith) (l.some (omega arith)) h
    settle-settles (suc fuel) m zero c end zero s l i g h =
        let p : n < c.boundary = lt_of_not-le (λ i. omega (arith, h i)) in
        let done : next (of_tables t count S) n (config_of (state_at n S count c false k (capped m) end 0)) ≡ finished = cc (lt-ltb n c.boundary p) in
        subst (λ x. Settled k ([], λ i. m) (on_next t fuel (state_at n S count c false k (capped m) end 0) x)) (sym done) (over-settles m c end s l p [] refl refl)
    settle-settles (suc fuel) m (suc f) c end zero s l i g h =
        subst (λ d. Settled k (plan m (run (suc f) k c)) (on_next t fuel (state_at n S count c false k (capped m) end 0) (next (of_tables t count S) n d)))
        (sym (stands given c false k (capped m) end 0 s))
        (next-settles m fuel f c end s l (settle-settles fuel) g h (next (of_tables t count S) n c) refl (next-sat given c k s))

  module _ (c : Config ℕ) (k m end v : ℕ) (s : Sat given c k) where
    few : capped m ≤ max_spared
    few = omega arith

    -- A call out of turn changes nothing.
    pub carry-refused : (todo : Plan) → Todo k m true c end v todo → Left t count n S c true end v
        → carry_on t (state_at n S count c true k (capped m) end v) ≡ record { state = state_at n S count c true k (capped m) end v; answer = refused 11 0 }
    carry-refused todo h l = ap (on_judged _ _) (judged-turn given c true k (capped m) end v s few (ap wants_byte h.2) l false)

    pub supply-refused : (x : ℕ) → Left t count n S c false end v
        → supply t (state_at n S count c false k (capped m) end v) x ≡ record { state = state_at n S count c false k (capped m) end v; answer = refused 11 0 }
    supply-refused x l = ap (on_judged _ _) (judged-turn given c false k (capped m) end v s few refl l true)

    -- A call in turn settles.
    pub carry-settles : (todo : Plan) → Todo k m false c end v todo → Left t count n S c false end v
        → Settled k todo (carry_on t (state_at n S count c false k (capped m) end v))
    carry-settles todo h l =
        let st = state_at n S count c false k (capped m) end v in
        let is : carry_on t st ≡ settle t (enough st) st = ap (on_judged _ _) (judged-turn given c false k (capped m) end v s few refl l false) in
        subst (Settled k todo) (sym is) (subst (λ todo. Settled k todo (settle t (enough st) st)) (sym h.2)
        (settle-settles k (enough st) m h.0 c end v s l (omega arith) (enough-steps n D given.short c) h.1))

    module _ (todo : Plan) (h : Todo k m true c end v todo) (l : Left t count n S c true end v) where
      -- the state that the byte leads to
      abbrev fed_to : ℕ → Scan
      fed_to x = stepped t (state_at n S count c false (k + 1) (capped m) end v) (take_byte (of_tables t count S) c x)

      supply-is : (x : ℕ) → supply t (state_at n S count c true k (capped m) end v) x ≡ settle t ((n + 2) * (max_body + 2)) (fed_to x)
      supply-is x =
          let st = state_at n S count c true k (capped m) end v in
          let go : Config ℕ → Stepped = λ c. settle t (enough st) (stepped t (counted st) (take_byte (of_tables t count S) c x)) in
          let is : supply t st x ≡ go c =
          ap (on_judged _ _) (judged-turn given c true k (capped m) end v s few (ap wants_byte h.2) l true) ∙ ap go (stands given c true k (capped m) end v s) in
          let more : min max_supplied (k + 1) ≡ k + 1 = omega (arith, sat-cap given c k s) in
          is ∙ ap (λ j. settle t (enough st) (stepped t (state_at n S count c false j (capped m) end v) (take_byte (of_tables t count S) c x))) more

      pub supply-plain : (x : ℕ) → is_refused (supply t (state_at n S count c true k (capped m) end v) x).answer ≡ false
      supply-plain x = ap (λ r. is_refused r.answer) (supply-is x) ∙ settle-plain t ((n + 2) * (max_body + 2)) (fed_to x)

      pub supply-settles : Settled (k + 1) todo (supply t (state_at n S count c true k (capped m) end v) (ask k h.0))
      supply-settles =
          let x = ask k h.0 in
          let w = fed k h.0 c in
          let fuel = (n + 2) * (max_body + 2) in
          let z : SatStep given c (k + 1) w = subst (SatNext given c k) h.2 (next-sat given c k s) x in
          subst (Settled (k + 1) todo) (sym (supply-is x)) (subst (λ todo. Settled (k + 1) todo (settle t fuel (fed_to x))) (sym h.4)
          (step-settles (k + 1) m fuel h.1 c end w z (settle-settles (k + 1) fuel) (omega arith) (enough-steps n D given.short w.config) h.3))
