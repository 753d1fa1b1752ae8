-- A list of calls, each handed the state that the one before gave back: what it answers, takes and leaves.
use Rattle.std.specs.Prelude.{ℕ, zero, suc, ◌+◌, ◌-◌, ◌^◌, ◌≤◌, min, ◌≡◌, refl, Bool, true, false, List, [], ◌∷◌, ◌++◌, length, get_or, take, drop}
use Rattle.std.proofs.Common.{arith, add-one, ap, sym, subst, ◌∙◌, length-append, drop_of_length-le, length-take-le}
use Rattle.std.proofs.Math.Option.{Option, some, none}
use Rattle.rules.specs.Rules.{Config, Event, fetched, wants, next}
use Rattle.rules.specs.Sweep.{places, recalls, limit}
use Rattle.rules.proofs.Laws.Tests.{decide}
use Rattle.tables.specs.Tables.{Tables}
use Rattle.tables.specs.Walks.{of_tables}
use Rattle.scan.specs.declared.Scan.{Scan}
use Rattle.scan.specs.State.{used}
use Rattle.scan.specs.Calls.{Answer, fetch, found, over, refused, Stepped, carry_on, supply}
use Rattle.scan.specs.Packets.{Delivered, none_used, feed, overlong, supply_packet}
use Rattle.scan.specs.Answers.{is_refused, first, later, descent}
use Rattle.scan.specs.Within.{Left}
use Rattle.scan.proofs.Laws.Bill.{billed, Plan, says, onward, after, capped}
use Rattle.scan.proofs.Laws.Walk.{Given, Sat}
use Rattle.scan.proofs.Laws.Range.{state_at, sat-few, sat-below, stands}
use Rattle.scan.proofs.Laws.Settle.{is_fetch, Todo, Settled, carry-refused, supply-refused, carry-settles, supply-plain, supply-settles}
use Rattle.scan.proofs.Laws.Singly.{overlong-refused}
use Rattle.scan.proofs.Laws.Feeds.{Asked, Fed, feed-settles, packet-feeds, packet-refused}
use Rattle.demands.specs.Demand3.{Call, carry, give, send, brought, Said, say, Ran, ran, due_after, expected, passed, history}
use Rattle.demands.proofs.Laws.History.{Fetching, descent-fetching, Planned, Closes, Passes, passes, recalls-append, places-append, history-refused, history-passed}

-- A call with the others after it, by what it gives back.
abbrev joined : Tables → Call → List Call → Delivered → Ran
joined t call cs d =
    let rest = ran t d.step.state cs in
    record { said = say d.step.answer d.used ∷ rest.said; taken = take d.used (brought call) ++ rest.taken; last = rest.last }

drop_here : (all : List ℕ) (k x : ℕ) (xs : List ℕ) → drop k all ≡ x ∷ xs → get_or all k 0 ≡ x
drop_here [] zero x xs e = absurd (let z : ◌≡◌ {A = ℕ} 0 1 = cc in omega arith)
drop_here [] (suc k) x xs e = absurd (let z : ◌≡◌ {A = ℕ} 0 1 = cc in omega arith)
drop_here (a ∷ all) zero x xs e = cc
drop_here (a ∷ all) (suc k) x xs e = drop_here all k x xs e

drop-next : (all : List ℕ) (k x : ℕ) (xs : List ℕ) → drop k all ≡ x ∷ xs → drop (suc k) all ≡ xs
drop-next [] zero x xs e = absurd (let z : ◌≡◌ {A = ℕ} 0 1 = cc in omega arith)
drop-next [] (suc k) x xs e = absurd (let z : ◌≡◌ {A = ℕ} 0 1 = cc in omega arith)
drop-next (a ∷ all) zero x xs e = cc
drop-next (a ∷ all) (suc k) x xs e = drop-next all k x xs e

-- So many of some bytes are taken: those that come next, and others behind them.
taken_next : (all : List ℕ) (k used : ℕ) (xs rest : List ℕ) → used ≤ length xs → drop k all ≡ take used xs ++ rest → drop (k + used) all ≡ rest
taken_next all k zero xs rest h e = let same : k + 0 ≡ k = omega arith in rw same e
taken_next all k (suc used) [] rest h e = absurd (omega arith)
taken_next all k (suc used) (x ∷ xs) rest h e =
    let same : k + suc used ≡ suc k + used = omega arith in
    rw same (taken_next all (suc k) used xs rest (omega arith) (drop-next all k x (take used xs ++ rest) e))

later-drop : (k : ℕ) (a : Answer) (todo : List Answer) → later (drop k (a ∷ todo)) ≡ drop k todo
later-drop zero a todo = refl
later-drop (suc k) a [] = ap later (drop_of_length-le [] {i = k} (omega arith))
later-drop (suc k) a (b ∷ todo) = later-drop k b todo

-- A byte is due where there is a place for it.
abbrev is_due : Option ℕ → Bool
is_due (some p) = true
is_due none = false

due-fetch : (a : Answer) → is_due (due_after a) ≡ is_fetch a
due-fetch (fetch p) = refl
due-fetch (found e i) = refl
due-fetch over = refl
due-fetch (refused k v) = refl

module _ {tokens : List (List ℕ)} {S D : ℕ} {t : Tables} {count n : ℕ} (given : Given tokens S D t count n) (all : List ℕ) where
  -- the bytes taken, one after the other
  abbrev ask : ℕ → ℕ → ℕ
  ask k p = get_or all k 0

  -- what happens, over the tokens
  abbrev Events : Type 0
  Events = List (Event (List ℕ))

  -- The place that is due is the one that the rules fetch.
  abbrev Wanted : Option ℕ → Config ℕ → Type 0
  Wanted (some p) c = next (of_tables t count S) n c ≡ wants p
  Wanted none c = Unit {0}

  wanted-after : (a : Answer) (c : Config ℕ) → ((p : ℕ) → a ≡ fetch p → next (of_tables t count S) n c ≡ wants p) → Wanted (due_after a) c
  wanted-after (fetch p) c w = w p refl
  wanted-after (found e i) c w = tt
  wanted-after over c w = tt
  wanted-after (refused k v) c w = tt

  -- The bytes that a packet used are those that are asked for.
  taken-asked : (used k last : ℕ) (xs rest : List ℕ) → drop k all ≡ take used xs ++ rest → Asked given ask k last used xs
  taken-asked zero k last xs rest e = tt
  taken-asked (suc used) k last [] rest e = tt
  taken-asked (suc used) k last (x ∷ xs) rest e = (
    sym (drop_here all k x (take used xs ++ rest) e),
    taken-asked used (k + 1) (last - 1) xs rest (rw (add-one k) (drop-next all k x (take used xs ++ rest) e)),
  )

  -- What is shown of the calls from a state on, after k bytes supplied and m taken from stretches, where these events are to come.
  pub record Right (cs : List Call) (due : Option ℕ) (todo : List Answer) (k m : ℕ) (es : Events) (r : Ran) : Type 0 where
    pub said : r.said ≡ expected due todo cs
    pub counted : r.last.supplied ≡ k + length r.taken
    pub limited : k + length r.taken ≤ limit n D
    pub few : 4 ^ length (used r.last.stretches) ≤ D
    pub fetches : length (places (history r.said es)) ≡ length r.taken
    pub bill : r.last.spared ≡ capped (m + length (recalls (history r.said es)))

  abbrev Goes : List Call → Type 0
  Goes cs = (c : Config ℕ) (due : Option ℕ) (k m end v : ℕ) (todo : Plan) (es : Events) → Sat given c k → Left t count n S c (is_due due) end v
      → Todo given ask k m (is_due due) c end v todo → Wanted due c → Planned due m todo es → Closes es
      → drop k all ≡ (ran t (state_at n S count c (is_due due) k (capped m) end v) cs).taken
      → Right cs due todo.0 k m es (ran t (state_at n S count c (is_due due) k (capped m) end v) cs)

  -- A call that is refused, and the others.
  refused-right : (call : Call) (cs : List Call) → Goes cs → (c : Config ℕ) (due : Option ℕ) (k m end v : ℕ) (todo : Plan) (es : Events)
      → Sat given c k → Left t count n S c (is_due due) end v → Todo given ask k m (is_due due) c end v todo → Wanted due c
      → Planned due m todo es → Closes es
      → (a : Answer) → is_refused a ≡ true → expected due todo.0 (call ∷ cs) ≡ say a 0 ∷ expected due todo.0 cs
      → (d : Delivered) → d ≡ none_used (record { state = state_at n S count c (is_due due) k (capped m) end v; answer = a })
      → drop k all ≡ (joined t call cs d).taken → Right (call ∷ cs) due todo.0 k m es (joined t call cs d)
  refused-right call cs ih c due k m end v todo es s l h w q g a denied next d is =
      subst (λ d. drop k all ≡ (joined t call cs d).taken → Right (call ∷ cs) due todo.0 k m es (joined t call cs d)) (sym is) λ e.
      let i = ih c due k m end v todo es s l h w q g e in
      let said = (ran t (state_at n S count c (is_due due) k (capped m) end v) cs).said in
      let past = history-refused (say a 0) said es denied in
      record {
        said = ap (λ l. say a 0 ∷ l) i.said ∙ sym next;
        counted = i.counted;
        limited = i.limited;
        few = i.few;
        fetches = ap (λ l. length (places l)) past ∙ i.fetches;
        bill = i.bill ∙ ap (λ l. capped (m + length (recalls l))) (sym past);
      }

  -- A call in turn, and the others: it uses so many bytes, and answers the first of what is to come `now`.
  settled-right : (call : Call) (cs : List Call) → Goes cs → (due : Option ℕ) (k m : ℕ) (todo now : Plan) (es : Events) (used : ℕ) (r : Stepped)
      → used ≤ length (brought call)
      → expected due todo.0 (call ∷ cs) ≡ say (first now.0) used ∷ expected (due_after (first now.0)) (later now.0) cs
      → Passes now used m es → Settled given ask (k + used) now r → let d : Delivered = record { step = r; used = used } in
      drop k all ≡ (joined t call cs d).taken → Right (call ∷ cs) due todo.0 k m es (joined t call cs d)
  settled-right call cs ih due k m todo now es used r fits next p z =
      let a = first now.0 in
      let behind = drop (passed used es) es in
      let turn : z.due ≡ is_due (due_after a) = sym z.turn ∙ sym (due-fetch a) in
      subst (λ r. let d : Delivered = record { step = r; used = used } in
      drop k all ≡ (joined t call cs d).taken → Right (call ∷ cs) due todo.0 k m es (joined t call cs d)) (sym (z.is ∙ ap at turn)) λ e.
      let rest = ran t (at (is_due (due_after a))).state cs in
      let i = ih z.config (due_after a) (k + used) (now.1 0) z.end z.hit (onward now) behind z.sat
      (subst (λ b. Left t count n S z.config b z.end z.hit) turn z.owes)
      (subst (λ b. Todo given ask (k + used) (now.1 0) b z.config z.end z.hit (onward now)) turn z.rest)
      (wanted-after a z.config z.wanted) p.rest p.closes (taken_next all k used (brought call) rest.taken fits e) in
      let here = take (passed used es) es in
      let past = history-passed (say a used) rest.said es p.plain in
      let sum : k + length (take used (brought call) ++ rest.taken) ≡ k + used + length rest.taken =
      rw (length-append, length-take-le used (brought call) fits) (omega arith) in
      record {
        said = ap (λ l. say a used ∷ l) i.said ∙ sym next;
        counted = i.counted ∙ sym sum;
        limited = rw sum i.limited;
        few = i.few;
        fetches = rw (past, places-append here (history rest.said behind), length-append (places here) (places (history rest.said behind)))
            (omega (arith, p.fetches, i.fetches, sum));
        bill = rw (past, recalls-append here (history rest.said behind), length-append) (i.bill ∙ ap capped (omega (arith, p.bill)));
      }
    where
      at : Bool → Stepped
      at b = record { state = state_at n S count z.config b (k + used) (capped (now.1 0)) z.end z.hit; answer = first now.0 }

  -- A call from a state with no byte due, and with the byte of place p due.
  module _ (cs : List Call) (ih : Goes cs) (c : Config ℕ) (k m end v : ℕ) (todo : Plan) (es : Events) (s : Sat given c k) (closes : Closes es) where
    abbrev on : Call → Option ℕ → Type 0
    on call due =
        let st = state_at n S count c (is_due due) k (capped m) end v in
        drop k all ≡ (ran t st (call ∷ cs)).taken → Right (call ∷ cs) due todo.0 k m es (ran t st (call ∷ cs))

    module _ (l : Left t count n S c false end v) (h : Todo given ask k m false c end v todo) (q : Planned none m todo es) where
      carry-right : on carry none
      carry-right =
          let same : k ≡ k + 0 = omega arith in
          let st = state_at n S count c false k (capped m) end v in
          settled-right carry cs ih none k m todo todo es 0 (carry_on t st) (omega arith) refl
          (subst (λ now. Passes now 0 m es) (sym q) (passes es closes 0 m tt))
          (subst (λ k. Settled given ask k todo (carry_on t st)) same (carry-settles given ask c k m end v s todo h l))

      give-refused : (x : ℕ) → on (give x) none
      give-refused x =
          refused-right (give x) cs ih c none k m end v todo es s l h tt q closes (refused 11 0) refl refl _
          (ap (λ r. record { step = r; used = elim (is_refused r.answer) [ true ↦ 0 | false ↦ 1 ] }) (supply-refused given ask c k m end v s x l))

      send-refused : (xs : List ℕ) → on (send xs) none
      send-refused xs =
          let st = state_at n S count c false k (capped m) end v in
          refused-right (send xs) cs ih c none k m end v todo es s l h tt q closes (elim (overlong xs) [ true ↦ refused 15 0 | false ↦ refused 11 0 ])
          (decide (λ a. is_refused a ≡ true) (overlong xs) (refused 15 0) (refused 11 0) (λ _. refl) (λ _. refl)) refl _
          (decide (λ a. supply_packet t st xs ≡ none_used (record { state = st; answer = a })) (overlong xs) (refused 15 0) (refused 11 0)
          (λ e. overlong-refused t st xs e) (λ e. packet-refused given ask c k m end v s l xs e))

    module _ (p : ℕ) (l : Left t count n S c true end v) (h : Todo given ask k m true c end v todo)
        (w : next (of_tables t count S) n c ≡ wants p) (q : Planned (some p) m todo es) where
      abbrev st : Scan
      st = state_at n S count c true k (capped m) end v

      -- A call that uses the byte that is due, and so many in all.
      due-passes : (used : ℕ) → Fetching used (fetch p ∷ todo.0) → Passes (after used (says (fetch p) m todo)) used m es
      due-passes used f =
          let r = q.0 in
          subst (λ es. Passes (after used (says (fetch p) m todo)) used m es) (sym q.1)
          (subst (λ d. Passes (after used (says (fetch p) m d)) used m (fetched p ∷ r)) (sym q.2)
          (passes (fetched p ∷ r) (subst Closes q.1 closes) used m (subst (λ d. Fetching used (fetch p ∷ d.0)) q.2 f)))

      carry-refused-right : on carry (some p)
      carry-refused-right =
          refused-right carry cs ih c (some p) k m end v todo es s l h w q closes (refused 11 0) refl refl _
          (ap none_used (carry-refused given ask c k m end v s todo h l))

      give-right : (x : ℕ) → on (give x) (some p)
      give-right x =
          let r = supply t st x in
          let used : Bool → Delivered = λ b. record { step = r; used = elim b [ true ↦ 0 | false ↦ 1 ] } in
          subst (λ b. drop k all ≡ (joined t (give x) cs (used b)).taken → Right (give x ∷ cs) (some p) todo.0 k m es (joined t (give x) cs (used b)))
          (sym (supply-plain given ask c k m end v s todo h l x)) λ e.
          let z : Settled given ask (k + 1) todo r =
          subst (λ x. Settled given ask (k + 1) todo (supply t st x)) (drop_here all k x (ran t r.state cs).taken e)
          (supply-settles given ask c k m end v s todo h l) in
          settled-right (give x) cs ih (some p) k m todo todo es 1 r (omega arith) refl (due-passes 1 tt) z e

      send-right : (xs : List ℕ) → on (send xs) (some p)
      send-right xs = go (overlong xs) refl
        where
          due : Settled given ask k (says (fetch p) m todo) (record { state = st; answer = fetch p })
          due = record {
            config = c;
            due = true;
            end = end;
            hit = v;
            is = refl;
            sat = s;
            owes = l;
            rest = h;
            turn = refl;
            wanted = λ q e. let same : p ≡ q = cc in cc;
          }

          uses : ℕ → List Said
          uses u = let now = drop u (fetch p ∷ todo.0) in say (first now) u ∷ expected (due_after (first now)) (drop u todo.0) cs

          by : Bool → List Said
          by b = elim b [
            | true ↦ say (refused 15 0) 0 ∷ expected (some p) todo.0 cs
            | false ↦ uses (min (length xs) (descent (suc p) (fetch p ∷ todo.0)))
          ]

          go : (b : Bool) → overlong xs ≡ b → on (send xs) (some p)
          go true o =
              refused-right (send xs) cs ih c (some p) k m end v todo es s l h w q closes (refused 15 0) refl (ap by o) _ (overlong-refused t st xs o)
          go false o =
              let d = feed t (suc p) (record { state = st; answer = fetch p }) xs in
              let is : supply_packet t st xs ≡ d = packet-feeds given ask k p todo.0 (billed m todo.1) (record { state = st; answer = fetch p }) due xs o in
              subst (λ d. drop k all ≡ (joined t (send xs) cs d).taken → Right (send xs ∷ cs) (some p) todo.0 k m es (joined t (send xs) cs d)) (sym is) λ e.
              let f : Fed given ask k (suc p) (says (fetch p) m todo) xs d =
              feed-settles given ask xs (suc p) k (says (fetch p) m todo) _ due (taken-asked d.used k (suc p) xs _ e) in
              settled-right (send xs) cs ih (some p) k m todo (after d.used (says (fetch p) m todo)) es d.used d.step (omega (arith, f.used))
              (ap by o ∙ ap uses (sym f.used) ∙ ap (λ l. let a = first (drop d.used (fetch p ∷ todo.0)) in say a d.used ∷ expected (due_after a) l cs)
              (sym (later-drop d.used (fetch p) todo.0)))
              (due-passes d.used (descent-fetching d.used (suc p) (fetch p ∷ todo.0) (omega (arith, f.used)))) f.step e

  pub calls-right : (cs : List Call) → Goes cs
  calls-right [] c due k m end v todo es s l h w q g e = record {
    said = refl;
    counted = omega arith;
    limited = omega (arith, sat-below given c k s);
    few = subst (λ d. 4 ^ length d.stretches ≤ D) (sym (stands given c (is_due due) k (capped m) end v s)) (sat-few given c k s);
    fetches = refl;
    bill = let none : m + 0 ≡ m = omega arith in rw none refl;
  }
  calls-right (carry ∷ cs) c (some p) k m end v todo es s l h w q g e = carry-refused-right cs (calls-right cs) c k m end v todo es s g p l h w q e
  calls-right (carry ∷ cs) c none k m end v todo es s l h w q g e = carry-right cs (calls-right cs) c k m end v todo es s g l h q e
  calls-right (give x ∷ cs) c (some p) k m end v todo es s l h w q g e = give-right cs (calls-right cs) c k m end v todo es s g p l h w q x e
  calls-right (give x ∷ cs) c none k m end v todo es s l h w q g e = give-refused cs (calls-right cs) c k m end v todo es s g l h q x e
  calls-right (send xs ∷ cs) c (some p) k m end v todo es s l h w q g e = send-right cs (calls-right cs) c k m end v todo es s g p l h w q xs e
  calls-right (send xs ∷ cs) c none k m end v todo es s l h w q g e = send-refused cs (calls-right cs) c k m end v todo es s g l h q xs e
