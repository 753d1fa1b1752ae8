-- The sweep of one unchanging image by single bytes, and by packets, answers what the rules say, call by call.
use Rattle.std.specs.Prelude.{ℕ, zero, suc, ◌+◌, ◌-◌, ◌≤◌, ◌≡◌, refl, Bool, true, false, List, [], ◌∷◌, ◌++◌, length, get_or, take, drop}
use Rattle.std.proofs.Common.{arith, ap, sym, subst, ◌∙◌, le-ltb, eq-eqb, length-drop}
use Rattle.std.proofs.Math.Seq.{take-nil}
use Rattle.rules.specs.Rules.{Event, fetched, recalled, hit, shifted, done}
use Rattle.rules.specs.Sweep.{bytes_of, places, hits}
use Rattle.rules.proofs.Laws.Limit.Ends.{Whole}
use Rattle.tables.specs.Tables.{Tables}
use Rattle.scan.specs.Calls.{Answer, fetch, found, over, refused, Stepped}
use Rattle.scan.specs.Packets.{is_below, feed, max_packet, supply_packet}
use Rattle.scan.specs.Answers.{answers, first, descent, places_in, hits_in}
use Rattle.scan.proofs.Laws.Bill.{Plan, skipped, capped}
use Rattle.scan.proofs.Laws.Walk.{Given}
use Rattle.scan.proofs.Laws.Settle.{Settled}
use Rattle.scan.proofs.Laws.Turns.{fetch-settles, hit-settles}
use Rattle.scan.proofs.Laws.Feeds.{descends, stays_up, Asked, Fed, feed-settles, packet-feeds}
use Rattle.demands.specs.Demand2.{swept, swept_to, packet_for, fetched_from, sent, Lengths}

-- Answers to a whole sweep: places and hits, then done.
abbrev pub Ends : List Answer → Type 0
Ends [] = ⊥
Ends (fetch p ∷ todo) = Ends todo
Ends (found e i ∷ todo) = Ends todo
Ends (over ∷ todo) = todo ≡ []
Ends (refused k v ∷ todo) = ⊥

-- Such are the answers of a whole sweep, with the places and the hits of its events.
module _ {E : Type 0} where
  pub answers-end : (es : List (Event E)) → Whole es → Ends (answers es)
  answers-end [] w = w
  answers-end (fetched p ∷ es) w = answers-end es w
  answers-end (recalled p ∷ es) w = answers-end es w
  answers-end (hit e i ∷ es) w = answers-end es w
  answers-end (shifted b ss ∷ es) w = answers-end es w
  answers-end (done ∷ es) w = refl

  pub answers-places : (es : List (Event E)) → Whole es → places_in (answers es) ≡ places es
  answers-places [] w = refl
  answers-places (fetched p ∷ es) w = cc (answers-places es w)
  answers-places (recalled p ∷ es) w = answers-places es w
  answers-places (hit e i ∷ es) w = answers-places es w
  answers-places (shifted b ss ∷ es) w = answers-places es w
  answers-places (done ∷ es) w = rw w refl

  pub answers-hits : (es : List (Event E)) → Whole es → hits_in (answers es) ≡ hits es
  answers-hits [] w = refl
  answers-hits (fetched p ∷ es) w = answers-hits es w
  answers-hits (recalled p ∷ es) w = answers-hits es w
  answers-hits (hit e i ∷ es) w = cc (answers-hits es w)
  answers-hits (shifted b ss ∷ es) w = answers-hits es w
  answers-hits (done ∷ es) w = rw w refl

pub ends-over : (todo : List Answer) → Ends todo → (before : List Answer) × (todo ≡ before ++ (over ∷ []))
ends-over [] h = absurd h
ends-over (fetch p ∷ todo) h = let r = ends-over todo h in (fetch p ∷ r.0, cc r.1)
ends-over (found e i ∷ todo) h = let r = ends-over todo h in (found e i ∷ r.0, cc r.1)
ends-over (over ∷ todo) h = ([], cc)
ends-over (refused k v ∷ todo) h = absurd h

module _ {tokens : List (List ℕ)} {S D : ℕ} {t : Tables} {count n : ℕ} (given : Given tokens S D t count n) (image : List ℕ) where
  abbrev ask : ℕ → ℕ → ℕ
  ask = bytes_of image

  answer : {k : ℕ} {todo : Plan} {r : Stepped} → Settled given ask k todo r → r.answer ≡ first todo.0
  answer z = ap (λ r. r.answer) z.is

  abbrev Goes : ℕ → Type 0
  Goes calls = (k : ℕ) (todo : List Answer) (bill : ℕ → ℕ) → Ends todo → (r : Stepped) → Settled given ask k (todo, bill) r
      → swept t image calls r ≡ take calls todo

  pub swept-right : (calls : ℕ) → Goes calls
  swept-right zero k todo bill h r z = refl
  swept-right (suc calls) k [] bill h r z = absurd h
  swept-right (suc calls) k (fetch p ∷ todo) bill h r z =
      rw (answer z) (ap (λ l. fetch p ∷ l) (swept-right calls (k + 1) todo (λ i. bill (suc i)) h _ (fetch-settles given ask k p todo bill r z)))
  swept-right (suc calls) k (found e i ∷ todo) bill h r z =
      rw (answer z) (ap (λ l. found e i ∷ l) (swept-right calls k todo (λ i. bill (suc i)) h _ (hit-settles given ask k e i todo bill r z)))
  swept-right (suc calls) k (over ∷ todo) bill h r z = rw (answer z) (ap (λ l. over ∷ l) (sym (ap (take calls) h ∙ take-nil calls)))
  swept-right (suc calls) k (refused x v ∷ todo) bill h r z = absurd h

  -- The last state has the whole bill, if that is the same from the last answer on.
  abbrev Bills : ℕ → Type 0
  Bills calls = (k : ℕ) (todo : List Answer) (bill : ℕ → ℕ) → Ends todo → length todo ≤ suc calls → (all : ℕ)
      → ((i : ℕ) → length todo ≤ suc i → bill i ≡ all) → (r : Stepped) → Settled given ask k (todo, bill) r
      → (swept_to t image calls r).spared ≡ capped all

  now-billed : {k : ℕ} {todo : Plan} {r : Stepped} → Settled given ask k todo r → r.state.spared ≡ capped (todo.1 0)
  now-billed z = ap (λ r. r.state.spared) z.is

  pub bills-right : (calls : ℕ) → Bills calls
  bills-right zero k todo bill h few all f r z = now-billed z ∙ ap capped (f 0 few)
  bills-right (suc calls) k [] bill h few all f r z = absurd h
  bills-right (suc calls) k (fetch p ∷ todo) bill h few all f r z =
      rw (answer z) (bills-right calls (k + 1) todo (λ i. bill (suc i)) h (omega arith) all (λ i l. f (suc i) (omega arith)) _
      (fetch-settles given ask k p todo bill r z))
  bills-right (suc calls) k (found e i ∷ todo) bill h few all f r z =
      rw (answer z) (bills-right calls k todo (λ i. bill (suc i)) h (omega arith) all (λ i l. f (suc i) (omega arith)) _
      (hit-settles given ask k e i todo bill r z))
  bills-right (suc calls) k (over ∷ todo) bill h few all f r z =
      rw (answer z) (now-billed z ∙ ap capped (f 0 (rw h (omega arith))))
  bills-right (suc calls) k (refused x v ∷ todo) bill h few all f r z = absurd h

  -- A packet has the image's bytes, as many as it should, and one at least.
  at : (last p : ℕ) → last ≡ suc p → get_or image p 0 ≡ get_or image (last - 1) 0
  at last p e = let same : p ≡ last - 1 = omega (arith, e) in ap (λ p. get_or image p 0) same

  packet-asked : (size p last k used : ℕ) → last ≡ suc p → Asked given ask k last used (packet_for image p size)
  packet-asked size p last k zero e = tt
  packet-asked zero p last k (suc used) e = tt
  packet-asked (suc size) zero last k (suc zero) e = (at last 0 e, tt)
  packet-asked (suc size) zero last k (suc (suc used)) e = (at last 0 e, tt)
  packet-asked (suc size) (suc p) last k (suc used) e = (at last (suc p) e, packet-asked size p (last - 1) (k + 1) used (omega (arith, e)))

  packet-length : (size p : ℕ) → (length (packet_for image p size) ≤ size) × (1 ≤ size → 1 ≤ length (packet_for image p size))
  packet-length zero p = (omega arith, λ h. h)
  packet-length (suc size) zero = (omega arith, λ h. omega arith)
  packet-length (suc size) (suc p) = (omega (arith, (packet-length size p).0), λ h. omega arith)

  -- What goes down from `last` begins with these places.
  goes_down : (used last : ℕ) (todo : List Answer) → used ≤ descent last todo → todo ≡ fetched_from (last - 1) used ++ drop used todo
  goes_down zero last todo h = refl
  goes_down (suc used) last todo h = go (is_below last (first todo)) refl (goes_down used (last - 1))
    where
      go : (b : Bool) → is_below last (first todo) ≡ b
          → ((rest : List Answer) → used ≤ descent (last - 1) rest → rest ≡ fetched_from (last - 1 - 1) used ++ drop used rest)
          → todo ≡ fetched_from (last - 1) (suc used) ++ drop (suc used) todo
      go true e ih =
          let b = descends last todo e in
          let at : b.at ≡ last - 1 = omega (arith, b.below) in
          b.is ∙ ap (λ p. fetch p ∷ b.rest) at ∙ ap (λ l. fetch (last - 1) ∷ l) (ih b.rest (omega (arith, b.more)))
          ∙ ap (λ l. fetched_from (last - 1) (suc used) ++ drop (suc used) l) (sym b.is)
      go false e ih = absurd (omega (arith, stays_up last todo e))

  ends-later : (used p : ℕ) (rest : List Answer) → Ends (fetched_from p used ++ rest) → Ends rest
  ends-later zero p rest h = h
  ends-later (suc used) p rest h = ends-later used (p - 1) rest h

  abbrev Sends : ℕ → Type 0
  Sends calls = (size : ℕ → ℕ) → Lengths size → (k : ℕ) (todo : List Answer) (bill : ℕ → ℕ) → Ends todo → length todo ≤ calls → (r : Stepped)
      → Settled given ask k (todo, bill) r → sent t image size calls r ≡ todo

  packet-sent : (calls : ℕ) → Sends calls → (size : ℕ → ℕ) → Lengths size → (k p : ℕ) (todo : List Answer) (bill : ℕ → ℕ) → Ends todo
      → length todo ≤ calls → (r : Stepped) → Settled given ask k (fetch p ∷ todo, bill) r
      → (let d = supply_packet t r.state (packet_for image p (size 0)) in
      fetched_from p d.used ++ sent t image (λ i. size (suc i)) calls d.step) ≡ fetch p ∷ todo
  packet-sent calls ih size sizes k p todo bill h few r z =
      let xs = packet_for image p (size 0) in
      let long = packet-length (size 0) p in
      let d = feed t (suc p) r xs in
      let f : Fed given ask k (suc p) (fetch p ∷ todo, bill) xs d =
      feed-settles given ask xs (suc p) k (fetch p ∷ todo, bill) r z (packet-asked (size 0) p (suc p) k d.used refl) in
      let b = descends (suc p) (fetch p ∷ todo) (eq-eqb (suc p) (suc p) refl) in
      let same : suc p - 1 ≡ p = omega arith in
      let down : fetch p ∷ todo ≡ fetched_from p d.used ++ drop d.used (fetch p ∷ todo) =
      goes_down d.used (suc p) (fetch p ∷ todo) (omega (arith, f.used))
      ∙ ap (λ p'. fetched_from p' d.used ++ drop d.used (fetch p ∷ todo)) same in
      let some : 1 ≤ d.used = omega (arith, f.used, b.more, long.1 (sizes 0).0) in
      let rest = ih (λ i. size (suc i)) (λ i. sizes (suc i)) (k + d.used) (drop d.used (fetch p ∷ todo))
      (skipped d.used bill) (ends-later d.used p _ (subst Ends down h)) (rw (length-drop d.used (fetch p ∷ todo)) (omega arith)) d.step f.step in
      ap (λ d. fetched_from p d.used ++ sent t image (λ i. size (suc i)) calls d.step)
      (packet-feeds given ask k p todo bill r z xs (le-ltb max_packet (length xs) (omega (arith, long.0, (sizes 0).1))))
      ∙ ap (λ l. fetched_from p d.used ++ l) rest ∙ sym down

  pub sent-right : (calls : ℕ) → Sends calls
  sent-right zero size sizes k [] bill h few r z = absurd h
  sent-right zero size sizes k (a ∷ todo) bill h few r z = absurd (omega arith)
  sent-right (suc calls) size sizes k [] bill h few r z = absurd h
  sent-right (suc calls) size sizes k (fetch p ∷ todo) bill h few r z =
      rw (answer z) (packet-sent calls (sent-right calls) size sizes k p todo bill h (omega arith) r z)
  sent-right (suc calls) size sizes k (found e i ∷ todo) bill h few r z =
      rw (answer z) (ap (λ l. found e i ∷ l)
      (sent-right calls (λ i. size (suc i)) (λ i. sizes (suc i)) k todo (λ i. bill (suc i)) h (omega arith) _ (hit-settles given ask k e i todo bill r z)))
  sent-right (suc calls) size sizes k (over ∷ todo) bill h few r z = rw (answer z, h) refl
  sent-right (suc calls) size sizes k (refused x v ∷ todo) bill h few r z = absurd h
