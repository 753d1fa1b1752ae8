-- Over tables that represent the tokens a packet uses as many bytes as what the rules say next goes down, and answers what comes then.
use Rattle.std.specs.Prelude.{ℕ, zero, suc, ◌+◌, ◌-◌, min, ◌≡◌, refl, Bool, true, false, List, [], ◌∷◌, length}
use Rattle.std.proofs.Common.{arith, ap, sym, subst, ◌∙◌, eqb-true}
use Rattle.std.proofs.Math.Option.{none}
use Rattle.rules.specs.Rules.{Config, place}
use Rattle.rules.proofs.Laws.Tests.{clash}
use Rattle.tables.specs.Tables.{Tables}
use Rattle.tables.specs.Walks.{of_tables}
use Rattle.scan.specs.declared.Scan.{Scan}
use Rattle.scan.specs.State.{config_of, wants_byte}
use Rattle.scan.specs.Calls.{Answer, fetch, found, over, refused, Stepped, judged, supply}
use Rattle.scan.specs.Packets.{Delivered, is_below, none_used, one_more, feed, overlong, supply_packet}
use Rattle.scan.specs.Answers.{first, descent}
use Rattle.scan.specs.Within.{Left}
use Rattle.scan.proofs.Laws.Bill.{Plan, after, capped}
use Rattle.scan.proofs.Laws.Walk.{Given, Sat}
use Rattle.scan.proofs.Laws.Range.{state_at, stands, judged-turn}
use Rattle.scan.proofs.Laws.Settle.{Settled}
use Rattle.scan.proofs.Laws.Turns.{fetch-settles}
use Rattle.scan.proofs.Laws.Singly.{on_below, next_place}

-- What is to come goes down from `last`: the place just below it is fetched first.
pub record Descends (last : ℕ) (todo : List Answer) : Type 0 where
  pub at : ℕ
  pub rest : List Answer
  pub is : todo ≡ fetch at ∷ rest
  pub below : suc at ≡ last
  pub more : descent last todo ≡ suc (descent (last - 1) rest)

abbrev down_by : ℕ → List Answer → Bool → ℕ
down_by last rest b = elim b [ true ↦ suc (descent (last - 1) rest) | false ↦ 0 ]

pub descends : (last : ℕ) (todo : List Answer) → is_below last (first todo) ≡ true → Descends last todo
descends last [] e = absurd (clash false e refl)
descends last (fetch p ∷ rest) e =
    record { at = p; rest = rest; is = refl; below = eqb-true (suc p) last e; more = ap (down_by last rest) e }
descends last (found k i ∷ rest) e = absurd (clash false e refl)
descends last (over ∷ rest) e = absurd (clash false e refl)
descends last (refused k v ∷ rest) e = absurd (clash false e refl)

pub stays_up : (last : ℕ) (todo : List Answer) → is_below last (first todo) ≡ false → descent last todo ≡ 0
stays_up last [] e = refl
stays_up last (fetch p ∷ rest) e = ap (down_by last rest) e
stays_up last (found k i ∷ rest) e = refl
stays_up last (over ∷ rest) e = refl
stays_up last (refused k v ∷ rest) e = refl

module _ {tokens : List (List ℕ)} {S D : ℕ} {t : Tables} {count n : ℕ} (given : Given tokens S D t count n) (ask : ℕ → ℕ → ℕ) where
  -- The bytes that are used are those that are asked for, after k bytes and from the place below `last` down.
  abbrev pub Asked : ℕ → ℕ → ℕ → List ℕ → Type 0
  Asked k last zero xs = Unit {0}
  Asked k last (suc used) [] = Unit {0}
  Asked k last (suc used) (x ∷ xs) = (x ≡ ask k (last - 1)) × Asked (k + 1) (last - 1) used xs

  -- A packet after k bytes uses as many as `todo` goes down from `last`, answers what comes then, and the others are still to come.
  pub record Fed (k last : ℕ) (todo : Plan) (xs : List ℕ) (d : Delivered) : Type 0 where
    pub used : d.used ≡ min (length xs) (descent last todo.0)
    pub step : Settled given ask (k + d.used) (after d.used todo) d.step

  none-fed : (k last : ℕ) (todo : Plan) (xs : List ℕ) (r : Stepped) → Settled given ask k todo r → min (length xs) (descent last todo.0) ≡ 0
      → Fed k last todo xs (none_used r)
  none-fed k last todo xs r z e =
      let same : k ≡ k + 0 = omega arith in
      record { used = sym e; step = subst (λ k. Settled given ask k todo r) same z }

  one-fed : (k last : ℕ) (todo : Plan) (b : Descends last todo.0) (x : ℕ) (xs : List ℕ) (d : Delivered)
      → Fed (k + 1) (last - 1) (b.rest, λ i. todo.1 (suc i)) xs d → Fed k last todo (x ∷ xs) (one_more d)
  one-fed k last todo b x xs d f =
      let sum : k + 1 + d.used ≡ k + suc d.used = omega arith in
      record {
        used = omega (arith, f.used, b.more);
        step = subst (λ l. Settled given ask (k + suc d.used) (after (suc d.used) (l, todo.1)) d.step) (sym b.is)
            (subst (λ k. Settled given ask k (after d.used (b.rest, λ i. todo.1 (suc i))) d.step) sum f.step);
      }

  pub feed-settles : (xs : List ℕ) (last k : ℕ) (todo : Plan) (r : Stepped) → Settled given ask k todo r
      → Asked k last (feed t last r xs).used xs → Fed k last todo xs (feed t last r xs)
  feed-settles [] last k todo r z = λ f. none-fed k last todo [] r z (omega arith)
  feed-settles (x ∷ xs) last k todo r z =
      go (is_below last r.answer) (ap (λ r. is_below last r.answer) z.is) (λ rest. feed-settles xs (last - 1) (k + 1) rest (supply t r.state x))
    where
      next : Delivered
      next = feed t (last - 1) (supply t r.state x) xs

      go : (b : Bool) → b ≡ is_below last (first todo.0)
          → ((rest : Plan) → Settled given ask (k + 1) rest (supply t r.state x) → Asked (k + 1) (last - 1) next.used xs
          → Fed (k + 1) (last - 1) rest xs next)
          → Asked k last (on_below next r b).used (x ∷ xs) → Fed k last todo (x ∷ xs) (on_below next r b)
      go false e ih f = none-fed k last todo (x ∷ xs) r z (omega (arith, stays_up last todo.0 (sym e)))
      go true e ih f =
          let b = descends last todo.0 (sym e) in
          let at : last - 1 ≡ b.at = omega (arith, b.below) in
          let rest : Plan = (b.rest, λ i. todo.1 (suc i)) in
          let settled : Settled given ask (k + 1) rest (supply t r.state x) =
          subst (λ x. Settled given ask (k + 1) rest (supply t r.state x)) (sym (f.0 ∙ ap (ask k) at))
          (fetch-settles given ask k b.at b.rest todo.1 r (subst (λ l. Settled given ask k (l, todo.1) r) b.is z)) in
          one-fed k last todo b x xs next (ih rest settled f.1)

  -- A packet that is not too long, where a place is due, is fed; where none is due, it meets 11.
  pub packet-feeds : (k p : ℕ) (todo : List Answer) (bill : ℕ → ℕ) (r : Stepped) → Settled given ask k (fetch p ∷ todo, bill) r → (xs : List ℕ)
      → overlong xs ≡ false → supply_packet t r.state xs ≡ feed t (suc p) r xs
  packet-feeds k p todo bill r z xs fits =
      subst (λ r. supply_packet t r.state xs ≡ feed t (suc p) r xs) (sym z.is) (go z.due z.turn z.owes)
    where
      at : Bool → Scan
      at due = state_at n S count z.config due k (capped (bill 0)) z.end z.hit

      go : (due : Bool) → true ≡ due → Left t count n S z.config due z.end z.hit
          → supply_packet t (at due) xs ≡ feed t (suc p) (record { state = at due; answer = fetch p }) xs
      go true e l =
          let w = z.wanted p refl in
          let fine : judged t (at true) true ≡ none = judged-turn given z.config true k (capped (bill 0)) z.end z.hit z.sat (omega arith) (ap wants_byte w) l true in
          let here : place (config_of (at true)) ≡ p =
          ap place (stands given z.config true k (capped (bill 0)) z.end z.hit z.sat) ∙ sym (next_place (of_tables t count S) n z.config p w).0 in
          cc (fits, fine, here)
      go false e l = absurd (clash false (sym e) refl)

  pub packet-refused : (c : Config ℕ) (k m end v : ℕ) → Sat given c k → Left t count n S c false end v → (xs : List ℕ) → overlong xs ≡ false
      → supply_packet t (state_at n S count c false k (capped m) end v) xs ≡ none_used (record { state = state_at n S count c false k (capped m) end v; answer = refused 11 0 })
  packet-refused c k m end v s l xs fits = cc (fits, judged-turn given c false k (capped m) end v s (omega arith) refl l true)
