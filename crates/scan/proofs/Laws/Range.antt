-- A state that the calls come to is in range, so that a call is refused only out of turn.
use Rattle.std.specs.Prelude.{ℕ, ◌+◌, ◌-◌, ◌*◌, ◌^◌, ◌≤◌, ◌<◌, min, ◌≡◌, Bool, true, false, ◌||◌, not, List, length}
use Rattle.std.proofs.Common.{arith, mul-le-mul_left, sym, subst}
use Rattle.std.proofs.Math.Option.{some, none}
use Rattle.book.specs.Book.{max_body, max_image}
use Rattle.rules.specs.Rules.{Config, next}
use Rattle.rules.specs.Sweep.{digits4, limit}
use Rattle.rules.specs.Stretches.{stretches_of}
use Rattle.rules.proofs.Laws.Digits.{limit-mono, reached4}
use Rattle.rules.proofs.Laws.Limit.Span.{four-few, short}
use Rattle.rules.proofs.Laws.Image.{stretches-length}
use Rattle.tables.specs.Tables.{Tables}
use Rattle.tables.specs.Walks.{ending, of_tables}
use Rattle.scan.specs.Calls.{refused, out_of_turn, judged}
use Rattle.scan.specs.declared.Scan.{Scan}
use Rattle.scan.specs.State.{config_of, laid, max_stretches, wants_byte, in_range, max_supplied, max_spared}
use Rattle.scan.specs.Within.{Within, Left}
use Rattle.scan.proofs.Laws.Walk.{Given, given-ready, Sat, sat-within}
use Rattle.scan.proofs.Laws.Within.{moved-config, moved-slots, in-range}

-- The state after k bytes were supplied and m taken from stretches, with hits at this end left, that of node v next.
abbrev pub state_at : ℕ → ℕ → ℕ → Config ℕ → Bool → ℕ → ℕ → ℕ → ℕ → Scan
state_at n S count c due k m end v = record {
  image = n;
  shortest = S;
  count = count;
  boundary = c.boundary;
  node = c.node;
  depth = c.depth;
  due = due;
  stretches = laid max_stretches c.stretches;
  supplied = k;
  spared = m;
  end = end;
  hit = v;
}

limit-cap : (n D : ℕ) → 1 ≤ D → D ≤ max_body → n ≤ max_image → limit n D < max_supplied
limit-cap n D h k i =
    let few : digits4 D ≤ 6 = omega (arith, four-few (digits4 D - 1) (omega (arith, reached4 D h))) in
    omega (arith, mul-le-mul_left (4 * n + D) few)

module _ {tokens : List (List ℕ)} {S D : ℕ} {t : Tables} {count n : ℕ} (given : Given tokens S D t count n) where
  pub sat-few : (c : Config ℕ) (k : ℕ) → Sat given c k → 4 ^ length c.stretches ≤ D
  sat-few c k s =
      rw (← stretches-length (ending t) c.stretches)
      (short D c.boundary 0 (stretches_of (ending t) c.stretches) given.long s.fine.held.spans)

  pub sat-below : (c : Config ℕ) (k : ℕ) → Sat given c k → k ≤ limit n D
  sat-below c k s = omega (arith, s.fine.below, limit-mono (min c.boundary n) n D (omega arith))

  pub sat-cap : (c : Config ℕ) (k : ℕ) → Sat given c k → k < max_supplied
  sat-cap c k s = omega (arith, sat-below c k s, limit-cap n D given.long given.short given.image)

  module _ (c : Config ℕ) (due : Bool) (k m end v : ℕ) (s : Sat given c k) where
    -- The state stands at its configuration.
    pub stands : config_of (state_at n S count c due k m end v) ≡ c
    stands = moved-config t (state_at n S count c due k m end v) c (sat-within given c k s)

    module _ (few : m ≤ max_spared) (w : (not due || wants_byte (next (of_tables t count S) n c)) ≡ true) (l : Left t count n S c due end v) where
      sat-range : in_range t (state_at n S count c due k m end v) ≡ true
      sat-range =
          let st = state_at n S count c due k m end v in
          let is = sym stands in
          in-range t st (given-ready given) (omega (arith, sat-cap c k s), few) (moved-slots t st c (sat-within given c k s))
          (subst (Within t count n) is (sat-within given c k s))
          (subst (λ c. (not due || wants_byte (next (of_tables t count S) n c)) ≡ true) is w)
          (subst (λ c. Left t count n S c due end v) is l)

      -- A call is judged by its turn alone.
      pub judged-turn : (turn : Bool)
          → judged t (state_at n S count c due k m end v) turn
          ≡ elim (out_of_turn (state_at n S count c due k m end v) turn) [ true ↦ some (refused 11 0) | false ↦ none ]
      judged-turn turn = cc (given.represents.fine, sat-range)
