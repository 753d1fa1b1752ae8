-- Runs of equal bytes in the image, and the powers of a run's byte.
use Prim.Native.Nat.{ℕ, zero, suc, ◌+◌, ◌-◌, ◌≤◌, ◌<◌}
use native.Mathlib.Omega.{arith}
use mathlib.Core.Path.{◌≡◌, refl, ap, sym, subst, ◌∙◌}
use mathlib.Core.Bool.{Bool, true, false}
use mathlib.Core.List.{List, ◌∷◌}
use borrow.Author.Tests.{ltb-true, ltb-false, eqb-true}
use lib.Dec.{ltb, eqb}
use lib.ListN.{length, get_or, set, length-set}
use lib.Seq.{get_or-set_same, get_or-set_other}
use Rattle.rules.proofs.Laws.Tests.{split, decide, clash}
use Rattle.book.specs.Book.{max_body}
use Rattle.tables.specs.Walks.{child_by}
use Rattle.std.specs.Prelude.{Option, Some, None}
use Rattle.rules.specs.Options.{option_of}
use Rattle.tables.specs.Tables.{Tables}
use Rattle.image.specs.declared.runs.Runs.{Runs}
use Rattle.image.specs.Rounds.{meeting}
use Rattle.image.specs.Walk.{Walkable, newest}
use Rattle.image.specs.Runs.{Equal, Powers, Followed}
use Rattle.image.proofs.Laws.WalkChildren.{child-in, child-below}
use Rattle.image.proofs.Laws.WalkDescend.{newest-length, meeting-few}

module _ (image : List ℕ) (b : ℕ) where
  -- One byte is a run.
  pub equal-one : Equal image (b - 1) b
  equal-one j h k = ap (λ m. get_or image m 0) (omega arith)

  -- The byte before a run is the run's.
  pub equal-more : (i : ℕ) → Equal image i b → get_or image (i - 1) 0 ≡ get_or image (b - 1) 0 → Equal image (i - 1) b
  equal-more i f e j h k = split j (i - 1) (λ q. ap (λ m. get_or image m 0) q ∙ e) (λ n. f j (omega arith) k)

  -- A run of the same byte ends where this one begins.
  pub equal-joined : (from till i : ℕ) → Equal image from till → Equal image i b → i ≡ till → get_or image (i - 1) 0 ≡ get_or image (b - 1) 0
      → Equal image from b
  equal-joined from till i f g q e j h k =
      decide {X = Bool} (λ _. get_or image j 0 ≡ get_or image (b - 1) 0) (ltb j till) true false
      (λ t. f j h (ltb-true j till t) ∙ ap (λ m. get_or image (m - 1) 0) (sym q) ∙ e) (λ t. g j (omega (arith, ltb-false j till t)) k)

-- Lists with the same n first entries have the same fewer ones.
newest-less : (l k : List ℕ) (m n : ℕ) → m ≤ n → newest l n ≡ newest k n → newest l m ≡ newest k m
newest-less l k m zero h e = let z : m ≡ 0 = omega arith in rw z refl
newest-less l k m (suc n) h e = split m (suc n) (λ q. rw q e) (λ q. newest-less l k m n (omega arith) (cc))

-- What is kept behind n numbers leaves them.
kept_same : (l k : List ℕ) (n t r : ℕ) → r ≡ length (meeting (newest l n) t) → newest k r ≡ meeting (newest l n) t → newest k n ≡ newest l n
kept_same l k n zero r e q = ap (newest k) (sym (e ∙ newest-length l n)) ∙ q
kept_same l k n (suc t) r e q =
    let p : newest k (suc n) ≡ suc t ∷ newest l n = ap (newest k) (sym (e ∙ ap suc (newest-length l n))) ∙ q in cc

meeting-more : (m : List ℕ) (i : ℕ) → length m ≤ length (meeting m i)
meeting-more m zero = omega arith
meeting-more m (suc i) = omega arith

module _ {tables : Tables} {count : ℕ} where
  -- Of a byte no power but the empty word is known.
  powers-none : {x known : ℕ} {ended : Bool} {power upto numbers : List ℕ} (y : ℕ)
      → Powers tables count x known ended power upto numbers → Powers tables count y 0 false power upto numbers
  powers-none y p = record {
    nodes = p.nodes;
    counts = p.counts;
    room = p.room;
    near = omega arith;
    root = p.root;
    empty = p.empty;
    child = λ k h. absurd (omega arith);
    met = λ k h. absurd (omega arith);
    rising = λ k h. let z : k ≡ 0 = omega arith in rw z (omega (arith, p.empty));
    held = λ k h. p.held k (omega arith);
    last = λ e. absurd (clash false e refl);
  }

  -- The powers have not ended.
  pub powers-going : {x known : ℕ} {ended : Bool} {power upto numbers : List ℕ} → ended ≡ false
      → Powers tables count x known ended power upto numbers → Powers tables count x known false power upto numbers
  powers-going {x} {known} {power = power} {upto} {numbers} e p = subst (λ t. Powers tables count x known t power upto numbers) e p

  -- Those of the run's byte, or of another.
  pub powers-switched : (x : ℕ) (runs on : Runs)
      → on ≡ elim (eqb x runs.byte) [ true ↦ runs | false ↦ record runs { from = 0; till = 0; byte = x; known = 0; ended = false } ]
      → Powers tables count runs.byte runs.known runs.ended runs.power runs.upto runs.numbers
      → Powers tables count x on.known on.ended on.power on.upto on.numbers
  powers-switched x runs on e p =
      subst (λ s. Powers tables count x s.known s.ended s.power s.upto s.numbers) (sym e)
      (decide (λ s. Powers tables count x s.known s.ended s.power s.upto s.numbers) (eqb x runs.byte) runs _
      (λ t.
      subst (λ y. Powers tables count y runs.known runs.ended runs.power runs.upto runs.numbers) (sym (eqb-true x runs.byte t)) p)
      (λ t. powers-none x p))

  -- A run that was met, with its byte's powers.
  pub run-followed : (image : List ℕ) (r : Runs) (from b : ℕ) → from < b → Equal image from b
      → (r.from ≡ from) × (r.till ≡ b) × (r.byte ≡ get_or image (b - 1) 0)
      → Powers tables count r.byte r.known r.ended r.power r.upto r.numbers
      → Followed tables count image r
  run-followed image r from b h f e p = record {
    order = omega (arith, e.0, e.1);
    equal = rw (e.0, e.1) f;
    byte = λ _. ap (λ m. get_or image (m - 1) 0) e.1 ∙ sym e.2;
    powers = p;
  }

  -- The child by the byte, at the last power known.
  module _ {x known : ℕ} {power upto numbers : List ℕ} (p : Powers tables count x known false power upto numbers)
      (k : Option ℕ) (found : option_of k ≡ child_by tables count (get_or power known 0) x) where
    -- There is none: the powers end.
    pub powers-end : k ≡ None → Powers tables count x known true power upto numbers
    powers-end e = record {
      nodes = p.nodes;
      counts = p.counts;
      room = p.room;
      near = p.near;
      root = p.root;
      empty = p.empty;
      child = p.child;
      met = p.met;
      rising = p.rising;
      held = p.held;
      last = λ _. child-in tables count (get_or power known 0) x k None found e;
    }

    -- There is one: it is the next power.
    module _ (t : Walkable tables count) (v : ℕ) (e : k ≡ Some v) where
      pub power-held : v < count
      power-held = child-below tables count t (get_or power known 0) x v (p.held known (omega arith)) k found e

      module _ (more : known < max_body) (r : ℕ) (numbers' : List ℕ) (long : r ≡ length (meeting (newest numbers (get_or upto known 0)) (get_or tables.token v 0)))
          (kept : newest numbers' r ≡ meeting (newest numbers (get_or upto known 0)) (get_or tables.token v 0)) (same : length numbers' ≡ length numbers) where
        power-same : (j : ℕ) → j ≤ known → get_or (set power (known + 1) v) j 0 ≡ get_or power j 0
        power-same j h = get_or-set_other power (known + 1) j v 0 (λ q. omega arith)

        power-next : get_or (set power (known + 1) v) (known + 1) 0 ≡ v
        power-next = get_or-set_same power (known + 1) v 0 (omega (arith, p.nodes))

        upto-same : (j : ℕ) → j ≤ known → get_or (set upto (known + 1) r) j 0 ≡ get_or upto j 0
        upto-same j h = get_or-set_other upto (known + 1) j r 0 (λ q. omega arith)

        upto_next : get_or (set upto (known + 1) r) (known + 1) 0 ≡ r
        upto_next = get_or-set_same upto (known + 1) r 0 (omega (arith, p.counts))

        numbers-same : (j : ℕ) → j ≤ known → newest numbers' (get_or upto j 0) ≡ newest numbers (get_or upto j 0)
        numbers-same j h =
            newest-less numbers' numbers (get_or upto j 0) (get_or upto known 0) (p.rising j h).1
            (kept_same numbers numbers' (get_or upto known 0) (get_or tables.token v 0) r long kept)

        -- one token more is met, or none
        grown : (get_or upto known 0 ≤ r) × (r ≤ get_or upto known 0 + 1)
        grown = omega (
          arith,
          long,
          newest-length numbers (get_or upto known 0),
          meeting-more (newest numbers (get_or upto known 0)) (get_or tables.token v 0),
          meeting-few (newest numbers (get_or upto known 0)) (get_or tables.token v 0),
        )

        pub powers-more : Powers tables count x (known + 1) false (set power (known + 1) v) (set upto (known + 1) r) numbers'
        powers-more = record {
          nodes = length-set power (known + 1) v ∙ p.nodes;
          counts = length-set upto (known + 1) r ∙ p.counts;
          room = same ∙ p.room;
          near = omega arith;
          root = power-same 0 (omega arith) ∙ p.root;
          empty = upto-same 0 (omega arith) ∙ p.empty;
          child = λ j h.
              split j known
              (λ q. rw (q, power-same known (omega arith), power-next) (child-in tables count (get_or power known 0) x k (Some v) found e))
              (λ q. rw (power-same j (omega arith), power-same (j + 1) (omega arith)) (p.child j (omega arith)));
          met = λ j h.
              split j known
              (λ q. rw (q, upto_next, upto-same known (omega arith), power-next, numbers-same known (omega arith)) kept)
              (λ q.
              rw (
                upto-same j (omega arith),
                upto-same (j + 1) (omega arith),
                power-same (j + 1) (omega arith),
                numbers-same j (omega arith),
                numbers-same (j + 1) (omega arith),
              ) (p.met j (omega arith)));
          rising = λ j h.
              split j (known + 1)
              (λ q. rw (q, upto_next) (omega (arith, grown, p.rising known (omega arith))))
              (λ q.
              let l : j ≤ known = omega arith in rw (upto-same j l, upto_next) (omega (arith, grown, p.rising j l)));
          held = λ j h.
              split j (known + 1) (λ q. rw (q, power-next) power-held) (λ q.
              let l : j ≤ known = omega arith in rw (power-same j l) (p.held j l));
          last = λ q. absurd (clash false q refl);
        }
