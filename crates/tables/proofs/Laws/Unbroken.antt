-- What refusal 9 leaves: tables that pass it are a tree of nodes at most 1,024 deep, by their parents and by their chains.
use Rattle.std.specs.Prelude.{ℕ, zero, suc, ◌+◌, ◌-◌, ◌≤◌, ◌<◌, ◌≡◌, Bool, true, List, [], ◌∷◌, leb, ltb, eqb, length, get_or}
use Rattle.std.proofs.Common.{arith, ap, ◌∙◌, eqb-true, ne_eqb, ltb-true, ltb-false, leb-true, length-drop}
use Rattle.std.proofs.Math.Option.{Option, some, none}
use Rattle.std.proofs.lemmas.Bool.{eqb-false}
use Rattle.book.specs.Book.{max_body}
use Rattle.rules.proofs.Laws.Tests.{decide, Passed, passed, split}
use Rattle.tables.specs.Tables.{Tables, shortest_table}
use Rattle.tables.specs.Walks.{along, child_by, ending, depth, lifted}
use Rattle.tables.specs.Broken.{max_number, max_shift, linked, links, shifts, sound, first_break, broken, max_depth}
use Rattle.tables.proofs.Laws.Shape.{way_step, way-lifts}
use Rattle.tables.specs.Unbroken.{Unbroken}
use Rattle.tables.specs.Shape.{up, tag, head, sib, Falling, num}

module _ (t : Tables) (count : ℕ) where
  each_from : (fuel v : ℕ) → first_break t count fuel v ≡ none → (w : ℕ) → v ≤ w → w < v + fuel → sound t count w ≡ true
  each_from zero v e w a b = absurd (omega arith)
  each_from (suc fuel) v e w a b =
      decide (λ o. o ≡ none → sound t count w ≡ true) (sound t count v) _ _
      (λ p e. split v w (λ q. rw (← q) p) (λ q. each_from fuel (v + 1) e w (omega arith) (omega arith)))
      (λ p e. cc) e

  none-breaks : broken t count ≡ none → (count ≤ shortest_table t) × ((v : ℕ) → v < count → sound t count v ≡ true)
  none-breaks e =
      decide (λ o. o ≡ none → (count ≤ shortest_table t) × ((v : ℕ) → v < count → sound t count v ≡ true))
      (ltb (shortest_table t) count) _ _
      (λ p e. let z : ◌≡◌ {A = ℕ} 0 1 = cc in absurd (omega arith))
      (λ p e. (ltb-false _ _ p, λ v h. each_from count 0 e v (omega arith) (omega arith))) e

  linked-out : (v at p : ℕ) → linked t count v at p ≡ true → 0 < at → (v < at) × (at < count) × (up t at ≡ p)
  linked-out v at p h a =
      let q = passed (ltb v at ∷ ltb at count ∷ eqb (up t at) p ∷ []) (rw (ne_eqb at 0 (λ e. omega arith), linked) at h) in
      (ltb-true v at (q 0), ltb-true at count (q 1), eqb-true (up t at) p (q 2))

  -- the tests of the root, of another node, of a node's shift and of its links
  abbrev root_tests : List Bool
  root_tests = eqb (up t 0) 0 ∷ eqb (tag t 0) 0 ∷ eqb (num t 0) 0 ∷ eqb (sib t 0) 0 ∷ links t count 0 ∷ shifts t 0 ∷ []

  abbrev node_tests : ℕ → List Bool
  node_tests v = ltb (up t v) v ∷ leb (depth t v) max_depth ∷ leb (num t v) max_number ∷ links t count v ∷ shifts t v ∷ []

  abbrev shift_tests : ℕ → List Bool
  shift_tests v = leb 1 (get_or t.shift v 0) ∷ leb (get_or t.shift v 0) max_shift ∷ []

  abbrev link_tests : ℕ → List Bool
  link_tests v = linked t count v (head t v) v ∷ linked t count v (sib t v) (up t v) ∷ []

  module _ (size : 1 ≤ count) (each : (v : ℕ) → v < count → sound t count v ≡ true) where
    root-tests : Passed root_tests
    root-tests = passed root_tests (each 0 size)

    node-tests : (v : ℕ) → 0 < v → v < count → Passed (node_tests v)
    node-tests v a h = passed (node_tests v) (rw (ne_eqb v 0 (λ e. omega arith), sound) at (each v h))

    both-links : (v : ℕ) → v < count → Passed (link_tests v)
    both-links v h = passed (link_tests v) (split v 0 (λ e. rw e (root-tests 4)) (λ e. node-tests v (omega arith) h 3))

    shift-out : (v : ℕ) → v < count → (1 ≤ get_or t.shift v 0) × (get_or t.shift v 0 ≤ max_body)
    shift-out v h =
        let q = passed (shift_tests v) (split v 0 (λ e. rw e (root-tests 5)) (λ e. node-tests v (omega arith) h 4)) in
        (leb-true 1 (get_or t.shift v 0) (q 0), leb-true (get_or t.shift v 0) max_shift (q 1))

    falls : Falling t count
    falls = record {
      size = size;
      root-up = eqb-true (up t 0) 0 (root-tests 0);
      ups = λ v a h. ltb-true (up t v) v (node-tests v a h 0);
    }

    head-out : (v : ℕ) → v < count → 0 < head t v → (v < head t v) × (head t v < count) × (up t (head t v) ≡ v)
    head-out v h = linked-out v (head t v) v (both-links v h 0)

    sib-out : (v : ℕ) → v < count → 0 < sib t v → (v < sib t v) × (sib t v < count) × (up t (sib t v) ≡ up t v)
    sib-out v h = linked-out v (sib t v) (up t v) (both-links v h 1)

    -- what a walk along children of v finds
    abbrev Child : ℕ → ℕ → Option ℕ → Type 0
    Child v x none = Unit {0}
    Child v x (some w) = (0 < w) × (w < count) × (up t w ≡ v) × (tag t w ≡ x)

    along-child : (v x fuel at : ℕ) → (0 < at → (at < count) × (up t at ≡ v)) → Child v x (along t x fuel at)
    along-child v x zero at l = tt
    along-child v x (suc fuel) at l =
        decide (Child v x) (eqb at 0) none _ (λ z. tt)
        (λ z. let a : 0 < at = omega (arith, eqb-false at 0 z) in
        let q = l a in
        decide (Child v x) (eqb (tag t at) x) (some at) _ (λ y. (a, q.0, q.1, eqb-true (tag t at) x y))
        (λ y. along-child v x fuel (sib t at) (λ b. let r = sib-out at q.0 b in (r.1, r.2 ∙ q.1))))

    child-out : (v x w : ℕ) → v < count → child_by t count v x ≡ some w → (w < count) × (ending t w ≡ x ∷ ending t v)
    child-out v x w h e =
        let c : Child v x (some w) = rw e at (along-child v x count (head t v) (λ a. let r = head-out v h a in (r.1, r.2))) in
        (c.1, cc (way_step t count falls w c.0 c.1))

    lift-out : (j v : ℕ) → v < count → (lifted t j v < count) × (depth t (lifted t j v) ≡ depth t v - j)
    lift-out j v h = let q = way-lifts t count falls j v h in (q.0, ap length q.1 ∙ length-drop j (ending t v))

  pub unbroken : 1 ≤ count → broken t count ≡ none → Unbroken t count
  unbroken size e =
      let p = none-breaks e in
      let each = p.1 in
      record {
        held = p.0;
        each = each;
        falling = falls size each;
        step = way_step t count (falls size each);
        deep = λ v h. split v 0 (λ z. rw z (omega arith)) (λ z. leb-true (depth t v) max_depth (node-tests size each v (omega arith) h 1));
        lift = lift-out size each;
        heads = head-out size each;
        sibs = sib-out size each;
        child = child-out size each;
        grows = λ v x w h e. ap length (child-out size each v x w h e).1;
        shifts = shift-out size each;
      }
