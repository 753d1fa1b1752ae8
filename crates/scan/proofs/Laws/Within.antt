-- A state in its ranges, as propositions: what the tests of refusal 10 say, over any tables that pass refusal 9.
use Rattle.std.specs.Prelude.{ℕ, zero, suc, ◌+◌, ◌-◌, ◌*◌, ◌≤◌, ◌<◌, ◌≡◌, refl, Bool, true, false, ◌&&◌, not, List, [], ◌∷◌, leb, ltb, eqb, length, get_or}
use Rattle.std.proofs.Common.{arith, ap, sym, subst, ◌∙◌, lt-ltb, le-leb, eq-eqb, ne_eqb, ltb-true, leb-true, eqb-true}
use Rattle.std.proofs.Math.Option.{Option, none}
use Rattle.std.proofs.lemmas.Bool.{eqb-false, not-true}
use Rattle.rules.specs.Rules.{Stretch, Config, kept}
use Rattle.rules.specs.Lists.{All}
use Rattle.rules.specs.Stretches.{Spans, Upto}
use Rattle.rules.proofs.Laws.Tests.{and_l, and_r, passed}
use Rattle.rules.proofs.Laws.Limit.Span.{four-few, short}
use Rattle.book.specs.Book.{max_body, max_image}
use Rattle.tables.specs.Tables.{Tables}
use Rattle.tables.specs.Walks.{depth, shift_from}
use Rattle.tables.specs.Broken.{broken}
use Rattle.tables.specs.Unbroken.{Unbroken}
use Rattle.tables.proofs.Laws.Unbroken.{unbroken}
use Rattle.scan.specs.declared.Scan.{Scan}
use Rattle.scan.specs.State.{config_of, used, laid, slots_ok, max_nodes, max_shortest, farthest, max_supplied, max_spared, max_stretches, count_ok, image_ok, shortest_ok, node_ok, boundary_ok, supplied_ok, spared_ok, stretch_ok, rising, stretches_ok, due_ok, up_to, end_ok, hit_ok, left_ok, in_range, same_slots}
use Rattle.scan.specs.Calls.{moved, owing}
use Rattle.scan.proofs.Laws.Slots.{Real, right-real, used-laid, same-slots}
use Rattle.scan.specs.Within.{Ready, Counts, Fits, Within, Pending, Left, LeftFor}

-- Whatever the entries, a shift is 1 to S.
pub shift-bounds : {t : Tables} {count n S : ℕ} → Ready t count n S → (v : ℕ) (o : Option ℕ) → v < count
    → (1 ≤ shift_from t count S v o) × (shift_from t count S v o ≤ S)
shift-bounds r v o h = omega (arith, r.positive, r.tree.shifts v h)

-- Stretches in range fit the slots of a state.
spans-real : (b lo : ℕ) (ms : List (Stretch ℕ)) → Spans max_body b lo ms → All Real ms
spans-real b lo [] p = tt
spans-real b lo (m ∷ ms) p = (right-real m (omega (arith, p.1, p.3)), spans-real b m.right ms p.4)

module _ (t : Tables) (s : Scan) (c : Config ℕ) (w : Within t s.count s.image c) where
  five : length c.stretches ≤ max_stretches
  five = four-few (length c.stretches) (short max_body c.boundary 0 c.stretches (omega arith) w.held.spans)

  -- A state that is moved to a configuration in range stands there.
  pub moved-config : config_of (moved s c) ≡ c
  moved-config =
      ap (λ ms. record { boundary = c.boundary; node = c.node; depth = c.depth; stretches = ms })
      (used-laid max_stretches c.stretches (spans-real c.boundary 0 c.stretches w.held.spans) five)

  pub moved-slots : slots_ok (moved s c) ≡ true
  moved-slots =
      let ms = laid max_stretches c.stretches in
      ap (λ d. same_slots ms (laid max_stretches d.stretches)) moved-config ∙ same-slots ms

upto_true : (n : ℕ) (ms : List (Stretch ℕ)) → Upto n ms → up_to n ms ≡ true
upto_true n [] u = refl
upto_true n (m ∷ ms) u = cc (le-leb m.right n u.0, upto_true n ms u.1)

upto-out : (n : ℕ) (ms : List (Stretch ℕ)) → up_to n ms ≡ true → Upto n ms
upto-out n [] h = tt
upto-out n (m ∷ ms) h = (leb-true m.right n (and_l _ _ h), upto-out n ms (and_r (leb m.right n) _ h))

module _ (t : Tables) (s : Scan) where
  abbrev left_by : ℕ → Bool
  left_by v = elim v [ zero ↦ eqb s.end 0 | suc w ↦ hit_ok t s && end_ok s ]

  pub left-true : LeftFor t s → left_ok t s ≡ true
  left-true l = go s.hit refl
    where
      go : (v : ℕ) → s.hit ≡ v → left_by v ≡ true
      go zero e = eq-eqb s.end 0 (l.none e)
      go (suc v) e =
          let p = l.some (omega arith) in
          cc (
            lt-ltb s.hit s.count p.below,
            ne_eqb (get_or t.token s.hit 0) 0 (λ z. omega (arith, p.marked)),
            le-leb (depth t s.hit) s.end p.deep,
            le-leb s.end s.image p.inside,
            lt-ltb s.end s.boundary p.before,
            le-leb s.boundary (s.end + s.shortest) p.near,
            eq-eqb s.node 0 p.root,
            l.idle (omega arith),
            upto_true s.end (used s.stretches) p.upto,
          )

  abbrev hit_tests : List Bool
  hit_tests = ltb s.hit s.count ∷ not (eqb (get_or t.token s.hit 0) 0) ∷ leb (depth t s.hit) s.end ∷ []

  abbrev end_tests : List Bool
  end_tests =
      leb s.end s.image ∷ ltb s.end s.boundary ∷ leb s.boundary (s.end + s.shortest)
      ∷ eqb s.node 0 ∷ not s.due ∷ up_to s.end (used s.stretches) ∷ []

  pub left_out : left_ok t s ≡ true → LeftFor t s
  left_out h = record {
    none = λ e. go s.hit e h;
    some = λ a. pending s.hit a h;
    idle = λ a. idle s.hit a h;
  }
    where
      go : (v : ℕ) → v ≡ 0 → left_by v ≡ true → s.end ≡ 0
      go zero e h = eqb-true s.end 0 h
      go (suc v) e h = absurd (omega arith)

      pending : (v : ℕ) → 0 < v → left_by v ≡ true → Pending t s.count s.image s.shortest (config_of s) s.end s.hit
      pending zero a h = absurd (omega arith)
      pending (suc v) a h =
          let p = passed hit_tests (and_l (hit_ok t s) (end_ok s) h) in
          let q = passed end_tests (and_r (hit_ok t s) (end_ok s) h) in
          record {
            below = ltb-true s.hit s.count (p 0);
            marked = omega (arith, eqb-false (get_or t.token s.hit 0) 0 (not-true _ (p 1)));
            deep = leb-true (depth t s.hit) s.end (p 2);
            inside = leb-true s.end s.image (q 0);
            before = ltb-true s.end s.boundary (q 1);
            near = leb-true s.boundary (s.end + s.shortest) (q 2);
            root = eqb-true s.node 0 (q 3);
            upto = upto-out s.end (used s.stretches) (q 5);
          }

      idle : (v : ℕ) → 0 < v → left_by v ≡ true → s.due ≡ false
      idle zero a h = absurd (omega arith)
      idle (suc v) a h = not-true _ (passed end_tests (and_r (hit_ok t s) (end_ok s) h) 4)

module _ (t : Tables) (s : Scan) where
  rising-true : (lo : ℕ) (ms : List (Stretch ℕ)) → All (Fits t s.count) ms
      → Spans max_body s.boundary lo ms → Upto s.image ms → rising t s lo ms ≡ true
  rising-true lo [] a p u = refl
  rising-true lo (m ∷ ms) a p u =
      let b = s.boundary in
      cc (
        le-leb lo m.left (omega arith),
        lt-ltb m.left m.right (omega arith),
        le-leb m.right s.image (omega arith),
        lt-ltb m.right b (omega arith),
        lt-ltb m.node s.count (omega arith),
        eq-eqb (depth t m.node) (m.right - m.left) a.0.1,
        le-leb (4 * (b - m.right)) (m.right - m.left) (omega arith),
        rising-true m.right ms a.1 p.4 u.1,
      )

  -- The tests pass.
  pub in-range : Ready t s.count s.image s.shortest → Counts s → slots_ok s ≡ true
      → Within t s.count s.image (config_of s) → due_ok t s ≡ true → LeftFor t s → in_range t s ≡ true
  in-range r k slots w due left =
      let c = config_of s in
      cc (
        le-leb 1 s.count r.tree.falling.size,
        le-leb s.count max_nodes r.nodes,
        le-leb s.image max_image r.image,
        le-leb 1 s.shortest r.positive,
        le-leb s.shortest max_shortest r.first,
        lt-ltb c.node s.count w.node,
        eq-eqb (depth t c.node) c.depth w.held.sized,
        le-leb c.depth c.boundary w.held.inside,
        le-leb c.boundary (farthest s.image) w.near,
        le-leb s.supplied max_supplied k.0,
        le-leb s.spared max_spared k.1,
        slots,
        rising-true 0 c.stretches w.fits w.held.spans w.upto,
        due,
        left-true t s left,
      )

  -- And what they say when they pass.
  abbrev tests : List Bool
  tests =
      count_ok s ∷ image_ok s ∷ shortest_ok s ∷ node_ok t s ∷ boundary_ok s ∷ supplied_ok s ∷ spared_ok s ∷ stretches_ok t s ∷ due_ok t s ∷ left_ok t s ∷ []

  abbrev stretch_tests : Stretch ℕ → List Bool
  stretch_tests m =
      ltb m.left m.right ∷ leb m.right s.image ∷ ltb m.right s.boundary
      ∷ ltb m.node s.count ∷ eqb (depth t m.node) (m.right - m.left) ∷ kept s.boundary m ∷ []

  rising-out : Unbroken t s.count → (lo : ℕ) (ms : List (Stretch ℕ)) → rising t s lo ms ≡ true
      → All (Fits t s.count) ms × Spans max_body s.boundary lo ms × Upto s.image ms
  rising-out u lo [] h = (tt, tt, tt)
  rising-out u lo (m ∷ ms) h =
      let b = s.boundary in
      let p = passed (leb lo m.left ∷ stretch_ok t s m ∷ rising t s m.right ms ∷ []) h in
      let q = passed (stretch_tests m) (p 1) in
      let r = rising-out u m.right ms (p 2) in
      let some-length = ltb-true m.left m.right (q 0) in
      let before = ltb-true m.right b (q 2) in
      let node = ltb-true m.node s.count (q 3) in
      let long = eqb-true (depth t m.node) (m.right - m.left) (q 4) in (
        ((node, long), r.0),
        (
          leb-true lo m.left (p 0),
          before,
          omega (arith, u.deep m.node node),
          omega (arith, leb-true (4 * (b - m.right)) (m.right - m.left) (q 5)),
          r.1,
        ),
        (leb-true m.right s.image (q 1), r.2),
      )

  module _ (h : in_range t s ≡ true) where
    pub ready : broken t s.count ≡ none → Ready t s.count s.image s.shortest
    ready e =
        let p = passed tests h in
        let count = passed (leb 1 s.count ∷ leb s.count max_nodes ∷ []) (p 0) in
        let shortest = passed (leb 1 s.shortest ∷ leb s.shortest max_shortest ∷ []) (p 2) in
        record {
          tree = unbroken t s.count (leb-true 1 s.count (count 0)) e;
          nodes = leb-true s.count max_nodes (count 1);
          image = leb-true s.image max_image (p 1);
          positive = leb-true 1 s.shortest (shortest 0);
          first = leb-true s.shortest max_shortest (shortest 1);
        }

    pub slots : slots_ok s ≡ true
    slots = passed (slots_ok s ∷ rising t s 0 (used s.stretches) ∷ []) (passed tests h 7) 0

    pub counts : Counts s
    counts = (leb-true s.supplied max_supplied (passed tests h 5), leb-true s.spared max_spared (passed tests h 6))

    pub dues : due_ok t s ≡ true
    dues = passed tests h 8

    pub lefts : left_ok t s ≡ true
    lefts = passed tests h 9

    pub within : Unbroken t s.count → Within t s.count s.image (config_of s)
    within u =
        let c = config_of s in
        let p = passed tests h in
        let node = passed (ltb c.node s.count ∷ eqb (depth t c.node) c.depth ∷ []) (p 3) in
        let bounds = passed (leb c.depth c.boundary ∷ leb c.boundary (farthest s.image) ∷ []) (p 4) in
        let stretches = passed (slots_ok s ∷ rising t s 0 c.stretches ∷ []) (p 7) in
        let below = ltb-true c.node s.count (node 0) in
        let sized = eqb-true (depth t c.node) c.depth (node 1) in
        let r = rising-out u 0 c.stretches (stretches 1) in
        record {
          node = below;
          held = record {
            sized = sized;
            deep = omega (arith, u.deep c.node below);
            inside = leb-true c.depth c.boundary (bounds 0);
            spans = r.1;
          };
          near = leb-true c.boundary (farthest s.image) (bounds 1);
          fits = r.0;
          upto = r.2;
        }

-- Hits that are left, or none.
pub owing-left : (t : Tables) (count n S : ℕ) (c : Config ℕ) (due : Bool) → due ≡ false → (end v : ℕ)
    → (0 < v → Pending t count n S c end v) → Left t count n S c due (elim v [ zero ↦ 0 | suc w ↦ end ]) v
owing-left t count n S c due idle end zero p = record { none = λ _. refl; some = λ a. absurd (omega arith); idle = λ _. idle }
owing-left t count n S c due idle end (suc v) p = record { none = λ e. absurd (omega arith); some = p; idle = λ _. idle }

-- The tests pass where a state that waits for no byte is moved to a configuration in range, with hits in range left.
pub owing-range : (t : Tables) (s : Scan) → Ready t s.count s.image s.shortest → Counts s
    → (c : Config ℕ) → Within t s.count s.image c → s.due ≡ false → (end v : ℕ)
    → (0 < v → Pending t s.count s.image s.shortest c end v) → in_range t (owing (moved s c) end v) ≡ true
owing-range t s r k c w idle end v p =
    let stands = sym (moved-config t s c w) in
    in-range t (owing (moved s c) end v) r k (moved-slots t s c w) (subst (Within t s.count s.image) stands w) (cc idle)
    (subst (λ c. Left t s.count s.image s.shortest c s.due (elim v [ zero ↦ 0 | suc w ↦ end ]) v) stands
    (owing-left t s.count s.image s.shortest c s.due idle end v p))
