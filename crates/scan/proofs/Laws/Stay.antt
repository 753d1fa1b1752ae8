-- One step of the rules stays in range, over any tables that pass refusal 9, and leaves its hits.
use Rattle.std.specs.Prelude.{ℕ, zero, suc, ◌+◌, ◌-◌, ◌≤◌, ◌<◌, ◌≡◌, refl, List, [], ◌∷◌, ◌++◌, length}
use Rattle.std.proofs.Common.{arith, ap, sym, ◌∙◌}
use Rattle.std.proofs.Math.Option.{Option, some, none}
use Rattle.book.specs.Book.{max_body}
use Rattle.rules.specs.Rules.{Tree, Stretch, Config, Event, shifted, Step, Next, finished, wants, goes, place, hit_at, left_over, cut, kept, hits_up, recall, ended, end_round, taken, take_byte, look, next}
use Rattle.rules.specs.Sweep.{recalls, hits}
use Rattle.rules.specs.Lists.{All}
use Rattle.rules.specs.Configs.{steps_left}
use Rattle.rules.proofs.Laws.Tests.{next-cases}
use Rattle.rules.proofs.Laws.Hits.{end-events, end-recalls}
use Rattle.rules.proofs.Laws.All.{all_append, all-select}
use Rattle.rules.proofs.Laws.Limit.{ended-laid}
use Rattle.rules.proofs.Laws.Limit.Span.{cut-ge, kept_spans, kept-upto}
use Rattle.rules.proofs.Laws.Limit.Ends.{less-end, less-deeper}
use Rattle.tables.specs.Tables.{Tables}
use Rattle.tables.specs.Walks.{child_by, depth, carrier, of_tables}
use Rattle.tables.specs.Shape.{up, Falling, num}
use Rattle.tables.proofs.Laws.Hits.{hits-climb, Carries, carrier-carries}
use Rattle.scan.specs.Calls.{found, first_hit}
use Rattle.scan.specs.Within.{Ready, Fits, Within, Pending}
use Rattle.scan.proofs.Laws.Bill.{plan, says}
use Rattle.scan.proofs.Laws.Within.{shift-bounds}

-- What a step from c leaves to be answered: the hits at its boundary from the node of its first hit up.
pub record Leaves (t : Tables) (count n S : ℕ) (c : Config ℕ) (w : Step ℕ) : Type 0 where
  pub pending : let v = first_hit t c.node w.events in 0 < v → Pending t count n S w.config c.boundary v
  pub heard : let v = first_hit t c.node w.events in
      (m : ℕ) (rest : List (Event ℕ))
      → plan m (w.events ++ rest) ≡ plan (m + length (recalls w.events)) (hits_up (of_tables t count S) c.boundary v (depth t v) ++ rest)

-- A step from c: it stays in range, fewer steps are left, and it leaves its hits.
pub record WithinStep (t : Tables) (count n S : ℕ) (c : Config ℕ) (w : Step ℕ) : Type 0 where
  pub within : Within t count n w.config
  pub early : c.boundary ≤ n
  pub less : steps_left n max_body w.config.boundary w.config.depth < steps_left n max_body c.boundary c.depth
  pub leaves : Leaves t count n S c w

abbrev pub WithinNext : Tables → ℕ → ℕ → ℕ → Config ℕ → Next ℕ → Type 0
WithinNext t count n S c finished = Unit {0}
WithinNext t count n S c (wants at) = (x : ℕ) → WithinStep t count n S c (take_byte (of_tables t count S) c x)
WithinNext t count n S c (goes w) = WithinStep t count n S c w

-- The plan of a round's hits, and of what comes after them: a shift has no part in it.
shift-unheard : {E : Type 0} (tree : Tree E) (end : ℕ) (v : E) (k b : ℕ) (ss : List (Stretch E)) (m : ℕ) (rest : List (Event E))
    → plan m (hits_up tree end v k ++ (shifted b ss ∷ rest)) ≡ plan m (hits_up tree end v k ++ rest)
shift-unheard tree end v zero b ss m rest = refl
shift-unheard tree end v (suc k) b ss m rest = go (tree.token (tree.ancestor v (suc k))) (shift-unheard tree end v k b ss m rest)
  where
    go : (i : ℕ) → plan m (hits_up tree end v k ++ (shifted b ss ∷ rest)) ≡ plan m (hits_up tree end v k ++ rest)
        → plan m ((hit_at end i ++ hits_up tree end v k) ++ (shifted b ss ∷ rest)) ≡ plan m ((hit_at end i ++ hits_up tree end v k) ++ rest)
    go zero e = e
    go (suc i) e = ap (says (found end (suc i)) m) e

-- Hits are hits, and a shift is none.
hits-end : {E : Type 0} (tree : Tree E) (end : ℕ) (v : E) (k b : ℕ) (ss : List (Stretch E))
    → hits (hits_up tree end v k ++ (shifted b ss ∷ [])) ≡ hits (hits_up tree end v k)
hits-end tree end v zero b ss = refl
hits-end tree end v (suc k) b ss = go (tree.token (tree.ancestor v (suc k))) (hits-end tree end v k b ss)
  where
    go : (i : ℕ) → hits (hits_up tree end v k ++ (shifted b ss ∷ [])) ≡ hits (hits_up tree end v k)
        → hits ((hit_at end i ++ hits_up tree end v k) ++ (shifted b ss ∷ [])) ≡ hits (hit_at end i ++ hits_up tree end v k)
    go zero e = e
    go (suc i) e = cc e

-- Where a round that ends has hits, the node of the first is the nearest one that carries a token; where it has none, that is the root.
pub first-hit : {t : Tables} {count : ℕ} (f : Falling t count) (S : ℕ) (c : Config ℕ) → c.node < count → depth t c.node ≡ c.depth
    → (o : Option ℕ) → first_hit t c.node (end_round (of_tables t count S) c o).events ≡ carrier t c.node
first-hit {t} {count} f S c below sized o =
    let tree = of_tables t count S in
    let v = carrier t c.node in
    let h = carrier-carries t count f S c.boundary c.node below in
    let d : hits_up tree c.boundary c.node c.depth ≡ hits_up tree c.boundary v (depth t v) =
    ap (hits_up tree c.boundary c.node) (sym sized) ∙ h.same in
    ap {B = ℕ} (λ hs. elim hs [ [] ↦ 0 | h ∷ hs ↦ v ]) (hits-end tree c.boundary c.node c.depth _ _ ∙ ap hits d)
    ∙ go v h.marked h.below
  where
    go : (v : ℕ) → (0 < v → 1 ≤ num t v) → v ≤ c.node
        → ◌≡◌ {A = ℕ} (elim (hits (hits_up (of_tables t count S) c.boundary v (depth t v))) [ [] ↦ 0 | h ∷ hs ↦ v ]) v
    go zero m l = refl
    go (suc v) m l = ap {B = ℕ} (λ es. elim (hits es) [ [] ↦ 0 | h ∷ hs ↦ suc v ])
        (hits-climb t count f S c.boundary (suc v) (omega arith) (omega arith)) ∙ some-hit (num t (suc v)) (m (omega arith))
      where
        some-hit : (i : ℕ) → 1 ≤ i
            → ◌≡◌ {A = ℕ} (elim (hits (hit_at c.boundary i ++ hits_up (of_tables t count S) c.boundary (up t (suc v)) (depth t (up t (suc v)))))
            [ [] ↦ 0 | h ∷ hs ↦ suc v ]) (suc v)
        some-hit zero i = absurd (omega arith)
        some-hit (suc i) l = refl

module _ {t : Tables} {count n S : ℕ} (ready : Ready t count n S) (c : Config ℕ) (w : Within t count n c) where
  ended-fits : All (Fits t count) (ended (of_tables t count S) c)
  ended-fits =
      let from = c.boundary - c.depth in
      let rest = left_over from c.stretches in
      let k = c.boundary - cut from rest in
      let l = ready.tree.lift (depth t c.node - k) c.node w.node in
      all_append (Fits t count) rest _ (all-select (Fits t count) _ c.stretches w.fits)
      ((l.0, l.1 ∙ omega (arith, w.held.sized, cut-ge from rest)), tt)

  -- The hits of the round, from the nearest node that carries a token.
  nearest-hits : Carries t count ready.tree.falling S c.boundary c.node (carrier t c.node)
  nearest-hits = carrier-carries t count ready.tree.falling S c.boundary c.node w.node

  first-is : (o : Option ℕ) → first_hit t c.node (end_round (of_tables t count S) c o).events ≡ carrier t c.node
  first-is o = first-hit ready.tree.falling S c w.node w.held.sized o

  end-within : c.boundary ≤ n → (o : Option ℕ) → WithinStep t count n S c (end_round (of_tables t count S) c o)
  end-within i o =
      let tree = of_tables t count S in
      let b = c.boundary + tree.shift c.node o in
      let by = shift-bounds ready c.node o w.node in
      let moves : c.boundary < b = omega (arith, by.0) in
      let laid = ended-laid tree (depth t) max_body c w.held in
      record {
        within = record {
          node = ready.tree.falling.size;
          held = record {
            sized = refl;
            deep = omega arith;
            inside = omega arith;
            spans = kept_spans max_body c.boundary b 0 (ended tree c) moves laid;
          };
          near = omega (arith, by.1, ready.first);
          fits = all-select (Fits t count) (kept b) (ended tree c) ended-fits;
          upto = kept-upto max_body c.boundary n 0 (kept b) (ended tree c) i laid;
        };
        early = i;
        less = less-end n max_body c.boundary b c.depth i moves w.held.deep;
        leaves = record {
          pending = rw (first-is o) (λ a. record {
            below = omega (arith, nearest-hits.below, w.node);
            marked = nearest-hits.marked a;
            deep = omega (arith, nearest-hits.deep, w.held.sized, w.held.inside);
            inside = i;
            before = moves;
            near = omega (arith, by.1);
            root = refl;
            upto = kept-upto max_body c.boundary c.boundary 0 (kept b) (ended tree c) (omega arith) laid;
          });
          heard = rw (first-is o, end-recalls tree c o) (λ m rest.
              let none : m + 0 ≡ m = omega arith in
              rw none (ap (plan m) (end-events tree c o rest)
              ∙ shift-unheard tree c.boundary c.node c.depth _ _ m rest
              ∙ ap (λ es. plan m (es ++ rest)) (ap (hits_up tree c.boundary c.node) (sym w.held.sized) ∙ nearest-hits.same)));
        };
      }

  taken-within : c.boundary ≤ n → c.depth < c.boundary → (x : ℕ) (o : Option ℕ) → child_by t count c.node x ≡ o
      → WithinStep t count n S c (taken (of_tables t count S) c x o)
  taken-within i j x none e = end-within i (some x)
  taken-within i j x (some v) e =
      let below = (ready.tree.child c.node x v w.node e).0 in
      let sized : depth t v ≡ c.depth + 1 = omega (arith, w.held.sized, ready.tree.grows c.node x v w.node e) in
      let deep : c.depth + 1 ≤ max_body = omega (arith, ready.tree.deep v below) in
      record {
        within = record {
          node = below;
          held = record { sized = sized; deep = deep; inside = omega arith; spans = w.held.spans };
          near = w.near;
          fits = w.fits;
          upto = w.upto;
        };
        early = i;
        less = less-deeper n max_body c.boundary c.depth i deep;
        leaves = record { pending = λ a. absurd (omega arith); heard = λ m rest. let none : m + 0 ≡ m = omega arith in rw none refl };
      }

  look-within : c.boundary ≤ n → c.depth < c.boundary → (o : Option ℕ) → WithinNext t count n S c (look (of_tables t count S) c o)
  look-within i j none = λ x. taken-within i j x _ refl
  look-within i j (some x) =
      let r = taken-within i j x _ refl in
      record {
        within = r.within;
        early = i;
        less = r.less;
        leaves = record {
          pending = r.leaves.pending;
          heard = λ m rest.
              let es = (take_byte (of_tables t count S) c x).events in
              let v = first_hit t c.node es in
              let sum : suc m + length (recalls es) ≡ m + suc (length (recalls es)) = omega arith in
              r.leaves.heard (suc m) rest ∙ ap (λ k. plan k (hits_up (of_tables t count S) c.boundary v (depth t v) ++ rest)) sum;
        };
      }

  pub next-within : WithinNext t count n S c (next (of_tables t count S) n c)
  next-within =
      next-cases (of_tables t count S) n c (WithinNext t count n S c) (λ _. tt) (λ i _. end-within i none)
      (λ i _ j. look-within i (omega (arith, w.held.inside)) (recall (of_tables t count S) c.stretches (place c)))
