-- How much the rules fetch, look at and remember, for every image and every answer to a fetch, in any tree whose nodes have sizes up to D.
use Prim.Native.Nat.{ℕ, zero, suc, ◌+◌, ◌-◌, ◌*◌, ◌≤◌, ◌<◌, max, min}
use Rattle.std.specs.Prelude.{◌≡◌, refl, List, ◌++◌, ltb, length}
use Rattle.std.proofs.Math.Option.{Option, some, none}
use Rattle.std.proofs.Common.{length-append, mul-le-mul_right, le_trans, arith}
use Rattle.rules.specs.Rules.{Tree, Config, Event, Step, Next, finished, wants, goes, place, left_over, kept, deeper, fresh, recall, ended, shifted_by, end_round, taken, take_byte, look, next, follow, trace}
use Rattle.rules.specs.Sweep.{digits4, limit, places, Few}
use Rattle.rules.proofs.Laws.Digits.{limit-mono, fewer}
use Rattle.rules.proofs.Laws.Tests.{next-cases}
use Rattle.rules.proofs.Laws.Hits.{end_before}
use Rattle.rules.proofs.Laws.Limit.Span.{Laid, short, laid, cut-ge, cut-le, kept_spans, kept-upto}
use Rattle.rules.proofs.Laws.All.{length-select}
use Rattle.rules.proofs.Laws.Limit.Count.{worth, loose-less, loose-step, worth-raise, worth-cap, worth-kept, gain}
use Rattle.rules.proofs.Laws.Limit.Ends.{less-end, less-deeper, Finite}
use Rattle.rules.proofs.Laws.Limit.Events.{Always, always-map, always-last}
use Rattle.rules.specs.Configs.{Held, steps_left}
use Rattle.rules.specs.Stretches.{Upto, loose}
pub mod Span
pub mod Count
pub mod Events
pub mod Ends
pub mod Looks

-- What a configuration has to pay for fetches, where what is matched begins at `from`.
abbrev pub funds : {E : Type 0} → ℕ → ℕ → Config E → ℕ
funds D from c = c.boundary + 4 * (c.boundary * digits4 D) + worth c.boundary c.stretches + loose c.boundary from c.stretches

-- What holds besides, after m fetches.
pub record Fine {E : Type 0} (size : E → ℕ) (D S n : ℕ) (c : Config E) (m : ℕ) : Type 0 where
  pub held : Held size D c
  pub paid : m + S ≤ funds D (c.boundary - c.depth) c
  pub below : m ≤ limit (min c.boundary n) D
  pub upto : Upto n c.stretches

-- What holds of a step from c that ends after m fetches: all that again, and fewer steps are left.
pub record FineStep {E : Type 0} (size : E → ℕ) (D S n : ℕ) (c : Config E) (m : ℕ) (w : Step E) : Type 0 where
  pub fine : Fine size D S n w.config m
  pub less : steps_left n D w.config.boundary w.config.depth < steps_left n D c.boundary c.depth

abbrev pub FineNext : {E : Type 0} → Tree E → (E → ℕ) → ℕ → ℕ → ℕ → Config E → ℕ → Next E → Type 0
FineNext tree size D S n c m finished = n < c.boundary
FineNext tree size D S n c m (wants at) = (x : ℕ) → FineStep size D S n c (suc m) (take_byte tree c x)
FineNext tree size D S n c m (goes w) = FineStep size D S n c m w

-- What a round leaves that ends here, before rule 6 drops some of it.
module _ {E : Type 0} (tree : Tree E) (size : E → ℕ) (D : ℕ) (c : Config E) (h : Held size D c) where
  pub ended-laid : Laid D c.boundary 0 (ended tree c)
  ended-laid =
      let from = c.boundary - c.depth in
      laid D c.boundary from _ 0 _ c.stretches (cut-le D c.boundary from 0 c.stretches (omega arith) h.spans)
      (omega (arith, cut-ge from (left_over from c.stretches))) (omega arith) h.spans (omega arith)

  ended-few : 1 ≤ D → length (ended tree c) ≤ digits4 D
  ended-few j =
      simp length-append (omega (
        arith,
        length-select (λ s. ltb s.left (c.boundary - c.depth)) c.stretches,
        fewer (length c.stretches) D (short D c.boundary 0 c.stretches j h.spans),
      ))

  ended-gain : worth c.boundary c.stretches + loose c.boundary (c.boundary - c.depth) c.stretches
      ≤ worth c.boundary (ended tree c)
  ended-gain =
      let from = c.boundary - c.depth in
      le_trans (omega (arith, loose-less c.boundary from (max from 0) c.stretches (omega arith)))
      (gain D c.boundary from _ 0 _ c.stretches h.spans (omega arith))

module _ {E : Type 0} (tree : Tree E) (size : E → ℕ) (D S : ℕ) (finite : Finite tree size D) (D≥1 : 1 ≤ D) (S≥1 : 1 ≤ S) (n : ℕ) where
  -- What is shown of the events from boundary b and m fetches on.
  abbrev Ok : ℕ → ℕ → List (Event E) → Type 0
  Ok b m es = Always (λ b m. m ≤ limit (min b n) D) b m es × Few D es

  -- A configuration of a round, where the last fetch may not be paid yet.
  module _ (c : Config E) (m : ℕ) (i : c.boundary ≤ n) (h : Held size D c) (l : m + S ≤ suc (funds D (c.boundary - c.depth) c)) where
    few : length (ended tree c) ≤ digits4 D
    few = ended-few tree size D c h D≥1

    owed : m + S ≤ suc (c.boundary + 4 * (c.boundary * digits4 D) + worth c.boundary (ended tree c))
    owed = omega (arith, ended-gain tree size D c h)

    capped : (b : ℕ) → c.boundary ≤ b → m ≤ limit (min b n) D
    capped b j =
        omega (
          arith,
          owed,
          limit-mono c.boundary (min b n) D (omega arith),
          worth-cap D c.boundary 0 (ended tree c) (ended-laid tree size D c h),
          mul-le-mul_right D few,
        )

    -- A boundary further right pays for a fetch, and for what the stretches lose.
    shifted-fine : (t : ℕ) → 1 ≤ t → Fine size D S n (shifted_by tree c t) m
    shifted-fine t j = record {
      held = record {
        sized = finite.bare;
        deep = omega arith;
        inside = omega arith;
        spans = kept_spans D c.boundary (c.boundary + t) 0 (ended tree c) (omega arith) (ended-laid tree size D c h);
      };
      paid = omega (
        arith,
        owed,
        worth-raise c.boundary t (ended tree c),
        worth-kept (c.boundary + t) (ended tree c),
        mul-le-mul_right (4 * t) few,
      );
      below = capped (c.boundary + t) (omega arith);
      upto = kept-upto D c.boundary n 0 (kept (c.boundary + t)) (ended tree c) i (ended-laid tree size D c h);
    }

    end-fine : (o : Option ℕ) → FineStep size D S n c m (end_round tree c o)
    end-fine o =
        let t = finite.moves c.node o in
        record {
          fine = shifted-fine (tree.shift c.node o) t;
          less = less-end n D c.boundary (c.boundary + tree.shift c.node o) c.depth i (omega arith) h.deep;
        }

    taken_fine : Upto n c.stretches → (x : ℕ) (o : Option E) → tree.child c.node x ≡ o → c.depth < c.boundary
        → m + S ≤ funds D (place c) c → FineStep size D S n c m (taken tree c x o)
    taken_fine u x none e j k = end-fine (some x)
    taken_fine u x (some v) e j k =
        let g = finite.grows c.node x v e in
        record {
          fine = record {
            held = record { sized = omega (arith, h.sized); deep = omega (arith, h.sized); inside = omega arith; spans = h.spans };
            paid = omega (arith, loose-less c.boundary (place c) (c.boundary - (c.depth + 1)) c.stretches (omega arith));
            below = capped c.boundary (omega arith);
            upto = u;
          };
          less = less-deeper n D c.boundary c.depth i (omega (arith, h.sized));
        }

    -- The events of a round's end, and of a byte that is taken, with those after them.
    module _ (rest : Config E → List (Event E)) (ih : (c : Config E) → Fine size D S n c m → Ok c.boundary m (rest c)) where
      end-ok : (o : Option ℕ) → Ok c.boundary m ((end_round tree c o).events ++ rest (end_round tree c o).config)
      end-ok o =
          let c' = (end_round tree c o).config in
          let f = (end-fine o).fine in
          let r = ih c' f in
          end_before tree (Ok c.boundary m) (λ end t es r. ((capped c.boundary (omega arith), r.0), r.1)) c o (rest c')
          ((capped c.boundary (omega arith), r.0), (short D c'.boundary 0 c'.stretches D≥1 f.held.spans, r.1))

      taken-ok : Upto n c.stretches → (x : ℕ) (o : Option E) → tree.child c.node x ≡ o → c.depth < c.boundary
          → m + S ≤ funds D (place c) c → Ok c.boundary m ((taken tree c x o).events ++ rest (taken tree c x o).config)
      taken-ok u x none e j k = end-ok (some x)
      taken-ok u x (some v) e j k = ih (deeper c v) (taken_fine u x (some v) e j k).fine

  -- What comes next, from any configuration that is fine.
  module _ (m : ℕ) (c : Config E) (f : Fine size D S n c m) where
    paid-fetch : c.depth < c.boundary → recall tree c.stretches (place c) ≡ none → suc m + S ≤ funds D (place c) c
    paid-fetch j e =
        omega (
          arith,
          f.paid,
          loose-step tree c.boundary (place c) c.stretches (omega arith) e,
          loose-less c.boundary (c.boundary - c.depth) (suc (place c)) c.stretches (omega arith),
        )

    paid-recall : m + S ≤ funds D (place c) c
    paid-recall = omega (arith, f.paid, loose-less c.boundary (c.boundary - c.depth) (place c) c.stretches (omega arith))

    look-fine : c.boundary ≤ n → c.depth < c.boundary → (o : Option ℕ) → recall tree c.stretches (place c) ≡ o
        → FineNext tree size D S n c m (look tree c o)
    look-fine i j none e = λ x. taken_fine c (suc m) i f.held (omega (arith, f.paid)) f.upto x _ refl j (paid-fetch j e)
    look-fine i j (some x) e =
        let r = taken_fine c m i f.held (omega (arith, f.paid)) f.upto x _ refl j paid-recall in
        record { fine = r.fine; less = r.less }

    pub next-fine : FineNext tree size D S n c m (next tree n c)
    next-fine =
        next-cases tree n c (FineNext tree size D S n c m) (λ i. i)
        (λ i _. end-fine c m i f.held (omega (arith, f.paid)) none)
        (λ i _ j. look-fine i (omega (arith, f.held.inside)) _ refl)

  -- What comes next, with what happens after it.
  module _ (ask : ℕ → ℕ → ℕ) (more : ℕ → Config E → List (Event E))
      (ih : (k m : ℕ) (c : Config E) → Fine size D S n c m → Ok c.boundary m (more k c))
      (k m : ℕ) (c : Config E) (f : Fine size D S n c m) where
    look-ok : c.boundary ≤ n → c.depth < c.boundary → (o : Option ℕ) → recall tree c.stretches (place c) ≡ o
        → Ok c.boundary m (follow tree ask more k c (look tree c o))
    look-ok i j none e =
        let p = paid-fetch m c f j e in
        let r = taken-ok c (suc m) i f.held (omega arith) (more (k + 1)) (ih (k + 1) (suc m)) f.upto (ask k (place c)) _ refl j p in
        ((f.below, r.0), r.1)
    look-ok i j (some x) e =
        let r = taken-ok c m i f.held (omega arith) (more k) (ih k m) f.upto x _ refl j (paid-recall m c f) in
        ((f.below, r.0), r.1)

    next-ok : Ok c.boundary m (follow tree ask more k c (next tree n c))
    next-ok =
        next-cases tree n c (λ x. Ok c.boundary m (follow tree ask more k c x))
        (λ i. ((f.below, f.below), tt))
        (λ i _. end-ok c m i f.held (omega arith) (more k) (ih k m) none)
        (λ i _ j. look-ok i (omega arith) _ refl)

  pub fresh-fine : Fine size D S n (fresh tree S) 0
  fresh-fine = record {
    held = record { sized = finite.bare; deep = omega arith; inside = omega arith; spans = tt };
    paid = omega arith;
    below = omega arith;
    upto = tt;
  }

  module _ (ask : ℕ → ℕ → ℕ) where
    run : (fuel k m : ℕ) (c : Config E) → Fine size D S n c m → Ok c.boundary m (trace tree n ask fuel k c)
    unfolding trace
    run zero k m c f = (f.below, tt)
    run (suc fuel) k m c f = next-ok ask (trace tree n ask fuel) (run fuel) k m c f

    all-ok : (fuel : ℕ) → Ok S 0 (trace tree n ask fuel 0 (fresh tree S))
    all-ok fuel = run fuel 0 0 (fresh tree S) fresh-fine

    -- Each round leaves few stretches.
    pub stretches-few : (fuel : ℕ) → Few D (trace tree n ask fuel 0 (fresh tree S))
    stretches-few fuel = (all-ok fuel).1

    -- The fetches so far, at each moment, by the boundary.
    pub fetches-always : (fuel : ℕ) → Always (λ b m. b ≤ n → m ≤ limit b D) S 0 (trace tree n ask fuel 0 (fresh tree S))
    fetches-always fuel =
        let es = trace tree n ask fuel 0 (fresh tree S) in
        always-map _ _ (λ b m j i. omega (arith, limit-mono (min b n) b D (omega arith))) S 0 es (all-ok fuel).0

    -- All fetches.
    pub fetches-all : (fuel : ℕ) → length (places (trace tree n ask fuel 0 (fresh tree S))) ≤ limit n D
    fetches-all fuel =
        let es = trace tree n ask fuel 0 (fresh tree S) in
        let last : Always (λ b m. m ≤ limit n D) S 0 es =
        always-map _ _ (λ b m j. omega (arith, limit-mono (min b n) n D (omega arith))) S 0 es (all-ok fuel).0 in
        omega (arith, always-last (limit n D) S 0 es last)
