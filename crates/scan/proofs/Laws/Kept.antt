-- A call that is not refused hands back a state in its ranges, over any tables that are a tree; and its steps are enough.
use Rattle.std.specs.Prelude.{ℕ, zero, suc, ◌≤◌, ◌<◌, ◌≡◌, refl, Bool, true, false, ◌||◌, not, length}
use Rattle.std.proofs.Common.{arith, ap, subst, ◌∙◌}
use Rattle.std.proofs.Math.Option.{Option, some, none}
use Rattle.book.specs.Book.{max_body}
use Rattle.rules.specs.Rules.{Step, Next, finished, wants, goes, take_byte, next}
use Rattle.rules.specs.Sweep.{recalls}
use Rattle.rules.specs.Configs.{steps_left}
use Rattle.rules.proofs.Laws.Tests.{clash}
use Rattle.tables.specs.Tables.{Tables}
use Rattle.tables.specs.Walks.{carrier}
use Rattle.tables.specs.Broken.{broken}
use Rattle.tables.specs.Shape.{up}
use Rattle.scan.specs.declared.Scan.{Scan}
use Rattle.scan.specs.State.{config_of, tree_of, wants_byte, in_range}
use Rattle.scan.specs.Calls.{Answer, refused, counted, sparing, awaiting, told, stepped, settle, enough, agree, judged, carry_on, fed, supply}
use Rattle.scan.proofs.Laws.Within.{left_out, in-range, ready, slots, counts, dues, lefts, within, owing-left, owing-range}
use Rattle.scan.proofs.Laws.Stay.{WithinStep, WithinNext, next-within}
use Rattle.scan.proofs.Laws.Settle.{enough-steps, above-pending, on_left, on_judged}
use Rattle.scan.specs.Within.{Goes, Counts}

abbrev pub StepFor : Tables → Scan → Step ℕ → Type 0
StepFor t s w = WithinStep t s.count s.image s.shortest (config_of s) w

abbrev NextFor : Tables → Scan → Next ℕ → Type 0
NextFor t s x = WithinNext t s.count s.image s.shortest (config_of s) x

-- It is in range,
pub goes-range : (t : Tables) (s : Scan) → Goes t s → in_range t s ≡ true
goes-range t s g = in-range t s g.ready g.few g.slots g.within (cc g.idle) g.left

-- and so is what a step leads to,
pub step-goes : (t : Tables) (s : Scan) → Goes t s → (w : Step ℕ) → StepFor t s w → Goes t (stepped t s w)
step-goes t s g w h =
    goes (owing-range t (sparing s k) g.ready few w.config h.within g.idle s.boundary _ h.leaves.pending)
  where
    k : ℕ
    k = length (recalls w.events)

    few : Counts (sparing s k)
    few = (g.few.0, omega arith)

    goes : in_range t (stepped t s w) ≡ true → Goes t (stepped t s w)
    goes e = record {
      ready = g.ready;
      few = few;
      slots = slots t (stepped t s w) e;
      within = within t (stepped t s w) e g.ready.tree;
      left = left_out t (stepped t s w) (lefts t (stepped t s w) e);
      idle = g.idle;
    }

-- and the state after a hit that is left was answered.
told-range : (t : Tables) (s : Scan) → Goes t s → 0 < s.hit → in_range t (told t s).state ≡ true
told-range t s g a =
    in-range t (told t s).state g.ready g.few g.slots g.within (cc g.idle)
    (owing-left t s.count s.image s.shortest (config_of s) s.due g.idle s.end (carrier t (up t s.hit))
    (above-pending g.ready a (g.left.some a)))

-- Steps enough: one at least, and more than are left before the boundary has passed the image.
abbrev pub Ample : Scan → ℕ → Type 0
Ample s f = (1 ≤ f) × (s.boundary ≤ s.image → steps_left s.image max_body s.boundary s.depth < f)

pub ample : (s : Scan) → Ample s (enough s)
ample s = (omega arith, enough-steps s.image max_body (omega arith) (config_of s))

module _ (t : Tables) where
  -- With steps enough, how many there are does not matter.
  pub settle-enough : (f g : ℕ) (s : Scan) → Goes t s → Ample s f → Ample s g → settle t f s ≡ settle t g s
  settle-enough zero g s w k l = absurd (omega (arith, k.0))
  settle-enough (suc f) zero s w k l = absurd (omega (arith, l.0))
  settle-enough (suc f) (suc g) s w k l =
      go s.hit (next (tree_of t s) s.image (config_of s)) (next-within w.ready (config_of s) w.within) (settle-enough f g)
    where
      go : (v : ℕ) (x : Next ℕ) → NextFor t s x → ((s : Scan) → Goes t s → Ample s f → Ample s g → settle t f s ≡ settle t g s)
          → on_left t f s x v ≡ on_left t g s x v
      go (suc v) x h ih = refl
      go zero finished h ih = refl
      go zero (wants at) h ih = refl
      go zero (goes u) h ih =
          let a = k.1 h.early in
          let b = l.1 h.early in
          ih (stepped t s u) (step-goes t s w u h) (omega (arith, h.less), λ _. omega (arith, h.less)) (omega (arith, h.less), λ _. omega (arith, h.less))

  -- Going on stays in range.
  pub settle-kept : (fuel : ℕ) (s : Scan) → Goes t s → in_range t (settle t fuel s).state ≡ true
  settle-kept zero s g = goes-range t s g
  settle-kept (suc fuel) s g =
      go s.hit refl (next (tree_of t s) s.image (config_of s)) refl (next-within g.ready (config_of s) g.within) (settle-kept fuel)
    where
      go : (v : ℕ) → s.hit ≡ v → (x : Next ℕ) → next (tree_of t s) s.image (config_of s) ≡ x → NextFor t s x
          → ((s : Scan) → Goes t s → in_range t (settle t fuel s).state ≡ true)
          → in_range t (on_left t fuel s x v).state ≡ true
      go (suc v) e x q h ih = told-range t s g (omega arith)
      go zero e finished q h ih = goes-range t s g
      go zero e (wants at) q h ih =
          in-range t (awaiting s) g.ready g.few g.slots g.within (ap wants_byte q)
          (record { none = g.left.none; some = g.left.some; idle = λ a. absurd (omega arith) })
      go zero e (goes w) q h ih = ih (stepped t s w) (step-goes t s g w h)

-- A call that is not refused: none of the three refusals comes.
pub admitted : (t : Tables) (s : Scan) (turn : Bool) → judged t s turn ≡ none
    → (broken t s.count ≡ none) × (in_range t s ≡ true) × (s.due ≡ turn)
admitted t s turn e = go (broken t s.count) (in_range t s) s.due turn e
  where
    go : (o : Option ℕ) (b d u : Bool)
        → ◌≡◌ {A = Option Answer}
        (elim o [
          | some v ↦ some (refused 9 v)
          | none ↦ elim b [ false ↦ some (refused 10 0) | true ↦ elim (not (agree d u)) [ true ↦ some (refused 11 0) | false ↦ none ] ]
        ]) none
        → (o ≡ none) × (b ≡ true) × (d ≡ u)
    go (some v) b d u e = (cc, cc, cc)
    go none false d u e = (cc, cc, cc)
    go none true true true e = (refl, refl, refl)
    go none true true false e = (cc, cc, cc)
    go none true false true e = (cc, cc, cc)
    go none true false false e = (refl, refl, refl)

module _ (t : Tables) (s : Scan) where
  pub admitted-goes : judged t s false ≡ none → Goes t s
  admitted-goes e =
      let a = admitted t s false e in
      let r = ready t s a.1 a.0 in
      record {
        ready = r;
        few = counts t s a.1;
        slots = slots t s a.1;
        within = within t s a.1 r.tree;
        left = left_out t s (lefts t s a.1);
        idle = a.2;
      }

  pub carry-kept : judged t s false ≡ none → in_range t (carry_on t s).state ≡ true
  carry-kept e =
      ap (λ j. in_range t (on_judged s (settle t (enough s) s) j).state) e ∙ settle-kept t (enough s) s (admitted-goes e)

  -- With a byte due no hit is left, and with the byte counted none is due.
  module _ (e : judged t s true ≡ none) where
    pub none_left : s.hit ≡ 0
    none_left = go s.hit (left_out t s (lefts t s (admitted t s true e).1)).idle
      where
        go : (v : ℕ) → (0 < v → s.due ≡ false) → v ≡ 0
        go zero f = refl
        go (suc v) f = absurd (clash s.due (admitted t s true e).2 (f (omega arith)))

    pub counted-goes : Goes t (counted s)
    counted-goes =
        let a = admitted t s true e in
        let r = ready t s a.1 a.0 in
        let l = left_out t s (lefts t s a.1) in
        record {
          ready = r;
          few = (omega arith, (counts t s a.1).1);
          slots = slots t s a.1;
          within = within t s a.1 r.tree;
          left = record { none = l.none; some = l.some; idle = λ _. refl };
          idle = refl;
        }

    -- The byte that is due leads to a state in range.
    pub supplied-step : (x : ℕ) → StepFor t s (take_byte (tree_of t s) (config_of s) x)
    supplied-step x =
        let a = admitted t s true e in
        let r = ready t s a.1 a.0 in
        go (next (tree_of t s) s.image (config_of s)) (next-within r (config_of s) (within t s a.1 r.tree))
        (subst (λ d. (not d || wants_byte (next (tree_of t s) s.image (config_of s))) ≡ true) a.2 (dues t s a.1))
      where
        go : (n : Next ℕ) → NextFor t s n → wants_byte n ≡ true → StepFor t s (take_byte (tree_of t s) (config_of s) x)
        go finished h p = absurd (clash false p refl)
        go (wants at) h p = h x
        go (goes w) h p = absurd (clash false p refl)

    pub supplied-goes : (x : ℕ) → Goes t (fed t s x)
    supplied-goes x = step-goes t (counted s) counted-goes (take_byte (tree_of t s) (config_of s) x) (supplied-step x)

    pub supply-kept : (x : ℕ) → in_range t (supply t s x).state ≡ true
    supply-kept x =
        ap (λ j. in_range t (on_judged s (settle t (enough s) (fed t s x)) j).state) e ∙ settle-kept t (enough s) (fed t s x) (supplied-goes x)
