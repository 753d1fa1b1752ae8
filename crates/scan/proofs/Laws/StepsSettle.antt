-- A call that runs on: the state it stands at, and that the rest of the run from there is the whole run.
use Prim.Native.Nat.{ℕ, zero, suc, ◌+◌, ◌*◌, ◌<◌, min}
use native.Mathlib.Omega.{arith}
use mathlib.Core.Path.{◌≡◌, refl, ap, sym, subst, ◌∙◌}
use mathlib.Core.Option.{none}
use lib.ListN.{length}
use Rattle.book.specs.Book.{max_body}
use Rattle.rules.specs.Rules.{Step, Next, finished, wants, goes, place, recalled, end_round, after, take_byte, next}
use Rattle.rules.specs.Sweep.{recalls}
use Rattle.rules.specs.Configs.{steps_left}
use Rattle.tables.specs.Tables.{Tables}
use Rattle.scan.specs.declared.Scan.{Scan}
use Rattle.std.specs.Prelude.{Ok}
use Rattle.scan.specs.declared.Answer.TheVariants.{Fetch, Done}
use Rattle.scan.specs.declared.Stepped.{Stepped as Result}
use Rattle.scan.specs.declared.steps.Move.TheVariants.{Finished, Wants, End, Take}
use Rattle.scan.specs.State.{config_of, tree_of, max_spared}
use Rattle.scan.specs.Calls.{sparing, awaiting, told, stepped, settle, enough}
use Rattle.scan.specs.Results.{stepped_of}
use Rattle.scan.specs.Ways.{Climbs}
use Rattle.scan.specs.Steps.{Chosen}
use Rattle.scan.specs.Within.{Goes}
use Rattle.scan.proofs.Laws.Stay.{WithinNext, next-within}
use Rattle.scan.proofs.Laws.Settle.{on_left}
use Rattle.scan.proofs.Laws.Kept.{StepFor, step-goes, Ample, ample, settle-enough}

-- The state u of a run that began at s.
pub record Runs (t : Tables) (s u : Scan) : Type 0 where
  pub goes : Goes t u
  pub image : u.image ≡ s.image
  pub rest : settle t (enough s) u ≡ settle t (enough s) s

-- A run that stands at u goes on from r, with fewer steps left.
abbrev pub Onwards : Tables → Scan → Scan → Scan → Type 0
Onwards t s u r = Runs t s r × (steps_left s.image max_body r.boundary r.depth < steps_left s.image max_body u.boundary u.depth)

pub begins : {t : Tables} {s : Scan} → Goes t s → Runs t s s
begins g = record { goes = g; image = refl; rest = refl }

abbrev Answers : Tables → Scan → Result → Type 0
Answers t s a = stepped_of a ≡ settle t (enough s) s

-- A byte from a stretch is counted before the step that takes it, or with it.
spared-first : (t : Tables) (s : Scan) (p : ℕ) (w : Step ℕ) → stepped t (sparing s 1) w ≡ stepped t s (after (recalled p) w)
spared-first t s p w =
    let k = length (recalls w.events) in
    let e : min max_spared (min max_spared (s.spared + 1) + k) ≡ min max_spared (s.spared + suc k) = omega arith in
    rw e

module _ {t : Tables} {s u : Scan} (runs : Runs t s u) where
  -- The run is a step, and the run from there.
  whole : (v : ℕ) → u.hit ≡ v → (x : Next ℕ) → next (tree_of t u) u.image (config_of u) ≡ x → on_left t (enough s) u x v ≡ settle t (enough s) s
  whole v e x is =
      let a : Ample u (enough s) = subst (λ n. Ample u ((n + 2) * (max_body + 2))) runs.image (ample u) in
      ap (on_left t (enough s) u x) (sym e) ∙ ap (λ x. on_left t (enough s) u x u.hit) (sym is)
      ∙ sym (settle-enough t (enough s) (suc (enough s)) u runs.goes a (omega arith, λ i. omega (arith, a.1 i))) ∙ runs.rest

  -- A hit is left, and answered.
  module _ (some : u.hit ≡ 0 → ⊥) where
    pub runs-climbs : Climbs t u.hit × (0 < u.hit)
    runs-climbs =
        let a : 0 < u.hit = omega arith in
        (record { count = u.count; tree = runs.goes.ready.tree; below = (runs.goes.left.some a).below }, a)

    pub runs-told : (r : Result) → stepped_of r ≡ told t u → Answers t s r
    runs-told r is = is ∙ go u.hit refl some
      where
        go : (v : ℕ) → u.hit ≡ v → (v ≡ 0 → ⊥) → told t u ≡ settle t (enough s) s
        go zero e h = absurd (h refl)
        go (suc v) e h = whole (suc v) e _ refl

  -- No hit is left.
  module _ (quiet : u.hit ≡ 0) where
    pub runs-over : Chosen t u Finished → Answers t s (record { state = u; answer = Ok Done })
    runs-over is = whole 0 quiet finished is

    pub runs-wants : (p : ℕ) → Chosen t u (Wants p) → Answers t s (record { state = awaiting u; answer = Ok (Fetch p) })
    runs-wants p is = whole 0 quiet (wants p) is

    -- A step w leads to r.
    runs_on : (w : Step ℕ) → next (tree_of t u) u.image (config_of u) ≡ goes w → (r : Scan) → r ≡ stepped t u w → Onwards t s u r
    runs_on w is r to =
        let g = runs.goes in
        let h : StepFor t u w = subst (WithinNext t u.count u.image u.shortest (config_of u)) is (next-within g.ready (config_of u) g.within) in (
          record {
            goes = subst (Goes t) (sym to) (step-goes t u g w h);
            image = ap (λ r. r.image) to ∙ runs.image;
            rest = ap (settle t (enough s)) to ∙ whole 0 quiet (goes w) is;
          },
          rw (to, ← runs.image) h.less,
        )

    pub runs-ends : Chosen t u End → (r : Scan) → r ≡ stepped t u (end_round (tree_of t u) (config_of u) none) → Onwards t s u r
    runs-ends is r to = runs_on _ is r to

    pub runs-takes : (x : ℕ) → Chosen t u (Take x) → (r : Scan) → r ≡ stepped t (sparing u 1) (take_byte (tree_of t u) (config_of u) x) → Onwards t s u r
    runs-takes x is r to = runs_on _ is r (to ∙ spared-first t u (place (config_of u)) (take_byte (tree_of t u) (config_of u) x))
