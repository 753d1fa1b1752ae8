use Prim.Native.Nat.{◌+◌, ◌*◌, ◌≤◌}
use native.Mathlib.Omega.{arith}
use mathlib.Core.Path.{◌≡◌, refl, ap}
use mathlib.Core.Bool.{not}
use mathlib.Core.List.{[]}
use lib.ListN.{length, get_or}
use Rattle.book.specs.Book.{max_bodies, bodies_in}
use Rattle.merge.specs.Merge.{lacks}
use Rattle.merge.proofs.Laws.Survey.{begins, limits, ends, new_is, index, Next, small, sums-new, sums-old, stops, again}
use Rattle.merge.proofs.Laws.Walk.{walk_inside}
use Rattle.merge.proofs.survey.survey.Goals as goal
use Rattle.merge.proofs.survey.survey.Goals.{Joined-new, Else-size-eq0, then-new, else-new}

pub loop-marks-init : goal.loop-marks-init
loop-marks-init c = begins c.args.first.now c.args.second.now c.args.totals _ refl c.requires

pub returns-then-size-eq0 : goal.returns-then-size-eq0
returns-then-size-eq0 c = ends c.loop-marks.invariant _ c.body_at-size.ensures c.if-size-eq0.true

-- The record ends within the book.
inside : (c : Else-size-eq0) → c.loop-marks.at + 1 + c.body_at-size.result ≤ length c.args.second.now
inside c = walk_inside c.loop-marks.invariant.walk _ c.body_at-size.ensures c.if-size-eq0.false

pub overflow_add-start : goal.overflow_add-start
overflow_add-start c = omega (arith, inside c)

pub overflow_add-end : goal.overflow_add-end
overflow_add-end c = omega (arith, inside c)

pub slice_bounds-body-end : goal.slice_bounds-body-end
slice_bounds-body-end c = omega (arith, inside (goal.at.slice_bounds-body-end c).Else-size-eq0)

pub overflow_add-tokens : goal.overflow_add-tokens
overflow_add-tokens c = omega (arith, limits c.loop-marks.invariant)

bounded : (c : goal.After-weight-bodies)
    → let l = c.loop-marks in
    (l.bodies + c.weight-bodies.result ≤ 3 * max_bodies) × (l.length + (1 + c.body_at-size.result) ≤ 3 * max_bodies)
bounded c =
    small c.loop-marks.invariant _ c.body_at-size.ensures c.if-size-eq0.false _ c.weight-bodies.ensures

pub overflow_add-bodies : goal.overflow_add-bodies
overflow_add-bodies c = omega (arith, bounded c)

pub overflow_add-length : goal.overflow_add-length
overflow_add-length c = omega (arith, bounded c)

pub overflow_add-length-then-new : goal.overflow_add-length-then-new
overflow_add-length-then-new c = omega (arith, bounded c)

-- The code's test says whether the token is new; the sums are then those with it.
module _ (c : Joined-new) where
  new : not c.contains-new.result ≡ lacks (bodies_in c.args.first.now) (get_or (bodies_in c.args.second.now) c.loop-marks.i [])
  new = new_is c.loop-marks.invariant _ c.body_at-size.ensures c.if-size-eq0.false _ c.contains-new.ensures

  sums : Next c.loop-marks.invariant c.if-new.tokens c.if-new.bodies c.if-new.length
  sums =
      let p = c.loop-marks.invariant in
      let e = c.body_at-size.ensures in
      let h = c.if-size-eq0.false in
      elim c.if-new.branch [
        | then-new w ↦ rw (w.tokens-is, w.bodies-is, w.length-is) (sums-new p _ e h _ new (ap not w.if-new.true) _ w.weight-bodies.ensures)
        | else-new w ↦ rw (w.tokens-is, w.bodies-is, w.length-is) (sums-old p _ e h _ new (ap not w.if-new.false))
      ]

pub returns-then-too_large : goal.returns-then-too_large
returns-then-too_large c =
    let j = (goal.at.returns-then-too_large c).Joined-new in
    stops c.loop-marks.invariant _ c.body_at-size.ensures c.if-size-eq0.false (sums j) _ c.too_large.ensures c.if-too_large.true

pub bounds-marks-i : goal.bounds-marks-i
bounds-marks-i c =
    omega (arith, index c.loop-marks.invariant _ c.body_at-size.ensures c.if-size-eq0.false)

pub loop-marks-smaller : goal.loop-marks-smaller
loop-marks-smaller c = omega (arith, inside (goal.at.loop-marks-smaller c).Else-size-eq0)

pub loop-marks-preserved : goal.loop-marks-preserved
loop-marks-preserved c =
    let j = (goal.at.loop-marks-preserved c).Joined-new in
    again c.loop-marks.invariant _ c.body_at-size.ensures c.if-size-eq0.false (sums j) _ c.too_large.ensures c.if-too_large.false _ (new j)
