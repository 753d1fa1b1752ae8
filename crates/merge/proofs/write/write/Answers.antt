use Prim.Native.Nat.{◌+◌, ◌-◌, ◌≤◌, ◌<◌}
use native.Mathlib.Omega.{arith}
use mathlib.Core.Path.{refl, ap, sym, ◌∙◌}
use lib.ListN.{length}
use lib.Seq.{length-take-le}
use Rattle.rules.proofs.Laws.Over.{over-length}
use Rattle.book.specs.Book.{max_tokens, bodies_in}
use Rattle.book.proofs.Laws.Bytes.{bytes-length}
use Rattle.merge.proofs.Laws.Walk.{walk_inside, walk-some}
use Rattle.merge.proofs.Laws.Write.{whole, front_fits, copied, begins, to_inside, part-fits, again, done}
use Rattle.merge.proofs.write.write.Goals as goal
use Rattle.merge.proofs.write.write.Goals.{Start, Else-size-eq0}

pub overflow_sub-closing : goal.overflow_sub-closing
overflow_sub-closing c = omega (arith, ap length c.requires.first_value, bytes-length (bodies_in c.args.first.now))

-- All but the last byte of the first book fits in the output.
front : (c : Start) → length c.args.first.now - 1 ≤ length c.args.out.now
front c = front_fits c.args.first.now c.args.second.now c.args.out.now c.requires.first_value c.requires.second_in_bounds

pub slice_bounds-copy_from_slice-end : goal.slice_bounds-copy_from_slice-end
slice_bounds-copy_from_slice-end c = front (goal.at.slice_bounds-copy_from_slice-end c).Start

pub slice_bounds-copy_from_slice-end-2 : goal.slice_bounds-copy_from_slice-end-2
slice_bounds-copy_from_slice-end-2 c = sym (length-take-le _ _ (front (goal.at.slice_bounds-copy_from_slice-end-2 c).Start))

pub copy_from_slice-requires : goal.copy_from_slice-requires
copy_from_slice-requires c = length-take-le _ _ (front (goal.at.copy_from_slice-requires c).Start) ∙ sym (length-take-le _ _ (omega arith))

pub loop-size-init : goal.loop-size-init
loop-size-init c =
    let a = c.args in
    rw c.copy_from_slice.ensures.after
    (begins a.first.now a.second.now a.out.now c.requires.first_value c.requires.second_in_bounds _ refl)

-- A turn's record ends within the book, and there is a mark for it.
module _ (c : Else-size-eq0) where
  inside : c.loop-size.at + 1 + c.body_at-size.result ≤ length c.args.second.now
  inside = walk_inside c.loop-size.invariant.walk _ c.body_at-size.ensures c.if-size-eq0.false

  marked : c.loop-size.i < max_tokens
  marked = omega (arith, c.requires.second_len_bound.0, walk-some c.loop-size.invariant.walk _ c.body_at-size.ensures c.if-size-eq0.false)

pub overflow_add-end : goal.overflow_add-end
overflow_add-end c = omega (arith, inside c)

pub overflow_add-end-in-loop-size : goal.overflow_add-end-in-loop-size
overflow_add-end-in-loop-size c = omega (arith, inside c)

pub slice_bounds-put-end : goal.slice_bounds-put-end
slice_bounds-put-end c = omega (arith, inside (goal.at.slice_bounds-put-end c).Else-size-eq0)

pub bounds-marks-i : goal.bounds-marks-i
bounds-marks-i c = marked (goal.at.bounds-marks-i c).Else-size-eq0

pub put-to-requires : goal.put-to-requires
put-to-requires c =
    part-fits c.loop-size.invariant _ c.body_at-size.ensures c.if-size-eq0.false c.args.marks.now c.requires.second_len_bound.1

pub overflow_add-i : goal.overflow_add-i
overflow_add-i c = omega (arith, marked (goal.at.overflow_add-i c).Else-size-eq0)

pub loop-size-smaller : goal.loop-size-smaller
loop-size-smaller c = omega (arith, inside (goal.at.loop-size-smaller c).Else-size-eq0)

pub loop-size-preserved : goal.loop-size-preserved
loop-size-preserved c =
    let y = c.put-to in
    rw y.ensures.0
    (again c.loop-size.invariant _ c.body_at-size.ensures c.if-size-eq0.false c.args.marks.now c.requires.second_len_bound.1 y.new.out y.ensures.1)

pub bounds-out-to : goal.bounds-out-to
bounds-out-to c = to_inside c.loop-size.invariant

pub returns : goal.returns
returns c =
    let a = c.args in
    done c.loop-size.invariant (sym c.body_at-size.ensures ∙ c.if-size-eq0.true) a.out.now
    (rw c.copy_from_slice.ensures.after (copied a.first.now a.second.now a.out.now c.requires.first_value c.requires.second_in_bounds _ refl))

pub shape_of-out : goal.shape_of-out
shape_of-out c =
    let a = c.args in
    ap length (returns c) ∙ over-length (whole a.first.now a.second.now) a.out.now c.requires.second_in_bounds
