use Rattle.std.proofs.Common.{arith, refl}
use Rattle.book.proofs.Laws.Taken.{Opened}
use Rattle.book.proofs.Laws.Read.{begins, weighs, beyond, twice, onwards}
use Rattle.book.proofs.read.Goals.{Else-book-at-2}
use Rattle.book.proofs.read.Goals as goal

-- a whole record with a body, as the tests leave it
opened : (c : Else-book-at-2) → Opened c.args.book.now c.loop-at.at
opened c = record {
  there = c.if-book-at.false;
  known = c.if-kind-gt68.false;
  opens = c.if-kind-eq0.false;
  inside = omega (arith, c.body_length-size.ensures);
}

pub loop-at-init : goal.loop-at-init
loop-at-init c = begins _ _ _ (omega arith) refl

pub over-requires : goal.over-requires
over-requires c = weighs c.loop-at.invariant (opened (goal.at.over-requires c).Else-book-at-2) c.body_length-size.ensures c.weight-bytes.ensures

pub returns-then-over : goal.returns-then-over
returns-then-over c =
    beyond c.loop-at.invariant (opened (goal.at.returns-then-over c).Else-book-at-2) c.body_length-size.ensures c.weight-bytes.ensures
    c.over.ensures c.if-over.true

pub returns-then-repeated : goal.returns-then-repeated
returns-then-repeated c =
    twice c.loop-at.invariant (opened (goal.at.returns-then-repeated c).Else-book-at-2) c.body_length-size.ensures c.weight-bytes.ensures
    c.over.ensures c.repeated.new.filter c.repeated.ensures c.if-over.false c.if-repeated.true

pub loop-at-preserved : goal.loop-at-preserved
loop-at-preserved c =
    onwards c.loop-at.invariant (opened (goal.at.loop-at-preserved c).Else-book-at-2) c.body_length-size.ensures c.weight-bytes.ensures
    c.over.ensures c.repeated.new.filter c.repeated.ensures c.if-over.false
    c.if-repeated.false c.with-totals.ensures
