use Rattle.std.proofs.Common.{arith, ◌+◌, ◌-◌, ◌≡◌}
use Rattle.book.proofs.Laws.Token.{inside, has, next, there}
use Rattle.book.proofs.token.Goals as goal

pub loop-init : goal.loop-init
loop-init c = record {
  count = _;
  has = has c.args.book.now _ c.in_ok-totals.ensures;
  enough = c.if-totals-i.false;
  before = omega (arith, c.if-i-eq0.false);
  place = omega arith;
}

pub loop-preserved : goal.loop-preserved
loop-preserved c =
    let z : c.loop.counter - 1 + 1 ≡ c.loop.counter + 1 - 1 = omega arith in
    rw z at (next c.loop.invariant c.body_at.ensures (omega arith))

pub returns : goal.returns
returns c = there c.loop.invariant c.body_at-2.ensures (omega arith)

pub overflow_add-at-in-loop : goal.overflow_add-at-in-loop
overflow_add-at-in-loop c = omega (arith, c.body_at.ensures, inside c.loop.invariant)

pub overflow_add-result : goal.overflow_add-result
overflow_add-result c = omega (arith, inside c.loop.invariant)
