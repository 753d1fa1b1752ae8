use native.Mathlib.Omega.{arith}
use borrow.Author.Tests.{ne_eqb}
use Rattle.agree.proofs.Laws.Agree.{agreed-none, agreed-all, agreed-past, agreed-stops, over-agrees}
use Rattle.agree.proofs.mismatch.Goals as goal

pub returns-then-body-s : goal.returns-then-body-s
returns-then-body-s c =
    let a = c.args in
    agreed-past a.known.now a.body.now a.s 0 (agreed-none a.known.now a.body.now a.s) (omega arith)

pub returns-then-left-k : goal.returns-then-left-k
returns-then-left-k c =
    let a = c.args in
    agreed-past a.known.now a.body.now a.s _ c.loop-k.invariant (omega arith)

pub returns-then-body-left : goal.returns-then-body-left
returns-then-body-left c =
    let a = c.args in
    let l = c.loop-k in
    agreed-stops a.known.now a.body.now a.s l.k l.invariant _ (over-agrees a.body.now a.s l.k _ (omega arith)) (omega arith)
    (ne_eqb _ _ c.if-body-left.true)

pub returns : goal.returns
returns c =
    let a = c.args in
    agreed-all a.known.now a.body.now a.s _ c.loop-k.invariant c.loop-k-test.false
