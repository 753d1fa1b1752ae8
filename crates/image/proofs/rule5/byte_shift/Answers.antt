use Rattle.agree.specs.Tests.{byte_test}
use Rattle.image.proofs.Laws.Rule5.{passed_none, passed-more, passed-all, passed-one}
use Rattle.image.proofs.rule5.byte_shift.Goals as goal

pub loop-body-init : goal.loop-body-init
loop-body-init c =
    let a = c.args in
    rw c.into_iter-body-iterator.ensures.into_iter_gives (rw c.bodies-body-items.ensures (passed_none (byte_test a.depth a.x) c.requires))

pub loop-body-preserved : goal.loop-body-preserved
loop-body-preserved c =
    let a = c.args in
    passed-more (byte_test a.depth a.x) c.requires c.loop-body.invariant c.in-Some.ensures.steps c.byte_words-best.result c.byte_words-best.ensures

pub returns-in-None : goal.returns-in-None
returns-in-None c =
    let a = c.args in
    passed-all (byte_test a.depth a.x) c.requires c.loop-body.invariant c.in-None.ensures.steps.0

pub returns-then-best-le1 : goal.returns-then-best-le1
returns-then-best-le1 c =
    let a = c.args in
    passed-one (byte_test a.depth a.x) c.requires c.loop-body.invariant c.if-best-le1.true
