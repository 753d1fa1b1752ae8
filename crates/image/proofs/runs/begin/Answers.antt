use native.Mathlib.Omega.{arith}
use borrow.Author.Rules.{rules}
use Rattle.image.proofs.Laws.Runs.{equal-one, equal-more, equal-joined}
use Rattle.image.proofs.runs.begin.Goals as goal

pub loop-i-init : goal.loop-i-init
loop-i-init c = (search rules, equal-one c.args.image.now c.args.b)

pub loop-i-preserved : goal.loop-i-preserved
loop-i-preserved c =
    let a = c.args in
    (search rules, equal-more a.image.now a.b c.loop-i.i c.loop-i.invariant.1 c.if-image-i.false)

pub returns : goal.returns
returns c =
    let a = c.args in (
      omega (arith, c.if-i-till.false, c.loop-i.invariant.0, c.requires.before.0),
      equal-joined a.image.now a.b a.from a.till c.loop-i.i c.requires.before.1 c.loop-i.invariant.1 c.if-i-till.false c.if-image-i-2.false,
    )
