use native.Mathlib.Omega.{arith}
use borrow.Author.Rules.{rules}
use Rattle.image.proofs.Laws.Runs.{powers-going, powers-more}
use Rattle.image.proofs.runs.Runs.raise.Goals as goal

pub loop-self-preserved : goal.loop-self-preserved
loop-self-preserved c =
    let i = c.loop-self.invariant in (
      rw i.1
          (powers-more (powers-going i.1 i.0) c.child.result c.child.ensures c.requires.tables c.in-Some.v c.in-Some.is
          (omega (arith, c.requires.most)) c.keep-met.result c.keep-met.new.kept c.keep-met.ensures.size c.keep-met.ensures.kept (search rules)),
      i.1,
      i.2,
      i.3,
      i.4,
    )
