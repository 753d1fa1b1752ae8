-- `write::put` meets its contract: what is not wanted changes nothing, and what is wanted is copied.
use borrow.Author.Rules.{rules}
use mathlib.Core.Path.{refl}
use Rattle.merge.proofs.Laws.Write.{placed-none, placed-copy}
use Rattle.merge.proofs.write.put.Goals as goal

pub returns-then-not-wanted : goal.returns-then-not-wanted
returns-then-not-wanted c = rw c.if-not-wanted.true (search rules, placed-none c.args.out.now c.args.to)

pub returns : goal.returns
returns c = rw c.if-not-wanted.false (refl, placed-copy c.args.out.now c.args.to c.args.part.now _ c.copy_from_slice.ensures.after)
