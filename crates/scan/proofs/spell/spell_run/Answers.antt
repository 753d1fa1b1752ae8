use mathlib.Core.Path.{sym, ◌∙◌}
use native.Mathlib.Omega.{arith}
use Rattle.scan.proofs.Laws.Spell.{run-again}
use Rattle.scan.proofs.spell.spell_run.Goals as goal

pub loop-at-preserved : goal.loop-at-preserved
loop-at-preserved c =
    let i = c.loop-at.invariant in
    let after = run-again i.0.tree.falling i.1 i.0.below (omega arith) (sym c.from.ensures ∙ c.if-from-below.false) in
    (i.0, run-again i.0.tree.falling after i.0.below (omega arith) (sym c.from-in-loop-at.ensures ∙ c.if-from-under.false))

pub returns-then-from-under : goal.returns-then-from-under
returns-then-from-under c =
    let i = c.loop-at.invariant in
    run-again i.0.tree.falling i.1 i.0.below (omega arith) (sym c.from.ensures ∙ c.if-from-below.false)
