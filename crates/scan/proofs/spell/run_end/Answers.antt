use mathlib.Core.Path.{sym, ◌∙◌}
use Rattle.scan.proofs.Laws.Spell.{run-climbs}
use Rattle.scan.proofs.spell.run_end.Goals as goal

pub loop-at-preserved : goal.loop-at-preserved
loop-at-preserved c = let l = c.loop-at in (
  l.invariant.0,
  run-climbs l.invariant.0.tree.falling l.invariant.1 l.invariant.0.below c.loop-at-test.true (sym c.from.ensures ∙ c.if-from-below.false),
)
