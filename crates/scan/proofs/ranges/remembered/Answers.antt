use mathlib.Core.Path.{◌∙◌}
use Rattle.scan.specs.State.{used}
use Rattle.scan.proofs.Laws.Stretches.{any_of-holds}
use Rattle.scan.proofs.ranges.remembered.Goals as goal

pub returns : goal.returns
returns c = c.is_some.ensures ∙ any_of-holds c.args.at (used c.args.scan.now.stretches) c.seek.result c.seek.ensures
