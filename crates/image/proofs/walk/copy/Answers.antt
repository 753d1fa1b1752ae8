-- `copy` meets its contract.
use native.Mathlib.Omega.{arith}
use Rattle.image.proofs.Laws.WalkAlong.{copied}
use Rattle.image.proofs.walk.copy.Goals as goal

pub returns : goal.returns
returns c = copied _ _ _ _ c.copy_from_slice.ensures.after (omega (arith, c.requires, c.well_formed))
