-- `begin` meets its contract: the places from `i` up to b have one byte, and `i` falls.
use Prim.Native.Nat.{◌<◌}
use Rattle.image.specs.Runs.{Equal}
use Rattle.image.proofs.runs.begin.Given as goal

abbrev pub invariant-loop-i : goal.invariant-loop-i
invariant-loop-i l = (l.i < l.b) × Equal l.image l.i l.b

abbrev pub decreases-loop-i : goal.decreases-loop-i
decreases-loop-i l = l.i
