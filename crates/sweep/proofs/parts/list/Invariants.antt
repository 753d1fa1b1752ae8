-- `sweep::parts::list` ends: each part goes on.
use Prim.Native.Nat.{◌-◌, ◌≤◌}
use lib.ListN.{length}
use Rattle.sweep.proofs.parts.list.Given as goal

abbrev pub invariant-loop-at : goal.invariant-loop-at
invariant-loop-at g l = l.at ≤ length l.job.image.now

abbrev pub decreases-loop-at : goal.decreases-loop-at
decreases-loop-at g l = length l.job.image.now - l.at
