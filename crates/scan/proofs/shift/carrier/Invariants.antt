-- `carrier` meets its contract: what was passed carries no token.
use Prim.Native.Nat.{◌-◌, ◌≤◌}
use Rattle.scan.specs.Shifts.{Bare}
use Rattle.scan.proofs.shift.carrier.Given as goal

abbrev pub invariant-loop-at : goal.invariant-loop-at
invariant-loop-at l = Bare l.token l.v l.at × (l.at ≤ l.count)

abbrev pub decreases-loop-at : goal.decreases-loop-at
decreases-loop-at l = l.count - l.at
