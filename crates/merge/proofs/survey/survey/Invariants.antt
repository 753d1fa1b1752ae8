-- `survey::survey` meets its contract. The loop's invariant is `Passed`: the marks and the sums are those of the tokens passed.
use Prim.Native.Nat.{◌-◌}
use lib.ListN.{length}
use Rattle.merge.proofs.Laws.Survey.{Passed}
use Rattle.merge.proofs.survey.survey.Given as goal

abbrev pub invariant-loop-marks : goal.invariant-loop-marks
invariant-loop-marks l = Passed l.first l.second l.marks l.tokens l.bodies l.length l.at l.i

abbrev pub decreases-loop-marks : goal.decreases-loop-marks
decreases-loop-marks l = length l.second - l.at
