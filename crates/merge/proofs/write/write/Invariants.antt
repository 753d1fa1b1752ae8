-- `write::write` meets its contract: the records merged so far stand in the output (`Written`).
use Prim.Native.Nat.{◌-◌}
use lib.ListN.{length}
use Rattle.merge.proofs.Laws.Write.{Written}
use Rattle.merge.proofs.write.write.Given as goal

abbrev pub invariant-loop-size : goal.invariant-loop-size
invariant-loop-size l = Written l.first l.second l.initial.out l.out l.to l.at l.i

abbrev pub decreases-loop-size : goal.decreases-loop-size
decreases-loop-size l = length l.second - l.at
