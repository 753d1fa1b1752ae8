-- `mismatch` meets its contract: the bytes passed agree.
use Prim.Native.Nat.{◌-◌}
use lib.ListN.{length}
use Rattle.agree.proofs.Laws.Agree.{Agreed}
use Rattle.agree.proofs.mismatch.Given as goal

abbrev pub invariant-loop-k : goal.invariant-loop-k
invariant-loop-k l = Agreed l.known l.body l.s l.k

abbrev pub decreases-loop-k : goal.decreases-loop-k
decreases-loop-k l = length l.known - l.k
