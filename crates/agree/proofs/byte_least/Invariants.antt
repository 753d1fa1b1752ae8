-- `byte_least` meets its contract.
use Prim.Native.Nat.{◌-◌}
use Rattle.agree.specs.Tests.{byte_test}
use Rattle.agree.proofs.Laws.Agree.{Searching}
use Rattle.agree.proofs.byte_least.Given as goal

abbrev pub invariant-loop-s : goal.invariant-loop-s
invariant-loop-s l = Searching (byte_test l.depth l.x l.body) l.best l.s

abbrev pub decreases-loop-s : goal.decreases-loop-s
decreases-loop-s l = l.best - l.s
