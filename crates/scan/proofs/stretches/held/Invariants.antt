-- `held` meets its contract: the slots filled so far, and those left to look at.
use Rattle.scan.proofs.Laws.StretchesSift.{Sifting}
use Rattle.scan.proofs.stretches.held.Given as goal

abbrev pub invariant-loop-s : goal.invariant-loop-s
invariant-loop-s l = Sifting l.slots l.from l.b l.f l.s-index
