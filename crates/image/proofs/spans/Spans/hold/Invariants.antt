-- `hold` meets its contract: the stretches moved to the front so far, and those left to look at.
use Rattle.image.specs.Spans.{in_use}
use Rattle.image.proofs.Laws.SpansHold.{Holding}
use Rattle.image.proofs.spans.Spans.hold.Given as goal

abbrev pub invariant-loop-i : goal.invariant-loop-i
invariant-loop-i l = Holding (in_use l.initial.self) l.from l.next l.initial.self.used l.self.slots l.n l.i
