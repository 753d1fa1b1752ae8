-- `mark` meets its contract: to put the hits left from here is to put all of them.
use Rattle.image.specs.Hits.{SameBuffers}
use Rattle.image.proofs.Laws.WalkMark.{Marking}
use Rattle.image.proofs.hits.HitsMut.mark.Given as goal

abbrev pub invariant-loop-left : goal.invariant-loop-left
invariant-loop-left l =
    Marking l.kept l.met l.b l.initial.n l.initial.self.ends.now l.initial.self.tokens.now l.self.ends.now l.self.tokens.now l.left l.n
    × SameBuffers l.initial.self l.self
