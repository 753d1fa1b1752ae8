use Rattle.scan.proofs.Laws.Stretches.{via}
use Rattle.scan.proofs.Laws.StretchesSift.{sifting-again}
use Rattle.scan.proofs.stretches.held.Goals as goal

pub loop-s-preserved : goal.loop-s-preserved
loop-s-preserved c = let used = c.in_use in
    sifting-again c.loop-s.invariant c.loop-s-test.true (via used.result used.ensures c.if-not-in_use.false) c.sift-f.result c.sift-f.ensures
