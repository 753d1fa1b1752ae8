-- `sweep::pen::Pen::room` keeps what was written and what waits.
use Rattle.std.proofs.Common.{ap, take}
use Rattle.std.proofs.lemmas.Result.{on_ok_weaker}
use Rattle.sweep.specs.Lines.{waits}
use Rattle.sweep.proofs.Laws.Told.{flushed}
use Rattle.sweep.proofs.pen.Pen.room.Goals as goal

pub returns-then-self-lt-LONGEST-clause-told : goal.returns-then-self-lt-LONGEST-clause-told
returns-then-self-lt-LONGEST-clause-told g c = let p = c.args.self.now in
    let q = c.flush.new.self in
    on_ok_weaker c.flush.result (λ h. flushed (g.W.Write.contents p.to) (g.W.Write.contents q.to) (waits p.buffer) (waits q.buffer) h (ap (λ n. take n q.buffer.bytes) c.flush.ensures.used)) c.flush.ensures.written
