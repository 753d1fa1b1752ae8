-- `sweep::pen::Pen::hits` meets its contract: each line stands behind those before it.
use Rattle.std.specs.Prelude.{◌-◌, ◌≡◌}
use Rattle.std.proofs.Common.{arith}
use Rattle.std.proofs.KnownBytes.{Appends-nil}
use Rattle.sweep.proofs.Laws.Told.{next_told}
use Rattle.sweep.specs.Told.{told}
use Rattle.sweep.proofs.pen.Pen.hits.Goals as goal

pub loop-i-init : goal.loop-i-init
loop-i-init g c =
    let e : c.args.part.before - c.args.part.before ≡ 0 = omega arith in
    (omega arith, rw e (Appends-nil (told g.W.Write.contents c.args.self.now)))

pub loop-i-preserved : goal.loop-i-preserved
loop-i-preserved g c = (omega arith, next_told _ _ _ _ _ _ _ _ c.loop-i.auto.i c.line.ensures c.loop-i.invariant.1 c.in_ok-line.ensures.told)

pub returns : goal.returns
returns g c =
    let e : c.loop-i.i - c.args.part.before ≡ c.args.part.hits - c.args.part.before = omega arith in
    rw e at c.loop-i.invariant.1
