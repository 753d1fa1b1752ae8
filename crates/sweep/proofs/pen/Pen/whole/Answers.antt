-- `sweep::pen::Pen::whole` tells its lines one after another.
use Rattle.std.specs.Prelude.{◌-◌, ◌≡◌}
use Rattle.std.proofs.Common.{arith}
use Rattle.std.proofs.KnownBytes.{Appends-trans}
use Rattle.std.proofs.lemmas.Result.{on_ok_weaker}
use Rattle.sweep.proofs.pen.Pen.whole.Goals as goal

pub returns : goal.returns
returns g c =
    let all : c.args.found.hits - 0 ≡ c.args.found.hits = omega arith in
    let first = rw c.first_line.ensures at c.in_ok-line.ensures.told in
    let hits = rw all at c.in_ok-hits.ensures in
    on_ok_weaker c.end.result (λ last. Appends-trans _ _ _ _ _ (Appends-trans _ _ _ _ _ first hits) last) c.end.ensures
