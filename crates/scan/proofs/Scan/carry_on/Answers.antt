use Rattle.scan.proofs.Laws.Judge.{carry-goes}
use Rattle.scan.proofs.Scan.carry_on.Goals as goal

-- `carry_on` meets its contract: a call that is not refused runs on.
pub settle-requires : goal.settle-requires
settle-requires c = carry-goes _ c.args.self c.judge.result c.in-Ok.is c.judge.ensures
