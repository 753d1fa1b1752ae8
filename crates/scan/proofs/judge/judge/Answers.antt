use native.Mathlib.Omega.{arith}
use Rattle.std.proofs.lemmas.Grind.{common_steps}
use Rattle.scan.proofs.Laws.Judge.{agree_is}
use Rattle.scan.proofs.judge.judge.Goals as goal

pub returns-then-scan-turn : goal.returns-then-scan-turn
returns-then-scan-turn c = grind (arith, common_steps, agree_is c.args.scan.now.due c.args.turn)

pub returns : goal.returns
returns c = grind (arith, common_steps, agree_is c.args.scan.now.due c.args.turn)
