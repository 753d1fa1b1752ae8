-- `sweep::lines::Buffer::number` meets its contract: the fewest digits are the decimal ones.
use Rattle.std.proofs.Common.{ap, ◌∙◌, ◌++◌}
use Rattle.sweep.specs.Lines.{waits}
use Rattle.sweep.proofs.Laws.Lines.{digits_decimal}
use Rattle.sweep.proofs.lines.Buffer.number.Goals as goal

pub returns-clause-waits : goal.returns-clause-waits
returns-clause-waits c = let d = c.decimal-k.ensures in
    c.append.ensures.waits ∙ ap (λ s. waits c.args.self.now ++ s) (d.digits ∙ digits_decimal c.args.n c.decimal-k.result d.len)
