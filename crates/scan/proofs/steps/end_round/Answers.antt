use Rattle.rules.specs.Options.{option_of}
use Rattle.scan.proofs.Laws.Steps.{ended-state}
use Rattle.scan.proofs.steps.end_round.Goals as goal

-- `end_round` meets its contract: the shift is found, what is remembered at the new boundary is kept, and the hits are left.
pub returns : goal.returns
returns c =
    let by = c.shift in
    let kept = c.remember-scan in
    let v = c.carrier-hit in
    ended-state c.requires (option_of c.args.closing) by.result kept.result v.result by.ensures kept.ensures v.ensures
    _ c.owe.ensures
