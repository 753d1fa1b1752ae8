use Rattle.scan.proofs.Laws.Steps.{took-on}
use Rattle.scan.proofs.steps.take_byte.Goals as goal

pub returns-in-Some : goal.returns-in-Some
returns-in-Some c =
    let a = c.args in
    let k = c.child in
    took-on _ a.scan.now a.byte k.result k.ensures
    c.in-Some.v c.in-Some.is c.requires
