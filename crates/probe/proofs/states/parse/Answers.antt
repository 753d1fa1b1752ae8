-- What the first numbers say.
use Rattle.std.proofs.Common.{◌≡◌, ℕ, List}
use Rattle.probe.proofs.Laws.States.{first-numbers}
use Rattle.probe.proofs.states.parse.Goals as goal

pub returns : goal.returns
returns c =
    rw (c.stretch.ensures, c.stretch-2.ensures, c.stretch-3.ensures, c.stretch-4.ensures, c.stretch-5.ensures)
    (first-numbers c.args.numbers.now _ c.in_ok-numbers.ensures.cases c.if-due-gt1.false)
