-- The slots one by one.
use borrow.Author.Rules.{rules}
use Rattle.probe.proofs.Laws.States.{numbered}
use Rattle.probe.proofs.states.numbers_of.Goals as goal

pub returns : goal.returns
returns c = numbered c.args.s.now c.from.result (search rules) c.from.ensures
