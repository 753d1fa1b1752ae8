-- `Bodies::next` meets its contract.
use Rattle.std.proofs.Common.{arith, ap, sym, ◌∙◌, length}
use Rattle.book.proofs.Laws.Bodies.{bodies-next}
use Rattle.book.proofs.records.BodiesIterator.next.Goals as goal

pub returns-clause-steps : goal.returns-clause-steps
returns-clause-steps c = sym c.self.view_is ∙ bodies-next c.self.inside.rest.now c.body_at-size.ensures c.if-size-eq0.false

pub returns-clause-goes : goal.returns-clause-goes
returns-clause-goes c = omega (arith, ap length (sym c.self.view_is ∙ bodies-next c.self.inside.rest.now c.body_at-size.ensures c.if-size-eq0.false))
