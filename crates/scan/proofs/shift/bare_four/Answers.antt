use borrow.Author.Tests.{eqb-true}
use Rattle.scan.proofs.Laws.Shift.{bare-four}
use Rattle.scan.proofs.shift.bare_four.Goals as goal

-- `bare_four` meets its contract: where the four or together to 0, each is 0.
pub returns : goal.returns
returns c = let a = c.args in
    λ e. bare-four a.token.now a.v (eqb-true _ _ e)
