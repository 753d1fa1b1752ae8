-- `token` meets its contract. The loop's invariant is `Reach`: how many records are passed, and where the next one stands.
use Rattle.std.proofs.Common.{◌-◌}
use Rattle.book.proofs.Laws.Token.{Reach}
use Rattle.book.proofs.token.Given as goal

abbrev pub invariant-loop : goal.invariant-loop
invariant-loop l = Reach l.book l.i l.at (l.counter - 1)
