-- `rule5::byte_shift` meets its contract: the best so far is that of the tokens passed, and a best of 1 that of all.
use Rattle.agree.specs.Tests.{byte_test}
use Rattle.image.proofs.Laws.Rule5.{Passed}
use Rattle.image.proofs.rule5.byte_shift.Given as goal

abbrev pub invariant-loop-body : goal.invariant-loop-body
invariant-loop-body l = Passed (byte_test l.depth l.x) l.book l.shortest l.best l.body-iterator
