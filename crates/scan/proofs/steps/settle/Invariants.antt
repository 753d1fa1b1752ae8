-- `settle` meets its contract. The loop's invariant is `Runs`: the rest of the run from here is the whole run. The measure is the
-- steps that are left.
use Rattle.book.specs.Book.{max_body}
use Rattle.trie.specs.Lent.{tables_of}
use Rattle.scan.proofs.Laws.StepsSettle.{Runs}
use Rattle.scan.proofs.steps.settle.Given as goal
use Rattle.rules.specs.Configs.{steps_left}

abbrev pub invariant-loop-at : goal.invariant-loop-at
invariant-loop-at l = Runs (tables_of l.tables) l.initial.at l.at

abbrev pub decreases-loop-at : goal.decreases-loop-at
decreases-loop-at l = steps_left l.initial.at.image max_body l.at.boundary l.at.depth
