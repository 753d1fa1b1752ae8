use mathlib.Core.Path.{◌∙◌}
use Rattle.std.proofs.Common.{rules, tests}
use Rattle.std.proofs.lemmas.Iterator.{YieldsList-from_slice}
use Rattle.std.proofs.lemmas.Iterator.Search.{YieldsList-from_take_while}
use Rattle.std.proofs.lemmas.Iterator.Consumers.{fold_from_yields_List}
use Rattle.rules.specs.Stretches.{farther_of}
use Rattle.scan.specs.State.{stretch_of, in_use}
use Rattle.scan.proofs.Laws.Stretches.{used-edge}
use Rattle.scan.proofs.stretches.edge.Goals as goal

-- `edge` meets its contract: the slots in use are passed, one after the other.
pub returns : goal.returns
returns c =
    let slots = c.args.slots.now in
    fold_from_yields_List _ (λ far s. farther_of c.args.from far (stretch_of s)) c.args.from c.fold.result c.fold.ensures.ran
    (YieldsList-from_take_while _ in_use (YieldsList-from_slice slots (cc)) c.take_while.ensures.closure c.take_while.ensures.done (λ x b q k. search (rules, tests)))
    (λ a x b q k. search (rules, tests))
    ∙ used-edge c.args.from slots
