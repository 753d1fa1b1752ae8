use mathlib.Core.Path.{ap, ◌∙◌}
use lib.Dec.{leb}
use Rattle.std.proofs.Common.{rules, tests}
use Rattle.std.proofs.lemmas.Iterator.{YieldsList-from_slice}
use Rattle.std.proofs.lemmas.Iterator.Search.{YieldsList-from_take_while, all_from_yields_List}
use Rattle.scan.specs.State.{in_use}
use Rattle.scan.proofs.Laws.Stretches.{used-upto}
use Rattle.scan.proofs.ranges.up_to.Goals as goal

-- `up_to` meets its contract: the slots in use are asked, one after the other.
pub returns : goal.returns
returns c =
    let slots = c.args.slots.now in
    all_from_yields_List (λ s. leb s.right c.args.end) _ _ c.all.result c.all.ensures.ran
    (YieldsList-from_take_while _ in_use (YieldsList-from_slice slots (ap (λ i. i.rest.now) c.take_while.ensures.source ∙ c.iter.ensures.rest)) c.take_while.ensures.closure c.take_while.ensures.done (λ x b q k. search (rules, tests)))
    (λ x b q k. search (rules, tests))
    ∙ used-upto c.args.end slots
