use mathlib.Core.Path.{ap, ◌∙◌}
use Rattle.std.proofs.Common.{rules, tests}
use Rattle.std.proofs.lemmas.Iterator.{YieldsList-from_slice}
use Rattle.std.proofs.lemmas.Iterator.Search.{YieldsList-from_take_while, find_from_yields_List}
use Rattle.scan.specs.State.{stretch_of, in_use}
use Rattle.scan.specs.Memory.{covers, holder_of}
use Rattle.scan.proofs.Laws.Stretches.{used-holding}
use Rattle.scan.proofs.stretches.seek.Goals as goal

-- `seek` meets its contract: the slots in use are asked, one after the other.
pub returns : goal.returns
returns c =
    let slots = c.args.slots.now in
    ap holder_of (c.copied.ensures ∙ find_from_yields_List (λ s. covers c.args.at (stretch_of s)) _ _ c.find.result c.find.ensures.ran
    (YieldsList-from_take_while _ in_use (YieldsList-from_slice slots (cc)) c.take_while.ensures.closure c.take_while.ensures.done (λ x b q k. search (rules, tests)))
    (λ x b q k. search (rules, tests)))
    ∙ used-holding c.args.at slots
