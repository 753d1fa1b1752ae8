use mathlib.Core.Path.{◌∙◌}
use lib.ListN.{length-set}
use Rattle.trie.proofs.Laws.FillingInPlace.{handing-on}
use Rattle.trie.proofs.shifts.hand_down.Goals as goal

-- The node's own, lowered to the least of it and of the one above.
pub loop-v-preserved : goal.loop-v-preserved
loop-v-preserved c =
    let low = rw c.from-above.ensures at c.min-low.ensures in (
      handing-on c.loop-v.invariant.0 c.loop-v-test.true c.min-low.result low c.lower.new.table (rw c.from.ensures at c.lower.ensures),
      c.lower.auto.table ∙ c.loop-v.invariant.1,
      length-set c.loop-v.whole c.loop-v.v c.min-low.result ∙ c.loop-v.invariant.2,
    )
