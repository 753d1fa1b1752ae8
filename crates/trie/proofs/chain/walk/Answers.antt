use Prim.Native.Nat.{◌-◌}
use mathlib.Core.Path.{ap, sym, ◌∙◌}
use Rattle.trie.specs.Chain.{walked}
use Rattle.trie.proofs.Laws.Chain.{walked_on}
use Rattle.trie.proofs.chain.walk.Goals as goal

pub loop-left-preserved : goal.loop-left-preserved
loop-left-preserved c = let a = c.args in
    let l = c.loop-left in
    l.invariant
    ∙ walked_on a.label.now a.next.now a.byte l.left l.last l.at c.if-left-eq0.false c.if-at-eq0.false
    (λ e. c.if-label_at-byte.false (c.label_at.ensures ∙ e))
    ∙ ap (walked a.label.now a.next.now a.byte (l.left - 1) l.at) (sym c.entry-at.ensures.0)
