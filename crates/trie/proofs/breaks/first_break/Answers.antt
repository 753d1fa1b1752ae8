use native.Mathlib.Omega.{arith}
use mathlib.Core.Path.{ap, sym, ◌∙◌}
use Rattle.tables.specs.Broken.{tested}
use Rattle.trie.specs.Lent.{tables_of}
use Rattle.trie.proofs.Laws.NodeByNode.{long-enough, root-breaks, root-passes}
use Rattle.trie.proofs.breaks.first_break.Goals as goal

pub returns-then-not-root_sound : goal.returns-then-not-root_sound
returns-then-not-root_sound c = let a = c.args in let t = tables_of a.tables.now in
    ap tested (sym (long-enough t a.count c.shortest-shortest.result c.shortest-shortest.ensures c.if-shortest-count.false
    ∙ root-breaks t a.count (omega (arith, c.if-count-eq0.false)) (sym c.root_sound.ensures ∙ c.if-not-root_sound.true)))

pub returns : goal.returns
returns c = let a = c.args in let t = tables_of a.tables.now in
    c.later_break.ensures ∙ ap tested (sym (long-enough t a.count c.shortest-shortest.result c.shortest-shortest.ensures c.if-shortest-count.false
    ∙ root-passes t a.count (omega (arith, c.if-count-eq0.false)) (sym c.root_sound.ensures ∙ c.if-not-root_sound.false)))
