use Prim.Native.Nat.{◌<◌}
use native.Mathlib.Omega.{arith}
use mathlib.Core.Path.{◌∙◌}
use Rattle.trie.proofs.Laws.Kids.{gathering-none, gathering-end, gathering-old, gathering-new}
use Rattle.trie.proofs.chain.root_children.Goals as goal
use Rattle.trie.proofs.chain.root_children.Goals.{then-kids-x-eq0, else-kids-x-eq0}

pub loop-left-init : goal.loop-left-init
loop-left-init c =
    let a = c.args in
    gathering-none a.tables.now.label.now a.tables.now.first.now a.tables.now.next.now a.count c.entry-at.result c.entry-at.ensures.0
    c.entry-at.ensures.1

pub loop-left-preserved : goal.loop-left-preserved
loop-left-preserved c =
    let byte : c.from-x.result < 256 =
    omega (arith, c.from-x.ensures) in
    let a = c.args in
    let n : c.entry-at-in-loop-left.result < 65536 = c.entry-at-in-loop-left.ensures.1 in
    let some = c.if-at-ne0.true in
    elim c.if-kids-x-eq0.branch [
      | then-kids-x-eq0 w ↦ rw w.kids-is (gathering-new a.tables.now.label.now a.tables.now.first.now a.tables.now.next.now a.count c.loop-left.invariant c.loop-left-test.true some
          c.from-x.result (c.from-x.ensures ∙ c.label_at.ensures) c.entry-at-in-loop-left.result c.entry-at-in-loop-left.ensures.0 n byte w.if-kids-x-eq0.true)
      | else-kids-x-eq0 w ↦ rw w.kids-is (gathering-old a.tables.now.label.now a.tables.now.first.now a.tables.now.next.now a.count c.loop-left.invariant c.loop-left-test.true some
          c.from-x.result (c.from-x.ensures ∙ c.label_at.ensures) c.entry-at-in-loop-left.result c.entry-at-in-loop-left.ensures.0 n w.if-kids-x-eq0.false)
    ]

pub returns-else-at-ne0 : goal.returns-else-at-ne0
returns-else-at-ne0 c = gathering-end _ _ _ _ c.loop-left.invariant c.if-at-ne0.false
