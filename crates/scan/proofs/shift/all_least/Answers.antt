use native.Mathlib.Omega.{arith}
use mathlib.Core.Path.{◌∙◌}
use mathlib.Core.Logic.{inl, inr}
use Rattle.trie.specs.Lent.{tables_of}
use Rattle.scan.proofs.Laws.Shift.{lowered-begins, lowered-bare, lowered-again, lowered-done}
use Rattle.scan.proofs.shift.all_least.Goals as goal
use Rattle.scan.proofs.shift.all_least.Goals.{then-loop-v-test+else-entry-best, else-loop-v-test}

pub loop-v-init : goal.loop-v-init
loop-v-init c =
    let a = c.args in
    (omega arith, lowered-begins (tables_of a.tables.now) a.deep a.x c.requires.near)

pub returns-in_default : goal.returns-in_default
returns-in_default c =
    let a = c.args in
    let t = tables_of a.tables.now in
    let found = lowered-bare t a.deep a.x c.requires.near c.loop-v.invariant.1 a.count (rw c.in_default.is at c.carrier.ensures) in
    omega (arith, lowered-done t a.deep a.x c.requires.near found a.count a.entry (omega arith) (inl (omega arith)), c.if-entry-best.true)

pub loop-v-preserved : goal.loop-v-preserved
loop-v-preserved c =
    let a = c.args in
    let t = tables_of a.tables.now in
    let n = rw c.in-Some.is at c.carrier.ensures in
    (omega (arith, n.1), lowered-again t a.deep a.x c.requires.near (lowered-bare t a.deep a.x c.requires.near c.loop-v.invariant.1 c.in-Some.at n.0) n.2 c.lower-best.result c.lower-best.ensures)

pub returns : goal.returns
returns c =
    let a = c.args in
    c.max.ensures
    ∙ lowered-done (tables_of a.tables.now) a.deep a.x c.requires.near c.loop-v.invariant.1 a.count a.entry c.loop-v.invariant.0
    (elim c.loop-v-test.branch [ then-loop-v-test+else-entry-best w ↦ inr w.if-entry-best.false | else-loop-v-test w ↦ inl w.loop-v-test.false ])
