use mathlib.Core.Path.{refl, sym, ◌∙◌}
use borrow.Author.Tests.{le-leb, lt-leb}
use Rattle.trie.specs.Lent.{tables_of}
use Rattle.scan.proofs.Laws.RangesStretches.{walk_end, stretches-is, stand-fails, stand-goes, stand-passes}
use Rattle.scan.proofs.ranges.stretches_ok.Goals as goal
use Rattle.scan.proofs.ranges.stretches_ok.Goals.{then-in_use+else-over+else-m-from+else-not-stretch_ok, else-in_use, then-over-via-then-over, then-over-via-else-over+then-m-from}

pub returns-then-over : goal.returns-then-over
returns-then-over c =
    let l = c.loop-m in
    let t = tables_of c.args.tables.now in
    let h = c.loop-m-test.true in
    let used = sym c.in_use.ensures ∙ c.if-in_use.true in
    elim c.then-over.branch [
      | then-over-via-then-over w ↦ stand-fails t c.args.scan.now l.over l.from l.invariant h used w.if-over.true refl refl refl
      | then-over-via-else-over+then-m-from w ↦ stand-fails t c.args.scan.now l.over l.from l.invariant h used w.if-over.false (lt-leb _ _ w.if-m-from.true) refl refl
    ]

pub returns-then-not-stretch_ok : goal.returns-then-not-stretch_ok
returns-then-not-stretch_ok c =
    let l = c.loop-m in
    let t = tables_of c.args.tables.now in
    stand-fails t c.args.scan.now l.over l.from l.invariant c.loop-m-test.true (sym c.in_use.ensures ∙ c.if-in_use.true) c.if-over.false
    (le-leb _ _ c.if-m-from.false) (sym c.stretch_ok.ensures ∙ c.if-not-stretch_ok.true) refl

pub returns : goal.returns
returns c =
    let w = c.loop-m.invariant in
    walk_end w c.loop-m-test.false ∙ stretches-is (tables_of c.args.tables.now) c.args.scan.now w.long

pub loop-m-preserved : goal.loop-m-preserved
loop-m-preserved c =
    let l = c.loop-m in
    let t = tables_of c.args.tables.now in
    let s = c.args.scan.now in
    elim c.if-in_use.branch [
      | then-in_use+else-over+else-m-from+else-not-stretch_ok w ↦
          stand-goes t s l.over l.from l.invariant c.loop-m-test.true _ w.over-is _ (sym c.in_use.ensures ∙ w.if-in_use.true) w.if-over.false
          (le-leb _ _ w.if-m-from.false) (sym w.stretch_ok.ensures ∙ w.if-not-stretch_ok.false) w.from-is
      | else-in_use w ↦
          stand-passes t s l.over l.from l.invariant c.loop-m-test.true (sym c.in_use.ensures ∙ w.if-in_use.false) _ w.over-is _ w.from-is
    ]
