use mathlib.Core.Path.{sym, ◌∙◌}
use native.Mathlib.Omega.{arith}
use borrow.Author.Tests.{le-leb}
use Rattle.book.specs.Book.{max_image}
use Rattle.scan.specs.State.{max_supplied, max_spared}
use Rattle.scan.proofs.Laws.Ranges.{range-last, passing-in}
use Rattle.scan.proofs.ranges.in_range.Goals as goal

-- `in_range` meets its contract: each way out knows its tests, in the order of the definition.
pub lies-requires : goal.lies-requires
lies-requires c = passing-in c.requires c.between.ensures c.if-not-between.false

pub stretches_ok-requires-clause-tree : goal.stretches_ok-requires-clause-tree
stretches_ok-requires-clause-tree c = passing-in c.requires c.between.ensures c.if-not-between.false

pub due_ok-requires-clause-tree : goal.due_ok-requires-clause-tree
due_ok-requires-clause-tree c = passing-in c.requires c.between.ensures c.if-not-between.false

pub left_ok-requires-clause-tree : goal.left_ok-requires-clause-tree
left_ok-requires-clause-tree c = passing-in c.requires c.between.ensures c.if-not-between.false

pub returns : goal.returns
returns c =
    let s = c.args.scan.now in
    range-last _ s
    (sym c.between.ensures ∙ c.if-not-between.false)
    (le-leb s.image max_image (omega (arith, c.if-scan-gt-IMAGE.false)))
    (sym c.between-2.ensures ∙ c.if-not-between-2.false)
    (sym c.lies.ensures ∙ c.if-not-lies.false)
    (sym c.between-3.ensures ∙ c.if-not-between-3.false)
    (le-leb s.supplied max_supplied (omega (arith, c.if-scan-gt-SUPPLIED.false)))
    (le-leb s.spared max_spared (omega (arith, c.if-scan-gt-SPARED.false)))
    (sym c.stretches_ok.ensures ∙ c.if-not-stretches_ok.false)
    (sym c.due_ok.ensures ∙ c.if-not-due_ok.false)
    c.left_ok.ensures
