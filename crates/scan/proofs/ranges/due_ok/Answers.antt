use mathlib.Core.Path.{sym}
use borrow.Author.Tests.{le-ltb, ne_eqb}
use Rattle.trie.specs.Lent.{tables_of}
use Rattle.scan.proofs.Laws.RangesDue.{due-tests}
use Rattle.scan.proofs.ranges.due_ok.Goals as goal

-- `due_ok` meets its contract: where nothing was refused, the place must not be remembered.
pub returns-then-scan-2 : goal.returns-then-scan-2
returns-then-scan-2 c =
    let s = c.args.scan.now in
    sym (due-tests (tables_of c.args.tables.now) s c.if-not-scan.false (le-ltb _ _ c.if-scan.false) (ne_eqb _ _ c.if-tables-node-eq0.false)
    (ne_eqb _ _ c.if-scan-2.true) (sym c.remembered.ensures))
