use Rattle.trie.specs.Lent.{tables_of}
use Rattle.scan.proofs.Laws.StepsChoose.{leaf-stops, full-stops, not-stops, ends_is, wants_is}
use Rattle.scan.proofs.steps.choose.Goals as goal
use Rattle.scan.proofs.steps.choose.Goals.{then-tables-node-eq0-via-then-tables-node-eq0, then-tables-node-eq0-via-else-tables-node-eq0+then-scan-2}

pub returns-then-tables-node-eq0 : goal.returns-then-tables-node-eq0
returns-then-tables-node-eq0 c =
    let t = tables_of c.args.tables.now in
    let s = c.args.scan.now in
    ends_is t s c.if-scan.false (elim c.then-tables-node-eq0.branch [
      | then-tables-node-eq0-via-then-tables-node-eq0 w ↦ leaf-stops t s w.if-tables-node-eq0.true
      | then-tables-node-eq0-via-else-tables-node-eq0+then-scan-2 w ↦ full-stops t s w.if-scan-2.true
    ])

pub returns-in-None : goal.returns-in-None
returns-in-None c =
    let t = tables_of c.args.tables.now in
    let s = c.args.scan.now in
    let k = c.recall in
    wants_is t s c.if-scan.false (not-stops t s c.if-tables-node-eq0.false c.if-scan-2.false) k.result k.ensures c.in-None.is
