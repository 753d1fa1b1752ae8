use Rattle.std.proofs.Common.{Ok, Err, sym, ◌∙◌}
use Rattle.trie.specs.Lent.{tables_of}
use Rattle.trie.proofs.Laws.Chain.{walked-child}
use Rattle.trie.proofs.chain.child.Goals as goal

-- `child` meets its contract: the walk finds what `child_by` finds.
pub returns-in-Ok : goal.returns-in-Ok
returns-in-Ok c = let a = c.args in
    walked-child (tables_of a.tables.now) a.byte a.count a.node _ (Ok _) c.entry.ensures.0
    (sym c.in-Ok.is ∙ c.walk.ensures)

pub returns-in-Err : goal.returns-in-Err
returns-in-Err c = let a = c.args in
    walked-child (tables_of a.tables.now) a.byte a.count a.node _ (Err _) c.entry.ensures.0
    (sym c.in-Err.is ∙ c.walk.ensures)
