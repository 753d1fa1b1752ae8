use Rattle.trie.specs.Lent.{tables_of}
use Rattle.scan.proofs.Laws.StepsSupply.{counted-steps, taken-goes}
use Rattle.scan.proofs.steps.supply_due.Goals as goal

-- `supply_due` meets its contract: the byte is counted and taken, and the call runs on.
pub take_byte-requires : goal.take_byte-requires
take_byte-requires c = let a = c.args in
    counted-steps (tables_of a.tables.now) a.scan a.byte c.requires _ c.count_byte.ensures

pub settle-requires : goal.settle-requires
settle-requires c = let a = c.args in
    taken-goes (tables_of a.tables.now) a.scan a.byte c.requires _ c.count_byte.ensures _ c.take_byte.ensures
