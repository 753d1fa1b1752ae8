-- Lent tables, as the definitions have them.
use Rattle.std.specs.Prelude.{ℕ, List, ◌≡◌}
use Rattle.tables.specs.Tables.{Tables}
use Rattle.trie.specs.declared.lent.Tables.{Tables as Lent}
use Rattle.tables.specs.Walks.{child_by}
use Rattle.trie.specs.InPlace.{reversed_if}
use Rattle.trie.specs.Filling.{Walkable}
use Rattle.trie.specs.declared.lent.TablesMut.{TablesMut}
use Rattle.trie.specs.declared.insert.Word.{Word}
use Rattle.trie.specs.declared.walks.Walks.{Walks}
use Rattle.std.proofs.Math.Option.{Option}

-- the tables that are read, and those that are written, as they stand
abbrev pub tables_of : Lent → Tables
tables_of t = record { parent = t.parent.now; label = t.label.now; token = t.token.now; first = t.first.now; next = t.next.now; shift = t.shift.now }

abbrev pub written_of : TablesMut → Tables
written_of t = record { parent = t.parent.now; label = t.label.now; token = t.token.now; first = t.first.now; next = t.next.now; shift = t.shift.now }

-- What is written goes into the same lent memory.
abbrev pub SameMemory : TablesMut → TablesMut → Type 0
SameMemory before after =
    (after.parent.ghost_name ≡ before.parent.ghost_name) × (after.label.ghost_name ≡ before.label.ghost_name)
    × (after.token.ghost_name ≡ before.token.ghost_name) × (after.first.ghost_name ≡ before.first.ghost_name)
    × (after.next.ghost_name ≡ before.next.ghost_name) × (after.shift.ghost_name ≡ before.shift.ghost_name)

-- the bytes of a word, which is a body in book order or reversed
abbrev pub word_of : Word → List ℕ
word_of w = reversed_if w.reversed w.body.now

-- The tree that walks go down, and that they may write into these lists.
abbrev pub child_in : Walks → ℕ → ℕ → Option ℕ
child_in w = child_by (tables_of w.tree) w.count

abbrev pub MayWalk : Walks → List ℕ → List ℕ → Type 0
MayWalk w met whole = Walkable (tables_of w.tree) w.count w.kids met whole
