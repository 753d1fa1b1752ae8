-- `insert` meets its contract: the bytes left make of the tables here what the whole word makes of those lent (`Inserting`).
use Prim.Native.Nat.{◌-◌}
use lib.ListN.{length}
use Rattle.trie.specs.Lent.{written_of, word_of, SameMemory}
use Rattle.trie.proofs.Laws.WordInPlace.{Inserting}
use Rattle.trie.proofs.insert.insert.Given as goal

abbrev pub invariant-loop-i : goal.invariant-loop-i
invariant-loop-i l =
    Inserting (word_of l.word) (written_of l.initial.tables) l.count (written_of l.tables) l.place.count l.place.node (length l.word.body.now - l.i)
    × SameMemory l.initial.tables l.tables
