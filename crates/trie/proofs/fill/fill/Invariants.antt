-- `fill` meets its contract: the tables hold the tokens so far, and the bodies left are to come (`Filling`).
use Rattle.trie.specs.Lent.{written_of, SameMemory}
use Rattle.trie.proofs.Laws.TokensInPlace.{Filling}
use Rattle.trie.proofs.fill.fill.Given as goal

abbrev pub invariant-loop-body : goal.invariant-loop-body
invariant-loop-body l =
    Filling l.book (written_of l.initial.tables) (written_of l.tables) l.count l.body-iterator l.number × SameMemory l.initial.tables l.tables
