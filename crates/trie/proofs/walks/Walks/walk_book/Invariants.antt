-- `walk_book` meets its contract: the words of the bodies passed are walked (`Walked`).
use Rattle.std.proofs.Common.{◌≡◌, length, map}
use Rattle.trie.specs.Filling.{lows}
use Rattle.trie.specs.Lent.{tables_of}
use Rattle.trie.proofs.Laws.WalksInPlace.{Walked}
use Rattle.trie.proofs.walks.Walks.walk_book.Given as goal

abbrev pub invariant-loop-body : goal.invariant-loop-body
invariant-loop-body l =
    Walked (tables_of l.self.tree) l.self.count l.self.kids l.book l.self.shortest (lows l.initial.met l.initial.whole) l.met l.whole (map (λ x. x.now) l.yielded)
    × (length l.met ≡ length l.initial.met) × (length l.whole ≡ length l.initial.whole)
