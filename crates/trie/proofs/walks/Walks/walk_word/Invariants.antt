-- `walk_word` meets its contract: the walks from s on are still to come (`Shifting`).
use Prim.Native.Nat.{◌-◌}
use mathlib.Core.Path.{◌≡◌}
use lib.ListN.{length}
use Rattle.trie.specs.Lent.{tables_of, word_of}
use Rattle.trie.specs.Filling.{lows}
use Rattle.trie.proofs.Laws.WalksInPlace.{Shifting}
use Rattle.trie.proofs.walks.Walks.walk_word.Given as goal

abbrev pub invariant-loop-s : goal.invariant-loop-s
invariant-loop-s l =
    Shifting (tables_of l.self.tree) l.self.count l.self.kids (word_of l.word) l.self.shortest (lows l.initial.met l.initial.whole) l.met l.whole l.s
    × (length l.met ≡ length l.initial.met) × (length l.whole ≡ length l.initial.whole)

abbrev pub decreases-loop-s : goal.decreases-loop-s
decreases-loop-s l = l.self.shortest - l.s
