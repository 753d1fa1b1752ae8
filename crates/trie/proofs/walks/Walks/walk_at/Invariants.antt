-- `walk_at` meets its contract: what is left of the walk from here on comes to what is left of it behind its first node (`Walking`).
use Prim.Native.Nat.{◌-◌}
use mathlib.Core.Path.{◌≡◌}
use mathlib.Core.List.{reverse}
use lib.ListN.{length, take}
use Rattle.trie.specs.Lent.{tables_of, word_of, child_in}
use Rattle.trie.specs.Filling.{lows, walked_at}
use Rattle.trie.proofs.Laws.FillingInPlace.{Walking}
use Rattle.trie.proofs.walks.Walks.walk_at.Given as goal

abbrev pub invariant-loop-left : goal.invariant-loop-left
invariant-loop-left l =
    Walking (tables_of l.self.tree) l.self.count (word_of l.word) l.s
    (walked_at (child_in l.self) l.s (reverse (take (length l.word.body.now - 1 - l.s) (word_of l.word))) l.initial.node (lows l.initial.met l.whole))
    (lows l.met l.whole) l.node l.left
    × (length l.met ≡ length l.initial.met)
