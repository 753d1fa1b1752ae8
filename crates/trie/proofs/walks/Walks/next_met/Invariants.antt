-- `next_met` meets its contract: the shifts passed have no such child.
use Prim.Native.Nat.{ℕ, ◌≤◌, ◌<◌}
use mathlib.Core.Path.{◌≡◌}
use Rattle.trie.specs.Lent.{word_of}
use Rattle.trie.specs.Filling.{head_at}
use Rattle.trie.proofs.walks.Walks.next_met.Given as goal

abbrev pub invariant-loop-at : goal.invariant-loop-at
invariant-loop-at l =
    (l.s ≤ l.at) × (l.at ≤ l.self.shortest) × ((j : ℕ) → l.s ≤ j → j < l.at → head_at l.self.kids (word_of l.word) j ≡ 0)
