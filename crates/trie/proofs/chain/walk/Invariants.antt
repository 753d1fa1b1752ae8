-- `walk` meets its contract: the rest of the walk from here is the whole walk, and the nodes that it may still pass fall.
use mathlib.Core.Path.{◌≡◌}
use Rattle.trie.specs.Chain.{walked}
use Rattle.trie.proofs.chain.walk.Given as goal

abbrev pub invariant-loop-left : goal.invariant-loop-left
invariant-loop-left l = walked l.label l.next l.byte l.count 0 l.head ≡ walked l.label l.next l.byte l.left l.last l.at

abbrev pub decreases-loop-left : goal.decreases-loop-left
decreases-loop-left l = l.left
