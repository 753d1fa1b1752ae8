-- `words::mirrors` meets its contract. The loop's invariant: the first is the other's reverse if what is left of the two is the same.
use Prim.Native.Nat.{◌-◌, ◌≤◌}
use mathlib.Core.List.{reverse}
use mathlib.Core.Path.{◌≡◌}
use lib.ListN.{length, drop}
use Rattle.rules.specs.Lists.{same}
use Rattle.book.proofs.words.mirrors.Given as goal

abbrev pub invariant-loop-k : goal.invariant-loop-k
invariant-loop-k l = (l.k ≤ length l.b) × (same (drop l.k l.a) (drop l.k (reverse l.b)) ≡ same l.a (reverse l.b))

abbrev pub decreases-loop-k : goal.decreases-loop-k
decreases-loop-k l = length l.b - l.k
