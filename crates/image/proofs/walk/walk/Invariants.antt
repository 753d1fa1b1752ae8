-- `walk` meets its contract: the rest of the way from here is the whole way; the bytes before the node's ending get fewer.
use Prim.Native.Nat.{◌-◌}
use mathlib.Core.Path.{◌≡◌}
use lib.ListN.{length}
use Rattle.image.specs.Walk.{WalkableIn, DescendingIn}
use Rattle.image.proofs.walk.walk.Given as goal

abbrev pub invariant-loop-node : goal.invariant-loop-node
invariant-loop-node l =
    WalkableIn l.sweep × DescendingIn l.sweep l.kept l.b (record { node = l.node; depth = l.depth; met = l.met }) × (length l.kept ≡ length l.initial.kept)

abbrev pub decreases-loop-node : goal.decreases-loop-node
decreases-loop-node l = l.b - l.depth
