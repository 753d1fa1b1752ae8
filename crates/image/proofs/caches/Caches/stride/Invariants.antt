-- `stride` meets its contract: the rounds up to the boundary were skimmed; the bytes left of the image get fewer.
use Prim.Native.Nat.{◌+◌, ◌-◌}
use lib.ListN.{length}
use Rattle.image.proofs.Laws.Skim.{Skimming}
use Rattle.image.proofs.caches.Caches.stride.Given as goal

abbrev pub invariant-loop-at : goal.invariant-loop-at
invariant-loop-at l = Skimming l.image l.self l.shortest l.b l.at l.looks

abbrev pub decreases-loop-at : goal.decreases-loop-at
decreases-loop-at l = length l.image + 4096 - l.at
