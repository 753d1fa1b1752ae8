-- `rounds` meets its contract: the buffers hold the hits found so far (`Rounding`), and the boundary rises.
use Prim.Native.Nat.{◌+◌, ◌-◌}
use lib.ListN.{length}
use Rattle.image.specs.Hits.{SameBuffers}
use Rattle.image.specs.Runs.{FollowedIn}
use Rattle.image.proofs.Laws.Rounds.{RoundingIn}
use Rattle.image.proofs.rounds.rounds.Given as goal

abbrev pub invariant-loop-b : goal.invariant-loop-b
invariant-loop-b l =
    RoundingIn l.sweep l.initial.hits l.hits l.caches
    (record { boundary = l.b; spans = l.spans; fetched = l.fetched; spared = l.spared; hits = l.found })
    × FollowedIn l.sweep l.runs
    × SameBuffers l.initial.hits l.hits

abbrev pub decreases-loop-b : goal.decreases-loop-b
decreases-loop-b l =
    length l.image + 1 - l.b
