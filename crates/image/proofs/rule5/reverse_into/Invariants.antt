-- `rule5::reverse_into` meets its contract: what is left of the reverse is written from here on.
use Prim.Native.Nat.{◌-◌, ◌≤◌}
use mathlib.Core.List.{reverse}
use mathlib.Core.Path.{◌≡◌}
use lib.ListN.{length, drop}
use lib.Seq.{sets}
use Rattle.image.proofs.rule5.reverse_into.Given as goal

abbrev pub invariant-loop-i : goal.invariant-loop-i
invariant-loop-i l =
    (l.i ≤ length l.body) × (sets l.into l.i (drop l.i (reverse l.body)) ≡ sets l.initial.into 0 (reverse l.body))

abbrev pub decreases-loop-i : goal.decreases-loop-i
decreases-loop-i l = length l.body - l.i
