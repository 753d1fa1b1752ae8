-- `raise` meets its contract: the powers so far are known; those up to `most` get fewer.
use Prim.Native.Nat.{◌-◌}
use mathlib.Core.Path.{◌≡◌}
use mathlib.Core.Bool.{false}
use Rattle.image.specs.Runs.{PowersIn}
use Rattle.image.proofs.runs.Runs.raise.Given as goal

abbrev pub invariant-loop-self : goal.invariant-loop-self
invariant-loop-self l =
    PowersIn l.sweep l.self × (l.self.ended ≡ false) × (l.self.from ≡ l.initial.self.from) × (l.self.till ≡ l.initial.self.till)
    × (l.self.byte ≡ l.initial.self.byte)

abbrev pub decreases-loop-self : goal.decreases-loop-self
decreases-loop-self l = l.most - l.self.known
