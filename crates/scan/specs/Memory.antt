-- What the code finds in the slots of remembered stretches, and puts there.
use Rattle.std.specs.Prelude.{ℕ, ◌+◌, Bool, true, false, ◌&&◌, List, [], ◌∷◌, Some, None, leb, ltb, length, set}
use Rattle.std.specs.Prelude.{Option as Maybe}
use Rattle.std.proofs.Math.Option.{Option, some, none}
use Rattle.rules.specs.Rules.{Stretch}
use Rattle.scan.specs.declared.Stretch.{Stretch as Slot}
use Rattle.scan.specs.declared.stretches.Filled.{Filled}
use Rattle.scan.specs.State.{max_stretches, stretch_of, laid}

-- The place lies in the stretch.
abbrev pub covers : {E : Type 0} → ℕ → Stretch E → Bool
covers at m = leb m.left at && ltb at m.right

-- The first stretch that has the place.
abbrev pub holding : ℕ → List (Stretch ℕ) → Option (Stretch ℕ)
holding at [] = none
holding at (m ∷ ms) = elim (covers at m) [ true ↦ some m | false ↦ holding at ms ]

abbrev pub holder_of : Maybe Slot → Option (Stretch ℕ)
holder_of None = none
holder_of (Some s) = some (stretch_of s)

-- Slots with a stretch more.
abbrev pub put_in : Filled → Slot → Filled
put_in f s = record { slots = set f.slots f.n s; n = f.n + 1 }

abbrev pub sift_in : Bool → Filled → Slot → Filled
sift_in b f s = elim b [ true ↦ put_in f s | false ↦ f ]

-- Slots that hold just these stretches.
abbrev pub filled_with : List (Stretch ℕ) → Filled
filled_with ms = record { slots = laid max_stretches ms; n = length ms }
