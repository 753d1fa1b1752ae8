-- Remembered stretches in an image at hand: their bytes are the image's, so only their places are kept.
use Rattle.std.specs.Prelude.{ℕ, ◌≤◌, List, [], ◌∷◌, ◌++◌, map, take}
use Rattle.rules.specs.Lists.{select, All}
use Rattle.rules.specs.Rules.{Stretch, left_over, cut, kept}
use Rattle.rules.specs.Stretches.{Lies, stretches_of}
use Rattle.image.specs.declared.spans.Span.{Span}
use Rattle.image.specs.declared.spans.Spans.{Spans}

-- a stretch's places, without its node
abbrev pub Places : Type 0
Places = Stretch (Unit {0})

abbrev pub places_of : {E : Type 0} → List (Stretch E) → List Places
places_of ss = stretches_of (λ v. tt) ss

abbrev pub placed : Span → Places
placed s = record { left = s.left; right = s.right; node = tt }

-- the stretches that are in use
abbrev pub in_use : Spans → List Places
in_use f = map placed (take f.used f.slots)

-- Rules 4 and 6: what is remembered after a round that matched from place `from` up to b, when the boundary moves to `next`.
abbrev pub renewed : ℕ → ℕ → ℕ → List Places → List Places
renewed from b next ss =
    select (kept next) (left_over from ss ++ (record { left = cut from (left_over from ss); right = b; node = tt } ∷ []))

-- What the code asks of remembered stretches at boundary b.
pub record Fits (b : ℕ) (f : Spans) : Type 0 where
  pub few : f.used ≤ 5
  pub each : All (Lies b) (in_use f)
