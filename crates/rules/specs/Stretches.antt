-- What is said of remembered stretches: their nodes put through a function, where they lie, what lies in none of them, and which stay after
-- a round (rules 4 and 6).
use Rattle.std.specs.Prelude.{ℕ, ◌+◌, ◌-◌, ◌*◌, ◌^◌, ◌≤◌, ◌<◌, max, Bool, true, false, ◌&&◌, List, [], ◌∷◌, ltb}
use Rattle.rules.specs.Rules.{Stretch, kept, left_over}
use Rattle.rules.specs.Lists.{All, select}

module _ {E F : Type 0} (f : E → F) where
  abbrev pub stretch_of : Stretch E → Stretch F
  stretch_of s = record { left = s.left; right = s.right; node = f s.node }

  abbrev pub stretches_of : List (Stretch E) → List (Stretch F)
  stretches_of [] = []
  stretches_of (s ∷ ss) = stretch_of s ∷ stretches_of ss

-- none of them reaches past n
abbrev pub Upto : {E : Type 0} → ℕ → List (Stretch E) → Type 0
Upto n ss = All (λ s. s.right ≤ n) ss

module _ {E : Type 0} (D : ℕ) where
  -- From lo on, rising and apart, each before b, at most D long, and kept at b.
  abbrev pub Spans : ℕ → ℕ → List (Stretch E) → Type 0
  Spans b lo [] = Unit {0}
  Spans b lo (s ∷ ss) =
      (lo ≤ s.left) × (s.right < b) × (s.right ≤ s.left + D) × (4 * b + s.left ≤ 5 * s.right) × Spans b s.right ss

module _ {E : Type 0} where
  -- How many places from q up to b lie in no stretch.
  abbrev pub loose : ℕ → ℕ → List (Stretch E) → ℕ
  loose b q [] = b - q
  loose b q (s ∷ ss) = (s.left - q) + loose b (max q s.right) ss

  -- A stretch lies before b, of which four times as much can be counted.
  pub record Lies (b : ℕ) (s : Stretch E) : Type 0 where
    pub some-length : s.left ≤ s.right
    pub before : s.right ≤ b
    pub small : b < 2 ^ 32

  -- Rule 4: an edge, or the right edge of a stretch that is left over and reaches farther.
  abbrev pub farther_of : ℕ → ℕ → Stretch E → ℕ
  farther_of from edge s = elim (ltb s.left from) [ true ↦ max edge s.right | false ↦ edge ]

  -- Rules 4 and 6: a stretch is left over, and kept at b; and those that are.
  abbrev pub stays : ℕ → ℕ → Stretch E → Bool
  stays from b s = ltb s.left from && kept b s

  abbrev pub staying : ℕ → ℕ → List (Stretch E) → List (Stretch E)
  staying from b ss = select (kept b) (left_over from ss)
