-- Rule 5's byte shift node by node, as the code searches it: nodes without a token.
use Rattle.std.specs.Prelude.{ℕ, ◌≤◌, ◌<◌, ◌≡◌, List, get_or, Option, Some, None}

-- The nodes from v up to w, w not included, carry no token.
pub record Bare (token : List ℕ) (v w : ℕ) : Type 0 where
  pub order : v ≤ w
  pub none_here : (n : ℕ) → v ≤ n → n < w → get_or token n 0 ≡ 0

-- The next node from v on, below the count, that carries a token, or none.
abbrev pub Next : List ℕ → ℕ → ℕ → Option ℕ → Type 0
Next token v count None = Bare token v count
Next token v count (Some n) = Bare token v n × (n < count) × (get_or token n 0 ≡ 0 → ⊥)
