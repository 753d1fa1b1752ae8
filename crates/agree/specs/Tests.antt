-- Rule 5 for one word: what the byte shift hands to the test, and the least shift of some words.
use Rattle.std.specs.Prelude.{ℕ, ◌+◌, ◌-◌, Bool, List, [], ◌∷◌}
use Rattle.rules.specs.Lists.{any_of, least}
use Rattle.rules.specs.Tokens.{fits}

-- The word w, moved s to the right, fits the byte x, that d matched ones lie right of.
abbrev pub byte_test : ℕ → ℕ → List ℕ → ℕ → Bool
byte_test d x w s = fits (x ∷ []) w (d + s)

-- The smallest shift below S for which one of the words passes, or S.
abbrev pub least_of : (List ℕ → ℕ → Bool) → List (List ℕ) → ℕ → ℕ
least_of p words S = least (λ s. any_of (λ w. p w s) words) 1 (S - 1)
