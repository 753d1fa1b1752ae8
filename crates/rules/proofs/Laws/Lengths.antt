-- S and D: no token's length is beyond them, and some token's it is.
use Rattle.std.specs.Prelude.{ℕ, zero, suc, ◌≤◌, ◌<◌, ◌≡◌, refl, ◌≢◌, List, [], ◌∷◌, length, get_or}
use Rattle.std.proofs.Common.{arith, ◌∙◌}
use Rattle.std.proofs.Math.Decide.{ℕ_discrete}
use Rattle.rules.specs.Tokens.{shortest_of, longest_of}

pub shortest-le : (tokens : List (List ℕ)) (i : ℕ) → i < length tokens → shortest_of tokens ≤ length (get_or tokens i [])
shortest-le [] i h = absurd (omega arith)
shortest-le (t ∷ []) zero h = omega arith
shortest-le (t ∷ []) (suc i) h = absurd (omega arith)
shortest-le (t ∷ u ∷ ts) zero h = omega arith
shortest-le (t ∷ u ∷ ts) (suc i) h = omega (arith, shortest-le (u ∷ ts) i (omega arith))

pub longest-ge : (tokens : List (List ℕ)) (i : ℕ) → i < length tokens → length (get_or tokens i []) ≤ longest_of tokens
longest-ge [] i h = absurd (omega arith)
longest-ge (t ∷ ts) zero h = omega arith
longest-ge (t ∷ ts) (suc i) h = omega (arith, longest-ge ts i (omega arith))

-- `n` is some token's length
abbrev pub LengthOfSome : List (List ℕ) → ℕ → Type 0
LengthOfSome tokens n = (i : ℕ) × (i < length tokens) × (n ≡ length (get_or tokens i []))

-- of a token's length and one of those after it, the one that is asked for
either : (t : List ℕ) (ts : List (List ℕ)) (n m : ℕ) → LengthOfSome ts n → (m ≢ length t → m ≡ n) → LengthOfSome (t ∷ ts) m
either t ts n m r f = go (ℕ_discrete m (length t))
  where
    go : Dec (m ≡ length t) → LengthOfSome (t ∷ ts) m
    go (yes e) = (0, omega arith, e)
    go (no e) = (suc r.0, omega (arith, r.1), f e ∙ r.2)

pub shortest-is : (tokens : List (List ℕ)) → 1 ≤ length tokens → LengthOfSome tokens (shortest_of tokens)
shortest-is [] h = absurd (omega arith)
shortest-is (t ∷ []) h = (0, omega arith, refl)
shortest-is (t ∷ u ∷ ts) h = either t (u ∷ ts) (shortest_of (u ∷ ts)) _ (shortest-is (u ∷ ts) (omega arith)) (λ e. omega arith)

pub longest-is : (tokens : List (List ℕ)) → 1 ≤ length tokens → LengthOfSome tokens (longest_of tokens)
longest-is [] h = absurd (omega arith)
longest-is (t ∷ []) h = (0, omega arith, omega arith)
longest-is (t ∷ u ∷ ts) h = either t (u ∷ ts) (longest_of (u ∷ ts)) _ (longest-is (u ∷ ts) (omega arith)) (λ e. omega arith)
