-- Rule 5's node shift by the shortened words: the least at which the ending is met on such a word's way from the right, or has all of it for
-- an ending.
use Rattle.std.specs.Prelude.{ℕ, ◌-◌, ◌≤◌, min, ◌≡◌, refl, Bool, true, false, ◌||◌, length}
use Rattle.std.proofs.Common.{arith, ap, sym, ◌∙◌}
use Rattle.std.proofs.Math.Bool.{or-false}
use mathlib.Core.List.{List, [], ◌∷◌, reverse, reverse_aux, reverse-reverse}
use Rattle.rules.specs.Lists.{same, any_of}
use Rattle.rules.specs.Tokens.{ends, fits, node_shift, shortened}
use Rattle.rules.proofs.Laws.Tests.{any_of-in, least-is}
use Rattle.rules.proofs.Laws.Endings.{same-sym, ends-nil, ends-cons}
use Rattle.rules.proofs.Laws.Shortened.{fits-shortened}
use Rattle.tables.proofs.Laws.Order.{upwards}
use Rattle.trie.proofs.Laws.Filling.Least.{least_for, least-for-or}

-- The word without its last k bytes comes by the ending e, not empty, from the right; it is e; or it is an ending of e.
abbrev pub met_by : List ℕ → List ℕ → ℕ → Bool
met_by e w k = any_of (same e) (upwards (reverse (shortened w k)) [])

abbrev pub whole_by : List ℕ → List ℕ → ℕ → Bool
whole_by e w k = same e (shortened w k)

abbrev pub below_by : List ℕ → List ℕ → ℕ → Bool
below_by e w k = ends (shortened w k) e

-- the endings on the way from u by xs, and those of u, are those of the whole
way-ends : (e xs u : List ℕ) → (any_of (same e) (upwards xs u) || ends e u) ≡ ends e (reverse_aux xs u)
way-ends e [] u = refl
way-ends e (x ∷ xs) u = go (same e (x ∷ u)) (any_of (same e) (upwards xs (x ∷ u))) (ends e u) ∙ rw (← ends-cons e u x) (way-ends e xs (x ∷ u))
  where
    go : (a b c : Bool) → (a || b || c) ≡ (b || (a || c))
    go true true c = refl
    go true false c = refl
    go false b c = refl

module _ (ws : List (List ℕ)) (S : ℕ) where
  -- the root's ending
  pub root_below : least_for ws S (below_by []) ≡ least_for ws S (whole_by [])
  root_below = λ i. least_for ws S (λ w k. ends-nil (shortened w k) i)

  pub root-shift : 1 ≤ length ws → node_shift ws S [] ≡ 1
  root-shift h = least-is _ 1 (S - 1) 1 (omega arith) (omega arith) (λ j a b. absurd (omega arith)) (λ _. any_of-in (λ w. fits [] w 1) ws [] 0 h refl)

  -- and one with a byte x more than the ending e
  module _ (x : ℕ) (e : List ℕ) where
    pub node-below : least_for ws S (below_by (x ∷ e)) ≡ min (least_for ws S (whole_by (x ∷ e))) (least_for ws S (below_by e))
    node-below =
        (λ i. least_for ws S (λ w k. (ends-cons (shortened w k) e x ∙ ap (λ b. b || below_by e w k) (same-sym (shortened w k) (x ∷ e))) i))
        ∙ least-for-or ws S (whole_by (x ∷ e)) (below_by e)

    pub node-shift : node_shift ws S (x ∷ e) ≡ min (least_for ws S (met_by (x ∷ e))) (least_for ws S (below_by (x ∷ e)))
    node-shift = (λ i. least_for ws S (λ w k. each w k i)) ∙ least-for-or ws S (met_by (x ∷ e)) (below_by (x ∷ e))
      where
        each : (w : List ℕ) (k : ℕ) → fits (x ∷ e) w k ≡ (met_by (x ∷ e) w k || below_by (x ∷ e) w k)
        each w k =
            fits-shortened (x ∷ e) w k
            ∙ ap (λ b. b || below_by (x ∷ e) w k) (sym (rw (reverse-reverse, ends-nil, or-false) at (way-ends (x ∷ e) (reverse (shortened w k)) [])))
