-- How deep a node lies: the loop that climbs from it.
use Prim.Native.Nat.{ℕ, zero, suc, ◌+◌, ◌-◌, ◌≤◌, ◌<◌}
use native.Mathlib.Omega.{arith}
use mathlib.Core.Path.{◌≡◌, ap}
use lib.Dec.{eqb}
use lib.ListN.{length, get_or}
use Rattle.rules.proofs.Laws.Tests.{decide}
use Rattle.tables.specs.Tables.{Tables}
use Rattle.tables.specs.Walks.{climb, depth}
use Rattle.tables.specs.Shape.{Falling}
use Rattle.tables.proofs.Laws.Shape.{way_step}
use Rattle.scan.specs.Ways.{Run}

-- The climb stands at `at`, n below the start.
pub record Climb (t : Tables) (count node at n : ℕ) : Type 0 where
  pub below : at < count
  pub sum : n + depth t at ≡ depth t node

-- a climb takes no more turns than it has fuel
climb-short : (t : Tables) (f v : ℕ) → length (climb t f v) ≤ f
climb-short t zero v = omega arith
climb-short t (suc f) v =
    decide (λ l. length l ≤ suc f) (eqb v 0) _ _ (λ _. omega arith) (λ _. omega (arith, climb-short t f (get_or t.parent v 0)))

module _ {t : Tables} {count : ℕ} (falls : Falling t count) {node at n : ℕ} (s : Climb t count node at n) (up : at ≡ 0 → ⊥) where
  deeper : depth t at ≡ suc (depth t (get_or t.parent at 0))
  deeper = ap length (way_step t count falls at (omega arith) s.below)

  pub climb-room : n < node
  climb-room = omega (arith, s.sum, deeper, climb-short t node node)

  pub climb-falls : get_or t.parent at 0 < at
  climb-falls = falls.ups at (omega arith) s.below

  pub climb-again : (w m : ℕ) → w ≡ get_or t.parent at 0 → m ≡ n + 1 → Climb t count node w m
  climb-again w m e f = rw (e, f) (record { below = omega (arith, climb-falls, s.below); sum = omega (arith, s.sum, deeper) })

-- A climb goes on behind a run.
pub climb-runs : {t : Tables} {count node at n low end : ℕ} → Climb t count node at n → Run t at low end → Climb t count node end (n + (at - end))
climb-runs s r = record { below = omega (arith, s.below, r.high); sum = omega (arith, s.sum, r.high, r.deep) }
