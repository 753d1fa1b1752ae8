-- What the test of tables, node by node, has of the nodes that passed.
use Rattle.std.specs.Prelude.{ℕ, ◌+◌, ◌≤◌, ◌<◌, ◌≡◌, true}
use Rattle.tables.specs.Tables.{Tables}
use Rattle.tables.specs.Broken.{max_number, linked, shifts}
use Rattle.tables.specs.Shape.{up, head, sib, num}

-- node v passes but for its own parent and depth, and the next node is its first child
pub record Chained (t : Tables) (count v : ℕ) : Type 0 where
  pub child : head t v ≡ v + 1
  pub back : up t (v + 1) ≡ v
  pub few : num t v ≤ max_number
  pub aside : linked t count v (sib t v) (up t v) ≡ true
  pub near : shifts t v ≡ true

-- such are the nodes from v up to w
pub record Chain (t : Tables) (count v w : ℕ) : Type 0 where
  pub upward : v ≤ w
  pub each : (k : ℕ) → v ≤ k → k < w → Chained t count k
