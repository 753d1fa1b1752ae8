-- What refusal 9 leaves: tables that pass it are a tree of nodes at most 1,024 deep, by their parents and by their chains.
use Rattle.std.specs.Prelude.{ℕ, suc, ◌-◌, ◌≤◌, ◌<◌, ◌≡◌, true, ◌∷◌, get_or}
use Rattle.std.proofs.Math.Option.{some}
use Rattle.book.specs.Book.{max_body}
use Rattle.tables.specs.Tables.{Tables, shortest_table}
use Rattle.tables.specs.Walks.{child_by, ending, depth, lifted}
use Rattle.tables.specs.Broken.{sound}
use Rattle.tables.specs.Shape.{up, tag, head, sib, Falling}

pub record Unbroken (t : Tables) (count : ℕ) : Type 0 where
  pub held : count ≤ shortest_table t
  pub each : (v : ℕ) → v < count → sound t count v ≡ true
  -- upwards: parents, endings, and the nodes above
  pub falling : Falling t count
  pub step : (v : ℕ) → 0 < v → v < count → ending t v ≡ tag t v ∷ ending t (up t v)
  pub deep : (v : ℕ) → v < count → depth t v ≤ max_body
  pub lift : (j v : ℕ) → v < count → (lifted t j v < count) × (depth t (lifted t j v) ≡ depth t v - j)
  -- downwards: the first child, the next sibling, and what a walk along them finds
  pub heads : (v : ℕ) → v < count → 0 < head t v → (v < head t v) × (head t v < count) × (up t (head t v) ≡ v)
  pub sibs : (v : ℕ) → v < count → 0 < sib t v → (v < sib t v) × (sib t v < count) × (up t (sib t v) ≡ up t v)
  pub child : (v x w : ℕ) → v < count → child_by t count v x ≡ some w → (w < count) × (ending t w ≡ x ∷ ending t v)
  pub grows : (v x w : ℕ) → v < count → child_by t count v x ≡ some w → depth t w ≡ suc (depth t v)
  -- its shift
  pub shifts : (v : ℕ) → v < count → (1 ≤ get_or t.shift v 0) × (get_or t.shift v 0 ≤ max_body)
