-- What a function asks of a node that it climbs from, and what its climb has come to.
use Rattle.std.specs.Prelude.{ℕ, ◌+◌, ◌-◌, ◌≤◌, ◌<◌, ◌≡◌, List}
use Rattle.std.proofs.lemmas.List.Edits.{sets}
use Rattle.tables.specs.Tables.{Tables}
use Rattle.tables.specs.Unbroken.{Unbroken}
use Rattle.tables.specs.Walks.{ending, depth, lifted, carrier}

-- A node of tables that are a tree.
pub record Climbs (t : Tables) (node : ℕ) : Type 0 where
  pub count : ℕ
  pub tree : Unbroken t count
  pub below : node < count

-- From writing the ending of `node` at index n on, what is left is to write that of `at`, a node not above it, at index `to` on.
pub record Along (t : Tables) (node n : ℕ) (into : List ℕ) (at to : ℕ) (after : List ℕ) : Type 0 where
  pub up : 0 < at
  pub high : at ≤ node
  pub sum : to + depth t at ≡ n + depth t node
  pub rest : sets after to (ending t at) ≡ sets into n (ending t node)

-- The nodes from `node` down to `end`, none below `low`, lie one above another.
pub record Run (t : Tables) (node low end : ℕ) : Type 0 where
  pub bound : low ≤ end
  pub high : end ≤ node
  pub deep : node + depth t end ≡ end + depth t node
  pub lift : (k : ℕ) → lifted t (k + (node - end)) node ≡ lifted t k end

-- A climb from `node` that stands at `at`, a node not above it: the nearest node that carries a token is the same from there.
pub record Nears (t : Tables) (node at : ℕ) : Type 0 where
  pub high : at ≤ node
  pub same : carrier t at ≡ carrier t node
