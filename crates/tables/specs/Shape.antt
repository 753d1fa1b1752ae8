-- A node's entries in the tables, and the shape of tables with n nodes.
use Rattle.std.specs.Prelude.{ℕ, ◌≤◌, ◌<◌, ◌≡◌, get_or}
use Rattle.tables.specs.Tables.{Tables}

abbrev pub up : Tables → ℕ → ℕ
up t v = get_or t.parent v 0

abbrev pub tag : Tables → ℕ → ℕ
tag t v = get_or t.label v 0

abbrev pub head : Tables → ℕ → ℕ
head t v = get_or t.first v 0

abbrev pub sib : Tables → ℕ → ℕ
sib t v = get_or t.next v 0

abbrev pub num : Tables → ℕ → ℕ
num t v = get_or t.token v 0

-- r is the least node after w with parent p, or 0 where there is none
pub record Link (t : Tables) (n p w r : ℕ) : Type 0 where
  pub node : 0 < r → (w < r) × (r < n) × (up t r ≡ p)
  pub least : (u : ℕ) → w < u → u < n → up t u ≡ p → (0 < r) × (r ≤ u)

pub record Shape (t : Tables) (n : ℕ) : Type 0 where
  pub size : 0 < n
  pub root-up : up t 0 ≡ 0
  pub root-tag : tag t 0 ≡ 0
  pub root-sib : sib t 0 ≡ 0
  pub ups : (v : ℕ) → 0 < v → v < n → up t v < v
  pub heads : (v : ℕ) → v < n → Link t n v 0 (head t v)
  pub sibs : (v : ℕ) → 0 < v → v < n → Link t n (up t v) v (sib t v)
  pub apart : (v w : ℕ) → 0 < v → 0 < w → v < n → w < n → up t v ≡ up t w → tag t v ≡ tag t w → v ≡ w

-- Parents are smaller nodes, the root's is itself: what the way up from a node needs.
pub record Falling (t : Tables) (n : ℕ) : Type 0 where
  pub size : 0 < n
  pub root-up : up t 0 ≡ 0
  pub ups : (v : ℕ) → 0 < v → v < n → up t v < v
