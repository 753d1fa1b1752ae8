-- A state in its ranges, as propositions, over any tables that pass refusal 9.
use Rattle.std.specs.Prelude.{ℕ, ◌+◌, ◌-◌, ◌≤◌, ◌<◌, ◌≡◌, Bool, true, false, get_or}
use Rattle.rules.specs.Rules.{Stretch, Config}
use Rattle.rules.specs.Lists.{All}
use Rattle.rules.specs.Configs.{Held}
use Rattle.rules.specs.Stretches.{Upto}
use Rattle.book.specs.Book.{max_image, max_body}
use Rattle.tables.specs.Tables.{Tables}
use Rattle.tables.specs.Unbroken.{Unbroken}
use Rattle.tables.specs.Walks.{depth}
use Rattle.scan.specs.State.{max_nodes, max_shortest, max_supplied, max_spared, farthest, config_of, slots_ok}
use Rattle.scan.specs.declared.Scan.{Scan}

-- What no step changes: tables that are a tree, and the numbers that go with them.
pub record Ready (t : Tables) (count n S : ℕ) : Type 0 where
  pub tree : Unbroken t count
  pub nodes : count ≤ max_nodes
  pub image : n ≤ max_image
  pub positive : 1 ≤ S
  pub first : S ≤ max_shortest

-- The two counts have not passed where they stop.
abbrev pub Counts : Scan → Type 0
Counts s = (s.supplied ≤ max_supplied) × (s.spared ≤ max_spared)

-- A stretch is as long as its node is deep.
abbrev pub Fits : Tables → ℕ → Stretch ℕ → Type 0
Fits t count m = (m.node < count) × (depth t m.node ≡ m.right - m.left)

-- A configuration in range, for an image of n bytes.
pub record Within (t : Tables) (count n : ℕ) (c : Config ℕ) : Type 0 where
  pub node : c.node < count
  pub held : Held (depth t) max_body c
  pub near : c.boundary ≤ farthest n
  pub fits : All (Fits t count) c.stretches
  pub upto : Upto n c.stretches

-- The hits with this end that are left at a configuration, that of node v next.
pub record Pending (t : Tables) (count n S : ℕ) (c : Config ℕ) (end v : ℕ) : Type 0 where
  pub below : v < count
  pub marked : 1 ≤ get_or t.token v 0
  pub deep : depth t v ≤ end
  pub inside : end ≤ n
  pub before : end < c.boundary
  pub near : c.boundary ≤ end + S
  pub root : c.node ≡ 0
  pub upto : Upto end c.stretches

-- What is left at a configuration: nothing, and then the end is 0, or hits, and then no byte is due.
pub record Left (t : Tables) (count n S : ℕ) (c : Config ℕ) (due : Bool) (end v : ℕ) : Type 0 where
  pub none : v ≡ 0 → end ≡ 0
  pub some : 0 < v → Pending t count n S c end v
  pub idle : 0 < v → due ≡ false

abbrev pub LeftFor : Tables → Scan → Type 0
LeftFor t s = Left t s.count s.image s.shortest (config_of s) s.due s.end s.hit

-- The same of a state: its tables and numbers, a step, what comes next.
abbrev pub ReadyFor : Tables → Scan → Type 0
ReadyFor t s = Ready t s.count s.image s.shortest

abbrev pub WithinFor : Tables → Scan → Type 0
WithinFor t s = Within t s.count s.image (config_of s)

-- A state in its ranges, over tables that are a tree, that waits for no byte.
pub record Goes (t : Tables) (s : Scan) : Type 0 where
  pub ready : ReadyFor t s
  pub few : Counts s
  pub slots : slots_ok s ≡ true
  pub within : WithinFor t s
  pub left : LeftFor t s
  pub idle : s.due ≡ false
