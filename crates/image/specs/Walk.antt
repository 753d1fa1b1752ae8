-- What the code of a round asks of the tables, and what it answers, as `Rounds` has it.
use Rattle.std.specs.Prelude.{Option as Answer, Some, None, ℕ, zero, suc, ◌-◌, ◌≤◌, ◌<◌, ◌≡◌, false, List, [], ◌∷◌, eqb, length, get_or}
use Rattle.std.proofs.Math.Option.{Option, some, none}
use Rattle.rules.specs.Rules.{Tree}
use Rattle.tables.specs.Walks.{child_by, of_tables}
use Rattle.tables.specs.Tables.{Tables}
use Rattle.trie.specs.Chain.{Kids}
use Rattle.trie.specs.Lent.{tables_of}
use Rattle.image.specs.declared.given.Sweep.{Sweep}
use Rattle.image.specs.declared.walk.Way.{Way}
use Rattle.image.specs.declared.walk.Arrival.{Arrival}
use Rattle.image.specs.Rounds.{Reached, down, reached}

-- The tree by which a round goes down; shifts play no part in it.
abbrev pub tree_in : Tables → ℕ → Tree ℕ
tree_in tables count = of_tables tables count 0

-- Nodes below the count have their entries, their children are such nodes, and the root has a child.
pub record Walkable (tables : Tables) (count : ℕ) : Type 0 where
  pub some-node : 0 < count
  pub tokens : count ≤ length tables.token
  pub firsts : count ≤ length tables.first
  pub rooted : eqb (get_or tables.first 0 0) 0 ≡ false
  pub below : (v x w : ℕ) → v < count → child_by tables count v x ≡ some w → w < count

-- the first n entries of a list, the last of them first
abbrev pub newest : List ℕ → ℕ → List ℕ
newest l zero = []
newest l (suc n) = get_or l n 0 ∷ newest l n

-- The way down from boundary b has come to a node, with so many tokens kept: the rest of it from there is the whole way.
pub record Descending (tables : Tables) (image kept : List ℕ) (count b node depth met : ℕ) : Type 0 where
  pub held : node < count
  pub upto : depth ≤ b
  pub few : met ≤ depth
  pub deep : depth ≤ (reached (tree_in tables count) image b).depth
  pub rest : down (tree_in tables count) image b (suc (b - depth)) node depth (newest kept met)
      ≡ reached (tree_in tables count) image b

-- Where a round ends, as the code answers it.
abbrev pub stop_of : Option ℕ → Answer ℕ
stop_of none = None
stop_of (some x) = Some x

abbrev pub arrival_of : Reached ℕ → Arrival
arrival_of r = record { node = r.node; depth = r.depth; closing = stop_of r.closing; met = length r.tokens }

-- A round at boundary b has arrived: the answer is where the way ends, and the tokens on it are kept.
abbrev pub Arrived : Tables → ℕ → List ℕ → ℕ → List ℕ → Arrival → Type 0
Arrived tables count image b kept r =
    let end = reached (tree_in tables count) image b in
    (r ≡ arrival_of end) × ((newest kept r.met ≡ end.tokens) × (r.met ≤ r.depth))

-- All this of a sweep: its tree, its tables, its root's children, and the ways in its image.
module _ (s : Sweep) where
  abbrev pub tree_of : Tree ℕ
  tree_of = tree_in (tables_of s.tables) s.count

  abbrev pub WalkableIn : Type 0
  WalkableIn = Walkable (tables_of s.tables) s.count

  abbrev pub KidsIn : Type 0
  KidsIn = Kids s.tables.label.now s.tables.first.now s.tables.next.now s.count s.kids

  abbrev pub DescendingIn : List ℕ → ℕ → Way → Type 0
  DescendingIn kept b w = Descending (tables_of s.tables) s.image.now kept s.count b w.node w.depth w.met

  abbrev pub ArrivedIn : ℕ → List ℕ → Arrival → Type 0
  ArrivedIn b kept r = Arrived (tables_of s.tables) s.count s.image.now b kept r
