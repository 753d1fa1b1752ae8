-- The walk along a chain with what building wants of it besides: the last node, where the label is not found. And the root's children by
-- their labels.
use Rattle.std.specs.Prelude.{ℕ, zero, suc, ◌<◌, ◌≡◌, true, false, List, [], Result, Ok, Err, eqb, length, get_or}
use Rattle.std.proofs.Math.Option.{Option, some, none}
use Rattle.tables.specs.Walks.{child_by}
use Rattle.trie.specs.Answers.{tree_only}

-- the node with the label or else the chain's last; `last` is the node before `at` in the chain, 0 where `at` is the first
abbrev pub walked : List ℕ → List ℕ → ℕ → ℕ → ℕ → ℕ → Result ℕ ℕ
walked label next x zero last at = Err last
walked label next x (suc fuel) last at =
    elim (eqb at 0) [
      | true ↦ Err last
      | false ↦ elim (eqb (get_or label at 0) x) [ true ↦ Ok at | false ↦ walked label next x fuel at (get_or next at 0) ]
    ]

-- a child's number, 0 for none
abbrev pub number_of : Option ℕ → ℕ
number_of none = 0
number_of (some v) = v

-- The root's children by label.
pub record Kids (label first next : List ℕ) (count : ℕ) (kids : List ℕ) : Type 0 where
  pub size : length kids ≡ 256
  pub each : (x : ℕ) → x < 256 → get_or kids x 0 ≡ number_of (child_by (tree_only [] label [] first next) count 0 x)
