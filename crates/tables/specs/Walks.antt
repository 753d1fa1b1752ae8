-- The rules' nodes as numbers in the tables, built or not: the child with a label, a node's ending, the words, a round's shift.
use Rattle.std.specs.Prelude.{ℕ, zero, suc, ◌-◌, min, max, true, false, List, [], ◌∷◌, eqb, length, get_or}
use Rattle.std.proofs.Math.Option.{Option, some, none}
use Rattle.rules.specs.Rules.{Tree}
use Rattle.rules.specs.Tokens.{byte_shift}
use Rattle.tables.specs.Tables.{Tables}

-- The walk along a chain from node `at`: the first with that label, or none at the chain's end.
abbrev pub along : Tables → ℕ → ℕ → ℕ → Option ℕ
along t x zero at = none
along t x (suc fuel) at =
    elim (eqb at 0) [
      | true ↦ none
      | false ↦ elim (eqb (get_or t.label at 0) x) [ true ↦ some at | false ↦ along t x fuel (get_or t.next at 0) ]
    ]

-- The walk along a node's children.
abbrev pub child_by : Tables → ℕ → ℕ → ℕ → Option ℕ
child_by t count v x = along t x count (get_or t.first v 0)

-- the labels from node v up to the root; a parent is a smaller node, so v is fuel enough
abbrev pub climb : Tables → ℕ → ℕ → List ℕ
climb t zero v = []
climb t (suc fuel) v = elim (eqb v 0) [ true ↦ [] | false ↦ get_or t.label v 0 ∷ climb t fuel (get_or t.parent v 0) ]

-- A node's ending, by its parents.
abbrev pub ending : Tables → ℕ → List ℕ
ending t v = climb t v v

abbrev pub depth : Tables → ℕ → ℕ
depth t v = length (ending t v)

-- the node n above v
abbrev pub lifted : Tables → ℕ → ℕ → ℕ
lifted t zero v = v
lifted t (suc n) v = lifted t n (get_or t.parent v 0)

-- the nearest node at v or above it that carries a token, or the root, in at most `fuel` steps
abbrev pub nearest : Tables → ℕ → ℕ → ℕ
nearest t zero v = 0
nearest t (suc fuel) v = elim (get_or t.token v 0) [ zero ↦ nearest t fuel (get_or t.parent v 0) | suc i ↦ v ]

-- Rule 3: the node of the longest token on the way from v to the root; the root for none. A parent is a smaller node, so v is fuel enough.
abbrev pub carrier : Tables → ℕ → ℕ
carrier t v = nearest t v v

-- The words that tables have: the endings of the nodes below `count` that carry a token's number.
abbrev pub words : Tables → ℕ → List (List ℕ)
words t zero = []
words t (suc v) = elim (get_or t.token v 0) [ zero ↦ words t v | suc i ↦ ending t v ∷ words t v ]

-- Rule 5: the greater of node v's entry, as given, and the byte shift; S where that is less.
abbrev pub shift_from : Tables → ℕ → ℕ → ℕ → Option ℕ → ℕ
shift_from t count shortest v closing =
    min shortest (max (get_or t.shift v 0) (byte_shift (words t count) shortest (depth t v) closing))

-- The rules' tree that the tables are.
abbrev pub of_tables : Tables → ℕ → ℕ → Tree ℕ
of_tables t count shortest = record {
  root = 0;
  child = child_by t count;
  leaf = λ v. eqb (get_or t.first v 0) 0;
  token = λ v. get_or t.token v 0;
  byte_at = λ v k. get_or t.label (lifted t (depth t v - 1 - k) v) 0;
  ancestor = λ v k. lifted t (depth t v - k) v;
  shift = shift_from t count shortest;
}
