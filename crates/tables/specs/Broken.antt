-- Refusal 9: tables that are no tree, and the first node that breaks them.
use Prim.{Unit, tt}
use Rattle.std.specs.Prelude.{ℕ, zero, suc, ◌+◌, Bool, true, false, ◌&&◌, ◌||◌, leb, ltb, eqb, get_or}
use Rattle.std.proofs.Math.Option.{Option, some, none}
use Rattle.book.specs.Book.{Verdict, accepted, refused, max_tokens, max_body}
use Rattle.tables.specs.Tables.{Tables, shortest_table}
use Rattle.tables.specs.Walks.{depth}

-- how deep a node may lie, and how great its token number may be
abbrev pub max_depth : ℕ
max_depth = max_body

abbrev pub max_number : ℕ
max_number = max_tokens

-- how far a node may shift
abbrev pub max_shift : ℕ
max_shift = max_body

-- A link from node v to `at` is 0, or greater than v, below the count, and has the parent p.
abbrev pub linked : Tables → ℕ → ℕ → ℕ → ℕ → Bool
linked t count v at p = eqb at 0 || (ltb v at && ltb at count && eqb (get_or t.parent at 0) p)

-- The first child has this node for parent, the next sibling this node's parent.
abbrev pub links : Tables → ℕ → ℕ → Bool
links t count v = linked t count v (get_or t.first v 0) v && linked t count v (get_or t.next v 0) (get_or t.parent v 0)

-- The root has 0 for parent, label, token and sibling.
abbrev pub root_sound : Tables → Bool
root_sound t =
    eqb (get_or t.parent 0 0) 0 && eqb (get_or t.label 0 0) 0 && eqb (get_or t.token 0 0) 0 && eqb (get_or t.next 0 0) 0

-- Another node has a smaller parent, lies at most 1,024 deep, and its token number is at most 256.
abbrev pub node_sound : Tables → ℕ → Bool
node_sound t v = ltb (get_or t.parent v 0) v && leb (depth t v) max_depth && leb (get_or t.token v 0) max_number

-- Every node's shift is 1 to 1,024.
abbrev pub shifts : Tables → ℕ → Bool
shifts t v = leb 1 (get_or t.shift v 0) && leb (get_or t.shift v 0) max_shift

-- Node v does not break the tables.
abbrev pub sound : Tables → ℕ → ℕ → Bool
sound t count v = elim (eqb v 0) [ true ↦ root_sound t && links t count v && shifts t v | false ↦ node_sound t v && links t count v && shifts t v ]

-- the first of `fuel` nodes from v on that breaks the tables
abbrev pub first_break : Tables → ℕ → ℕ → ℕ → Option ℕ
first_break t count zero v = none
first_break t count (suc fuel) v = elim (sound t count v) [ true ↦ first_break t count fuel (v + 1) | false ↦ some v ]

-- Refusal 9's value, if it comes: the shortest table's length where it is below the count, else the first node that breaks.
abbrev pub broken : Tables → ℕ → Option ℕ
broken t count = elim (ltb (shortest_table t) count) [ true ↦ some (shortest_table t) | false ↦ first_break t count count 0 ]

-- The test as an answer: refusal 9 with its value, if it comes.
abbrev pub tested : Option ℕ → Verdict Unit
tested none = accepted tt
tested (some v) = refused 9 v
