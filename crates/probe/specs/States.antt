-- The scan state as the first 26 numbers of a lent list: N, S, the node count, b, node, d, whether a byte is due, bytes supplied, bytes
-- taken from stretches, five stretches of left, right and node, and the end and the node of the next hit that is left. What follows them
-- stays.
use Rattle.std.specs.Prelude.{ℕ, ◌+◌, Bool, true, false, ◌&&◌, Option, Some, None, List, [], ◌∷◌, ◌++◌, leb, eqb, length, get_or, drop}
use Rattle.book.specs.Book.{Verdict}
use Rattle.scan.specs.declared.Scan.{Scan}
use Rattle.scan.specs.declared.Stretch.{Stretch as Slot}
use Rattle.scan.specs.Start.{state_of}
use Rattle.scan.specs.Packets.{Delivered}
use Rattle.probe.specs.declared.Told.{Told}
use Rattle.probe.specs.Numbers.{told, opening_of, step_of}

abbrev pub flag : Bool → ℕ
flag true = 1
flag false = 0

abbrev pub slot_numbers : List Slot → List ℕ
slot_numbers [] = []
slot_numbers (s ∷ ss) = s.left ∷ s.right ∷ s.node ∷ slot_numbers ss

abbrev pub numbers_of : Scan → List ℕ
numbers_of s =
    s.image ∷ s.shortest ∷ s.count ∷ s.boundary ∷ s.node ∷ s.depth ∷ flag s.due ∷ s.supplied ∷ s.spared
    ∷ (slot_numbers s.stretches ++ (s.end ∷ s.hit ∷ []))

abbrev pub size : ℕ
size = 26

-- A list is long enough for a state; and it begins with one, if the number that says whether a byte is due is 0 or 1.
abbrev pub has_room : List ℕ → Bool
has_room ns = leb size (length ns)

abbrev pub is_state : List ℕ → Bool
is_state ns = has_room ns && leb (get_or ns 6 0) 1

abbrev pub slot_in : List ℕ → ℕ → Slot
slot_in ns at = record { left = get_or ns at 0; right = get_or ns (at + 1) 0; node = get_or ns (at + 2) 0 }

abbrev pub state_in : List ℕ → Scan
state_in ns = record {
  image = get_or ns 0 0;
  shortest = get_or ns 1 0;
  count = get_or ns 2 0;
  boundary = get_or ns 3 0;
  node = get_or ns 4 0;
  depth = get_or ns 5 0;
  due = eqb (get_or ns 6 0) 1;
  stretches = slot_in ns 9 ∷ slot_in ns 12 ∷ slot_in ns 15 ∷ slot_in ns 18 ∷ slot_in ns 21 ∷ [];
  supplied = get_or ns 7 0;
  spared = get_or ns 8 0;
  end = get_or ns 24 0;
  hit = get_or ns 25 0;
}

-- the state that a list begins with, if it does
abbrev pub parsed : List ℕ → Option Scan
parsed ns = elim (is_state ns) [ true ↦ Some (state_in ns) | false ↦ None ]

abbrev pub laid_over : Scan → List ℕ → List ℕ
laid_over s ns = numbers_of s ++ drop size ns

-- What a call tells, and what the lent list then holds.
pub record Lent : Type 0 where
  pub state : List ℕ
  pub told : Told

-- Kind 4: the list does not begin with a state, or has no room for one; it stays as it was.
abbrev pub no_state : Told
no_state = told 4 0 0 0 0

-- Starting asks only for room.
abbrev pub start_in : Verdict Scan → List ℕ → Lent
start_in v ns =
    elim (has_room ns) [
      | true ↦ record { state = laid_over (state_of v) ns; told = opening_of v }
      | false ↦ record { state = ns; told = no_state }
    ]

abbrev pub handed : Delivered → List ℕ → Lent
handed d ns = record { state = laid_over d.step.state ns; told = step_of d.step.answer d.used }

-- A step from the state that the list begins with.
abbrev pub step_in : (Scan → Delivered) → List ℕ → Lent
step_in step ns =
    elim (is_state ns) [ true ↦ handed (step (state_in ns)) ns | false ↦ record { state = ns; told = no_state } ]
