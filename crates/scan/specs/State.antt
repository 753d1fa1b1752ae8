-- The scan state of the sweep by single bytes, and its ranges (refusal 10), in document 01's order; those of the hits that are left come
-- last.
use Rattle.std.specs.Prelude.{ℕ, zero, suc, ◌+◌, ◌-◌, Bool, true, false, ◌&&◌, ◌||◌, not, List, [], ◌∷◌, leb, ltb, eqb, get_or}
use Rattle.rules.specs.Rules.{Tree, Stretch, Config, Next, finished, wants, goes, kept, next}
use Rattle.book.specs.Book.{max_bodies, max_body, max_image}
use Rattle.tables.specs.Tables.{Tables}
use Rattle.tables.specs.Walks.{of_tables, depth}
use Rattle.scan.specs.declared.Scan.{Scan}
use Rattle.scan.specs.declared.Stretch.{Stretch as Slot}

-- The rules' stretch of a slot, and the slot of a stretch.
abbrev pub stretch_of : Slot → Stretch ℕ
stretch_of s = record { left = s.left; right = s.right; node = s.node }

abbrev pub slot_of : Stretch ℕ → Slot
slot_of m = record { left = m.left; right = m.right; node = m.node }

-- A slot that holds no stretch.
abbrev pub unused : Slot
unused = record { left = 0; right = 0; node = 0 }

-- A slot is in use if it is not all zeros.
abbrev pub in_use : Slot → Bool
in_use s = not (eqb s.left 0 && eqb s.right 0 && eqb s.node 0)

-- The stretches of the slots in use that come first.
abbrev pub used : List Slot → List (Stretch ℕ)
used [] = []
used (s ∷ ss) = elim (in_use s) [ true ↦ stretch_of s ∷ used ss | false ↦ [] ]

-- The stretches laid into so many slots, zeros behind.
abbrev pub laid : ℕ → List (Stretch ℕ) → List Slot
laid zero ms = []
laid (suc k) [] = unused ∷ laid k []
laid (suc k) (m ∷ ms) = slot_of m ∷ laid k ms

-- Where the round of a state stands, with the stretches in use.
abbrev pub config_of : Scan → Config ℕ
config_of s = record { boundary = s.boundary; node = s.node; depth = s.depth; stretches = used s.stretches }

-- the ends of the ranges: nodes, S, b in an image of n bytes, bytes supplied, bytes taken from stretches, stretches
abbrev pub max_nodes : ℕ
max_nodes = 1 + max_bodies

abbrev pub max_shortest : ℕ
max_shortest = max_body

abbrev pub farthest : ℕ → ℕ
farthest n = n + max_body

abbrev pub max_supplied : ℕ
max_supplied = 1000000000

abbrev pub max_spared : ℕ
max_spared = 20000000000

abbrev pub max_stretches : ℕ
max_stretches = 5

-- The rules' tree of a state: S of the state cuts its shifts.
abbrev pub tree_of : Tables → Scan → Tree ℕ
tree_of t s = of_tables t s.count s.shortest

-- The node count is 1 to 16,385.
abbrev pub count_ok : Scan → Bool
count_ok s = leb 1 s.count && leb s.count max_nodes

-- N is within its limit.
abbrev pub image_ok : Scan → Bool
image_ok s = leb s.image max_image

-- S is 1 to 1,024.
abbrev pub shortest_ok : Scan → Bool
shortest_ok s = leb 1 s.shortest && leb s.shortest max_shortest

-- The node is below the count and d deep.
abbrev pub node_ok : Tables → Scan → Bool
node_ok t s = ltb s.node s.count && eqb (depth t s.node) s.depth

-- d ≤ b ≤ N + 1,024.
abbrev pub boundary_ok : Scan → Bool
boundary_ok s = leb s.depth s.boundary && leb s.boundary (farthest s.image)

-- At most 1,000,000,000 bytes were supplied.
abbrev pub supplied_ok : Scan → Bool
supplied_ok s = leb s.supplied max_supplied

-- At most 20,000,000,000 bytes were taken from stretches.
abbrev pub spared_ok : Scan → Bool
spared_ok s = leb s.spared max_spared

-- A stretch lies within the image, before b, is as long as its node is deep, and is kept by rule 6 at b.
abbrev pub stretch_ok : Tables → Scan → Stretch ℕ → Bool
stretch_ok t s m =
    ltb m.left m.right && leb m.right s.image && ltb m.right s.boundary
    && ltb m.node s.count && eqb (depth t m.node) (m.right - m.left) && kept s.boundary m

-- From place `from` on, the stretches are disjoint and rise.
abbrev pub rising : Tables → Scan → ℕ → List (Stretch ℕ) → Bool
rising t s from [] = true
rising t s from (m ∷ ms) = leb from m.left && stretch_ok t s m && rising t s m.right ms

-- the two hold the same numbers
abbrev pub same_slots : List Slot → List Slot → Bool
same_slots [] [] = true
same_slots [] (q ∷ qs) = false
same_slots (p ∷ ps) [] = false
same_slots (p ∷ ps) (q ∷ qs) =
    eqb p.left q.left && eqb p.right q.right && eqb p.node q.node && same_slots ps qs

-- There are five slots; those in use come first, and the others hold zeros.
abbrev pub slots_ok : Scan → Bool
slots_ok s = same_slots s.stretches (laid max_stretches (used s.stretches))

-- The stretches are in range.
abbrev pub stretches_ok : Tables → Scan → Bool
stretches_ok t s = slots_ok s && rising t s 0 (used s.stretches)

-- The rules fetch a byte here.
abbrev pub wants_byte : {E : Type 0} → Next E → Bool
wants_byte finished = false
wants_byte (wants at) = true
wants_byte (goes s) = false

-- A byte is due only where the rules fetch one.
abbrev pub due_ok : Tables → Scan → Bool
due_ok t s = not s.due || wants_byte (next (tree_of t s) s.image (config_of s))

-- none of the stretches reaches past place n
abbrev pub up_to : ℕ → List (Stretch ℕ) → Bool
up_to n [] = true
up_to n (m ∷ ms) = leb m.right n && up_to n ms

-- The hits that are left end in the image and before b, by S at most; the round stands at the root, so that d is 0, no byte is due, and
-- no stretch reaches past their end.
abbrev pub end_ok : Scan → Bool
end_ok s =
    leb s.end s.image && ltb s.end s.boundary && leb s.boundary (s.end + s.shortest)
    && eqb s.node 0 && not s.due && up_to s.end (used s.stretches)

-- The node of the next of them is below the count, carries a token, and is no deeper than its end.
abbrev pub hit_ok : Tables → Scan → Bool
hit_ok t s =
    ltb s.hit s.count && not (eqb (get_or t.token s.hit 0) 0) && leb (depth t s.hit) s.end

-- The root stands for no hit left, and then the end is 0.
abbrev pub left_ok : Tables → Scan → Bool
left_ok t s = elim s.hit [ zero ↦ eqb s.end 0 | suc v ↦ hit_ok t s && end_ok s ]

-- Refusal 10 does not come: the state is in its ranges.
abbrev pub in_range : Tables → Scan → Bool
in_range t s =
    count_ok s && image_ok s && shortest_ok s && node_ok t s && boundary_ok s && supplied_ok s && spared_ok s && stretches_ok t s && due_ok t s
    && left_ok t s
