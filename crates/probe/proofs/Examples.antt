-- Samples: the numbers of each kind of answer, and a state through its numbers and back.
use Prim.{tt}
use Rattle.std.specs.Prelude.{ℕ, ◌≡◌, refl, true, false, Ok, Err, List, [], ◌∷◌, ◌++◌, take, set, replicate}
use Rattle.std.proofs.Math.Option.{some, none}
use Rattle.book.specs.Book.{accepted, refused, found, missing, unread}
use Rattle.fitting.specs.Fitting.{fits, differs, cut_off}
use Rattle.merge.specs.Merge.{wrote}
use Rattle.trie.specs.Answers.{tables}
use Rattle.scan.specs.declared.Scan.{Scan}
use Rattle.scan.specs.Start.{start}
use Rattle.scan.specs.Calls.{fetch, found as hit, over, refused as denied, supply}
use Rattle.scan.specs.Packets.{Delivered, none_used, supply_packet}
use Rattle.scan.proofs.Examples.{count, chain}
use Rattle.probe.specs.declared.Told.{Told}
use Rattle.probe.specs.Numbers.{told, reading_of, place_of, contains_of, fit_told, length_told, merging_of, sizes_told, building_of, tested_of, child_of, way_of, step_of}
use Rattle.probe.specs.States.{Lent, numbers_of, state_in, start_in, step_in}

-- each answer as one list, its kind first
plain : Told → List ℕ
plain t = t.kind ∷ t.numbers

answers : List (List ℕ)
unfolding plain
answers =
    plain (reading_of (refused 4 12)) ∷ plain (reading_of (accepted (record { tokens = 3; bodies = 20; shortest = 2; longest = 16 })))
    ∷ plain (place_of (found 7 5)) ∷ plain (place_of missing) ∷ plain (place_of (unread 4 12))
    ∷ plain (fit_told (accepted fits)) ∷ plain (fit_told (accepted (differs 7))) ∷ plain (fit_told (accepted cut_off)) ∷ plain (fit_told (refused 8 9))
    ∷ plain (contains_of true) ∷ plain (contains_of false) ∷ plain (length_told (accepted 9)) ∷ plain (length_told (refused 13 4))
    ∷ plain (sizes_told (refused 7 21)) ∷ plain (sizes_told (accepted (record { nodes = 19; shortest = 2; longest = 16 })))
    ∷ plain (tested_of (accepted tt)) ∷ plain (tested_of (refused 9 8))
    ∷ plain (child_of (some 8)) ∷ plain (child_of none)
    ∷ plain (way_of (Ok 8)) ∷ plain (way_of (Err 8))
    ∷ plain (step_of (fetch 9) 5) ∷ plain (step_of (hit 9 2) 6) ∷ plain (step_of over 7) ∷ plain (step_of (denied 9 9) 8)
    ∷ []

answers-told : answers
    ≡ (0 ∷ 4 ∷ 12 ∷ 0 ∷ 0 ∷ []) ∷ (1 ∷ 3 ∷ 20 ∷ 2 ∷ 16 ∷ [])
    ∷ (1 ∷ 7 ∷ 5 ∷ 0 ∷ 0 ∷ []) ∷ (2 ∷ 0 ∷ 0 ∷ 0 ∷ 0 ∷ []) ∷ (0 ∷ 4 ∷ 12 ∷ 0 ∷ 0 ∷ [])
    ∷ (1 ∷ 0 ∷ 0 ∷ 0 ∷ 0 ∷ []) ∷ (2 ∷ 7 ∷ 0 ∷ 0 ∷ 0 ∷ []) ∷ (3 ∷ 0 ∷ 0 ∷ 0 ∷ 0 ∷ []) ∷ (0 ∷ 8 ∷ 9 ∷ 0 ∷ 0 ∷ [])
    ∷ (1 ∷ 0 ∷ 0 ∷ 0 ∷ 0 ∷ []) ∷ (2 ∷ 0 ∷ 0 ∷ 0 ∷ 0 ∷ []) ∷ (1 ∷ 9 ∷ 0 ∷ 0 ∷ 0 ∷ []) ∷ (0 ∷ 13 ∷ 4 ∷ 0 ∷ 0 ∷ [])
    ∷ (0 ∷ 7 ∷ 21 ∷ 0 ∷ 0 ∷ []) ∷ (1 ∷ 19 ∷ 2 ∷ 16 ∷ 0 ∷ [])
    ∷ (1 ∷ 0 ∷ 0 ∷ 0 ∷ 0 ∷ []) ∷ (0 ∷ 9 ∷ 8 ∷ 0 ∷ 0 ∷ [])
    ∷ (1 ∷ 8 ∷ 0 ∷ 0 ∷ 0 ∷ []) ∷ (2 ∷ 0 ∷ 0 ∷ 0 ∷ 0 ∷ [])
    ∷ (1 ∷ 8 ∷ 0 ∷ 0 ∷ 0 ∷ []) ∷ (2 ∷ 8 ∷ 0 ∷ 0 ∷ 0 ∷ [])
    ∷ (1 ∷ 9 ∷ 0 ∷ 0 ∷ 5 ∷ []) ∷ (2 ∷ 9 ∷ 2 ∷ 0 ∷ 6 ∷ []) ∷ (3 ∷ 0 ∷ 0 ∷ 0 ∷ 7 ∷ []) ∷ (0 ∷ 9 ∷ 9 ∷ 0 ∷ 8 ∷ [])
    ∷ []
unfolding answers
answers-told = refl

-- 26 numbers, all different
state : List ℕ
state =
    30 ∷ 20 ∷ 21 ∷ 25 ∷ 2 ∷ 3 ∷ 1 ∷ 7 ∷ 6
    ∷ 8 ∷ 9 ∷ 10 ∷ 11 ∷ 12 ∷ 13 ∷ 14 ∷ 15 ∷ 16 ∷ 17 ∷ 18 ∷ 19 ∷ 26 ∷ 27 ∷ 28 ∷ 29 ∷ 31 ∷ []

there_and_back : numbers_of (state_in state) ≡ state
unfolding state
there_and_back = refl

none-due : numbers_of (state_in (set state 6 0)) ≡ set state 6 0
unfolding state
none-due = refl

-- What merging wrote, and what building left, is told beside the answer.
merged-told : merging_of (record { answer = wrote 3; out = 1 ∷ 97 ∷ 0 ∷ 7 ∷ [] })
    ≡ record { told = told 1 3 0 0 0; out = 1 ∷ 97 ∷ 0 ∷ 7 ∷ [] }
merged-told = refl

built-told : building_of (record { answer = refused 7 21; tables = tables (1 ∷ []) (2 ∷ []) (3 ∷ []) (4 ∷ []) (5 ∷ []) (6 ∷ []) })
    ≡ record { told = told 0 7 21 0 0; tables = tables (1 ∷ []) (2 ∷ []) (3 ∷ []) (4 ∷ []) (5 ∷ []) (6 ∷ []) }
built-told = refl

-- a step that hands back the state it is given, and used 3 bytes
stay : Scan → Delivered
stay s = record { step = record { state = s; answer = over }; used = 3 }

-- What follows the state stays; a list that is a number short, or whose seventh number is neither 0 nor 1, is told apart and stays.
rows : List Lent
unfolding state stay
rows =
    step_in stay (state ++ (5 ∷ 6 ∷ [])) ∷ step_in stay (take 25 state) ∷ step_in stay (set state 6 2)
    ∷ start_in (start 8 5 6) (state ++ (5 ∷ [])) ∷ start_in (start 16777217 5 6) state ∷ start_in (start 8 5 6) (take 25 state)
    ∷ []

left : List ℕ → ℕ → ℕ → ℕ → ℕ → Lent
left ns kind a b used = record { state = ns; told = told kind a b 0 used }

rows_left : rows
    ≡ left (state ++ (5 ∷ 6 ∷ [])) 3 0 0 3 ∷ left (take 25 state) 4 0 0 0 ∷ left (set state 6 2) 4 0 0 0
    ∷ left (8 ∷ 5 ∷ 6 ∷ 5 ∷ replicate 22 0 ++ (5 ∷ [])) 1 0 0 0 ∷ left (replicate 26 0) 0 8 16777216 0 ∷ left (take 25 state) 4 0 0 0
    ∷ []
unfolding rows left state stay
rows_left = refl

-- A state over one token of twenty bytes, with a byte due: d, which is the node too, and bytes supplied.
due : ℕ → ℕ → List ℕ
due d supplied = 30 ∷ 20 ∷ 21 ∷ 25 ∷ d ∷ d ∷ 1 ∷ supplied ∷ replicate 18 0

-- The bytes used are told of a packet, none of one that is too long, and none of a byte that is supplied singly.
sent-told : step_in (λ s. supply_packet chain s (replicate 3 97)) (due 0 7) ∷ step_in (λ s. supply_packet chain s (replicate 65 97)) (due 0 7)
    ∷ step_in (λ s. none_used (supply chain s 97)) (due 0 7) ∷ []
    ≡ left (due 3 10) 1 21 0 3 ∷ left (due 0 7) 0 15 0 0 ∷ left (due 1 8) 1 23 0 0 ∷ []
unfolding due left chain count
sent-told = refl

-- The same with places 20 to 23 remembered, and bytes taken from there.
remembering : ℕ → ℕ → ℕ → List ℕ
remembering d supplied spared = 30 ∷ 20 ∷ 21 ∷ 25 ∷ d ∷ d ∷ 1 ∷ supplied ∷ spared ∷ 20 ∷ 24 ∷ 4 ∷ replicate 14 0

-- A byte is supplied for place 24, and those of places 23 to 20 are taken from the stretch.
spared-told : step_in (λ s. none_used (supply chain s 97)) (remembering 0 7 2) ≡ left (remembering 5 8 6) 1 19 0 0
unfolding remembering left chain count
spared-told = refl
