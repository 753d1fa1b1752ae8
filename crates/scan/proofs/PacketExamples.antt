-- Samples of packets: which bytes are used, with which state and answer a call stops, and its refusals in their order.
use Rattle.std.specs.Prelude.{ℕ, Ok, ◌≡◌, refl, true, false, List, [], ◌∷◌, replicate}
use Rattle.rules.specs.Rules.{Stretch}
use Rattle.scan.specs.declared.Scan.{Scan}
use Rattle.scan.specs.declared.Answer.TheVariants.{Fetch}
use Rattle.scan.specs.Calls.{Answer, fetch, found, over, refused}
use Rattle.scan.specs.Packets.{Delivered, is_below, feed, supply_packet, singly}
use Rattle.scan.specs.Answers.{descent}
use Rattle.scan.specs.Results.{delivered_of}
use Rattle.scan.proofs.Examples.{count, chain, stretch, row, billed, spoilt}

-- The place just below; not the same, nor one further down.
below_right : is_below 5 (fetch 4) ∷ is_below 5 (fetch 5) ∷ is_below 5 (fetch 3) ∷ is_below 0 (fetch 0) ∷ is_below 5 (found 4 4) ∷ is_below 5 over
    ∷ is_below 5 (refused 4 4) ∷ []
    ≡ true ∷ false ∷ false ∷ false ∷ false ∷ false ∷ false ∷ []
below_right = refl

-- Two go down; none does, where the first is not just below, or there is none.
descent-right : descent 5 (fetch 4 ∷ fetch 3 ∷ fetch 1 ∷ fetch 0 ∷ []) ∷ descent 5 (fetch 3 ∷ fetch 2 ∷ []) ∷ descent 1 (fetch 0 ∷ fetch 0 ∷ [])
    ∷ descent 5 [] ∷ []
    ≡ 2 ∷ 0 ∷ 1 ∷ 0 ∷ []
descent-right = refl

-- Over one token of twenty bytes: N, b, d, the first slots, and bytes supplied; a byte is due.
due : ℕ → ℕ → ℕ → List (Stretch ℕ) → ℕ → Scan
unfolding row
due n b d ss supplied = (row n 20 21 b d d ss true supplied true).state

-- no byte is due
idle : ℕ → ℕ → List (Stretch ℕ) → ℕ → Scan
unfolding row
idle n b ss supplied = (row n 20 21 b 0 0 ss false supplied true).state

used : ℕ → Scan → Answer → Delivered
used k s a = record { step = record { state = s; answer = a }; used = k }

-- All three bytes are used, and the next place is wanted.
whole-used : supply_packet chain (due 30 25 0 [] 7) (replicate 3 97) ≡ used 3 (due 30 25 3 [] 10) (fetch 21)
unfolding used due row chain count
whole-used = refl

-- The count stops.
count-stops : supply_packet chain (due 30 25 0 [] 999999999) (replicate 3 97) ≡ used 3 (due 30 25 3 [] 1000000000) (fetch 21)
unfolding used due row chain count
count-stops = refl

-- No byte is used where the answer so far is not to fetch the place just below.
feed-stops : feed chain 25 (record { state = due 30 25 0 [] 7; answer = fetch 23 }) (97 ∷ []) ≡ used 0 (due 30 25 0 [] 7) (fetch 23)
unfolding used due row chain count
feed-stops = refl

-- An empty packet is answered the place that is due.
empty-used : supply_packet chain (due 30 25 2 [] 7) [] ≡ used 0 (due 30 25 2 [] 7) (fetch 22)
unfolding used due row chain count
empty-used = refl

-- A byte ends the round: another place is wanted, or the sweep is done.
closing-used : supply_packet chain (due 60 25 2 [] 7) (97 ∷ 98 ∷ 97 ∷ []) ≡ used 2 (due 60 42 0 [] 9) (fetch 41)
unfolding used due row chain count
closing-used = refl

done-used : supply_packet chain (due 30 25 2 [] 7) (97 ∷ 98 ∷ 97 ∷ []) ≡ used 2 (idle 30 42 [] 9) over
unfolding used due idle row chain count
done-used = refl

-- The token's last byte is in: its hit is answered.
hit-used : supply_packet chain (due 30 25 18 [] 7) (replicate 3 97) ≡ used 2 (idle 30 26 (stretch 5 25 20 ∷ []) 9) (found 25 1)
unfolding used due idle stretch row chain count
hit-used = refl

-- Places 23 to 20 are remembered, and counted: after place 24 the next one wanted is 19.
stretch-used : supply_packet chain (due 30 25 0 (stretch 20 24 4 ∷ []) 7) (replicate 3 97)
    ≡ used 1 (billed (due 30 25 5 (stretch 20 24 4 ∷ []) 8) 4) (fetch 19)
unfolding used due billed stretch row chain count
stretch-used = refl

-- Place 0 is the last.
start-used : supply_packet chain (due 30 2 0 [] 7) (replicate 3 97) ≡ used 2 (due 30 3 0 [] 9) (fetch 2)
unfolding used due row chain count
start-used = refl

-- 64 bytes are taken. 65 are not, before all other refusals; then come those of a step.
most-taken : supply_packet chain (due 30 25 0 [] 7) (replicate 64 97) ≡ used 20 (idle 30 26 (stretch 5 25 20 ∷ []) 27) (found 25 1)
unfolding used due idle stretch row chain count
most-taken = refl

fifteen : supply_packet chain (due 30 25 0 [] 7) (replicate 65 97) ≡ used 0 (due 30 25 0 [] 7) (refused 15 0)
unfolding used due row chain count
fifteen = refl

fifteen-first : supply_packet spoilt (idle 30 1055 [] 7) (replicate 65 97) ≡ used 0 (idle 30 1055 [] 7) (refused 15 0)
unfolding used idle row spoilt chain count
fifteen-first = refl

nine-then : supply_packet spoilt (idle 30 1055 [] 7) (replicate 64 97) ≡ used 0 (idle 30 1055 [] 7) (refused 9 0)
unfolding used idle row spoilt chain count
nine-then = refl

ten-then : supply_packet chain (idle 30 1055 [] 7) (replicate 64 97) ≡ used 0 (idle 30 1055 [] 7) (refused 10 0)
unfolding used idle row chain count
ten-then = refl

-- With no byte due any packet meets 11, an empty one too.
eleven-then : supply_packet chain (idle 30 25 [] 7) (97 ∷ []) ≡ used 0 (idle 30 25 [] 7) (refused 11 0)
unfolding used idle row chain count
eleven-then = refl

eleven-empty : supply_packet chain (idle 30 25 [] 7) [] ≡ used 0 (idle 30 25 [] 7) (refused 11 0)
unfolding used idle row chain count
eleven-empty = refl

-- Two bytes, singly.
singly-right : singly chain (record { state = due 30 25 0 [] 7; answer = over }) (97 ∷ 97 ∷ []) ≡ record { state = due 30 25 2 [] 9; answer = fetch 22 }
unfolding due row chain count
singly-right = refl

-- What the call hands back, as the definitions have it.
delivered-told : delivered_of (record { state = due 30 25 3 [] 10; answer = Ok (Fetch 21); used = 3 }) ≡ used 3 (due 30 25 3 [] 10) (fetch 21)
unfolding used
delivered-told = refl
