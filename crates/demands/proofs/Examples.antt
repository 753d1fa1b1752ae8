-- The sample sweeps P1 to P8 of document 01 as one table from the book's bytes on, and one result over its rows; each sweep ends with
-- done. And samples of calls from building on, of sweeps and of lists with their history, and of hits by their tokens' bytes.
use Rattle.std.specs.Prelude.{ℕ, ◌≡◌, refl, Bool, true, false, ◌&&◌, List, [], ◌∷◌, ◌++◌, eqb, get_or, drop, replicate}
use Rattle.std.proofs.Common.{arith}
use mathlib.Core.List.Memᴰ
use Rattle.std.proofs.Math.Option.{some, none}
use Rattle.rules.specs.Rules.{Event, fetched, recalled, hit, shifted, done, trace}
use Rattle.rules.specs.Sweep.{happens, bytes_of, looks, hits_of}
use Rattle.rules.proofs.Examples.{Sample, a, b, x, p1, p2, p3, p4, p5, right}
use Rattle.book.specs.Book.{Reading, read_book, accepted, refused}
use Rattle.tables.specs.Tables.{Building, built, build}
use Rattle.scan.specs.Start.{started}
use Rattle.scan.specs.Calls.{fetch, found, over, refused as denied, carry_on}
use Rattle.scan.specs.Answers.{answers}
use Rattle.demands.specs.Demand2.{swept, swept_to, packet_for, fetched_from, sent, Lengths}
use Rattle.merge.specs.Merge.{wrote, merge}
use Rattle.demands.specs.Demand3.{Call, carry, give, send, Said, say, ran, expected, passed, history}
use Rattle.demands.specs.Merge.{token_in, named, Has, Apart}

-- What a row says of its book: it is accepted, and its tokens make a sample sweep; or it is refused.
data Outcome : Type 0 where
  sweeps : Sample → Outcome
  refuses : ℕ → ℕ → Outcome

record Row : Type 0 where
  book : List ℕ
  outcome : Outcome

-- the book of P1, P4 and P5
axbbx : List ℕ
axbbx = 5 ∷ a ∷ x ∷ b ∷ b ∷ x ∷ 0 ∷ []

rows : List Row
unfolding axbbx
rows =
    record { book = axbbx; outcome = sweeps p1 }
    ∷ record { book = 1 ∷ b ∷ 5 ∷ b ∷ a ∷ a ∷ a ∷ a ∷ 0 ∷ []; outcome = sweeps p2 }
    ∷ record { book = 1 ∷ a ∷ 2 ∷ a ∷ a ∷ 0 ∷ []; outcome = sweeps p3 }
    ∷ record { book = axbbx; outcome = sweeps p4 }
    ∷ record { book = axbbx; outcome = sweeps p5 }
    ∷ record { book = []; outcome = refuses 1 0 }
    ∷ record { book = 0 ∷ []; outcome = refuses 6 0 }
    ∷ record { book = 69 ∷ 0 ∷ []; outcome = refuses 2 0 }
    ∷ []

-- The sweep is made with the tokens that were read.
holds : Reading → Outcome → Bool
holds (accepted tokens) (sweeps s) =
    right (record { tokens = tokens; image = s.image; found = s.found; fetches = s.fetches; spares = s.spares; most = s.most })
holds (accepted tokens) (refuses k v) = false
holds (refused k v) (sweeps s) = false
holds (refused k v) (refuses k' v') = eqb k k' && eqb v v'

all_hold : List Row → Bool
unfolding holds
all_hold [] = true
all_hold (r ∷ rs) = holds (read_book r.book) r.outcome && all_hold rs

samples-hold : all_hold rows ≡ true
unfolding rows axbbx all_hold holds happens trace
samples-hold = refl

-- "a" and "aa", built into tables of four entries: three nodes, S = 1, D = 2.
abbrev made : Building
made =
    let nines : List ℕ = replicate 4 9 in
    build (1 ∷ a ∷ 2 ∷ a ∷ a ∷ 0 ∷ []) (record { parent = nines; label = nines; token = nines; first = nines; next = nines; shift = nines })

made-sizes : made.answer ≡ accepted (record { nodes = 3; shortest = 1; longest = 2 })
made-sizes = refl

-- Demand 2's calls, in the image "aa": its bytes are supplied, and hits carried on from; after done no call is made.
sweeps-right : swept made.tables (a ∷ a ∷ []) 9 (carry_on made.tables (started 2 1 3))
    ≡ fetch 0 ∷ found 1 1 ∷ fetch 1 ∷ fetch 0 ∷ found 2 2 ∷ found 2 1 ∷ over ∷ []
unfolding built
sweeps-right = refl

-- By packets of three bytes, in the image "aaa": the places of the used bytes, and the hits. Of the last packet one byte is left.
packets-right : sent made.tables (a ∷ a ∷ a ∷ []) (λ i. 3) 12 (carry_on made.tables (started 3 1 3))
    ≡ fetch 0 ∷ found 1 1 ∷ fetch 1 ∷ fetch 0 ∷ found 2 2 ∷ found 2 1 ∷ fetch 2 ∷ fetch 1 ∷ found 3 2 ∷ found 3 1 ∷ over ∷ []
unfolding built
packets-right = refl

-- Packets of one byte, and of 64.
lengths-right : Lengths (λ i. 1) × Lengths (λ i. 64)
lengths-right = ((λ i. (omega arith, omega arith)), (λ i. (omega arith, omega arith)))

-- A packet runs down from its place, at most to the image's start; so do the places of its used bytes.
packet-right : packet_for (4 ∷ 5 ∷ 6 ∷ 7 ∷ []) 2 2 ∷ packet_for (4 ∷ 5 ∷ 6 ∷ 7 ∷ []) 2 9 ∷ [] ≡ (6 ∷ 5 ∷ []) ∷ (6 ∷ 5 ∷ 4 ∷ []) ∷ []
packet-right = refl

places-right : fetched_from 2 2 ≡ fetch 2 ∷ fetch 1 ∷ []
places-right = refl

-- Demand 3's calls, in any order: a byte or a packet before any byte is due or while a hit is left, and carrying on when one is due, meet
-- 11 and take nothing; a packet of 65 bytes meets 15.
abbrev calls : List Call
calls =
    give x ∷ send [] ∷ carry ∷ carry ∷ send (replicate 65 a) ∷ give a ∷ send (a ∷ []) ∷ carry ∷ send []
    ∷ send (a ∷ a ∷ a ∷ []) ∷ give x ∷ send (a ∷ []) ∷ carry ∷ carry ∷ carry ∷ send (replicate 65 a) ∷ []

abbrev replies : List Said
replies =
    say (denied 11 0) 0 ∷ say (denied 11 0) 0 ∷ say (fetch 0) 0 ∷ say (denied 11 0) 0 ∷ say (denied 15 0) 0 ∷ say (found 1 1) 1
    ∷ say (denied 11 0) 0 ∷ say (fetch 1) 0 ∷ say (fetch 1) 0
    ∷ say (found 2 2) 2 ∷ say (denied 11 0) 0 ∷ say (denied 11 0) 0 ∷ say (found 2 1) 0 ∷ say over 0 ∷ say over 0 ∷ say (denied 15 0) 0 ∷ []

said-right : (ran made.tables (started 2 1 3) calls).said ≡ replies
unfolding built
said-right = refl

taken-right : (ran made.tables (started 2 1 3) calls).taken ≡ a ∷ a ∷ a ∷ []
unfolding built
taken-right = refl

counted-right : (ran made.tables (started 2 1 3) calls).last.supplied ≡ 3
unfolding built
counted-right = refl

expected-right : expected none (answers (happens ((a ∷ []) ∷ (a ∷ a ∷ []) ∷ []) 2 (λ k p. get_or (a ∷ a ∷ a ∷ []) k 0))) calls ≡ replies
unfolding happens trace
expected-right = refl

-- A packet is to use all its bytes, or those before an answer that does not fetch the place below.
uses-right : expected (some 4) (fetch 3 ∷ fetch 1 ∷ over ∷ []) (send (a ∷ []) ∷ send (a ∷ a ∷ a ∷ []) ∷ send (a ∷ a ∷ []) ∷ [])
    ≡ say (fetch 3) 1 ∷ say (fetch 1) 1 ∷ say over 1 ∷ []
uses-right = refl

-- What calls pass: with a byte or two, up to the next place to fetch, which is not passed, or through the hit; what is taken from stretches
-- on the way is passed; and done.
passed-right : (let es : List (Event ℕ) = fetched 4 ∷ recalled 3 ∷ fetched 2 ∷ hit 5 1 ∷ shifted 6 [] ∷ fetched 5 ∷ done ∷ [] in
    passed 0 es ∷ passed 1 es ∷ passed 2 es ∷ passed 0 (drop 3 es) ∷ passed 0 (drop 4 es) ∷ passed 1 (drop 5 es) ∷ passed 0 (drop 7 es) ∷ [])
    ≡ 0 ∷ 2 ∷ 4 ∷ 1 ∷ 1 ∷ 2 ∷ 0 ∷ []
passed-right = refl

-- P2's book, built: seven nodes. In its image, up to the round that takes "aaaa" from its stretch, by single bytes and by packets used in part
-- and whole, with a call out of turn, and last an empty packet while the byte of place 5 is due: eleven bytes are taken and four spared, the
-- last of them the closing byte; place 5 is not looked at.
abbrev grown : Building
grown =
    let nines : List ℕ = replicate 7 9 in
    build (1 ∷ b ∷ 5 ∷ b ∷ a ∷ a ∷ a ∷ a ∷ 0 ∷ []) (record { parent = nines; label = nines; token = nines; first = nines; next = nines; shift = nines })

abbrev remembering : List Call
remembering =
    carry ∷ give a ∷ send (a ∷ a ∷ a ∷ []) ∷ send (replicate 5 a) ∷ send (replicate 4 a) ∷ carry ∷ give a ∷ send [] ∷ []

abbrev remembered : List Said
remembered =
    say (fetch 0) 0 ∷ say (fetch 1) 1 ∷ say (fetch 2) 2 ∷ say (fetch 3) 3 ∷ say (fetch 4) 4 ∷ say (denied 11 0) 0 ∷ say (fetch 5) 1
    ∷ say (fetch 5) 0 ∷ []

remembering-right : (ran grown.tables (started 8 1 7) remembering).said ≡ remembered
unfolding built
remembering-right = refl

bill-right : (ran grown.tables (started 8 1 7) remembering).last.supplied ∷ (ran grown.tables (started 8 1 7) remembering).last.spared ∷ []
    ≡ 11 ∷ 4 ∷ []
unfolding built
bill-right = refl

looked-right : looks (history remembered (happens p2.tokens 8 (bytes_of p2.image)))
    ≡ 0 ∷ 1 ∷ 0 ∷ 2 ∷ 1 ∷ 0 ∷ 3 ∷ 2 ∷ 1 ∷ 0 ∷ 4 ∷ 3 ∷ 2 ∷ 1 ∷ 0 ∷ []
unfolding happens trace
looked-right = refl

-- With hits, done twice, and calls that are refused before and between: all that is fetched is looked at, and nothing else.
looked-hits : looks (history replies (happens ((a ∷ []) ∷ (a ∷ a ∷ []) ∷ []) 2 (λ k p. get_or (a ∷ a ∷ a ∷ []) k 0))) ≡ 0 ∷ 1 ∷ 0 ∷ []
unfolding happens trace
looked-hits = refl

-- At the end of the sweep by bytes eight are spared; when the eleventh byte is in, four; and before it, none.
spares-right : (let r = carry_on grown.tables (started 8 1 7) in
    (swept_to grown.tables p2.image 40 r).spared ∷ (swept_to grown.tables p2.image 11 r).spared ∷ (swept_to grown.tables p2.image 10 r).spared ∷ [])
    ≡ 8 ∷ 4 ∷ 0 ∷ []
unfolding built
spares-right = refl

-- "a" and "aa", and "b" and "a", in the image "aab": by their tokens' bytes the merged book finds the hits of both.
abbrev north : List ℕ
north = 1 ∷ a ∷ 2 ∷ a ∷ a ∷ 0 ∷ []

abbrev south : List ℕ
south = 1 ∷ b ∷ 1 ∷ a ∷ 0 ∷ []

abbrev both : List ℕ
both = 1 ∷ a ∷ 2 ∷ a ∷ a ∷ 1 ∷ b ∷ 0 ∷ []

both-written : merge north south (replicate 9 7) ≡ record { answer = wrote 8; out = both ++ (7 ∷ []) }
both-written = refl

aab : List ℕ
aab = a ∷ a ∷ b ∷ []

north-named : named north (hits_of ((a ∷ []) ∷ (a ∷ a ∷ []) ∷ []) aab) ≡ (1, a ∷ []) ∷ (2, a ∷ a ∷ []) ∷ (2, a ∷ []) ∷ []
unfolding aab happens trace
north-named = refl

south-named : named south (hits_of ((b ∷ []) ∷ (a ∷ []) ∷ []) aab) ≡ (1, a ∷ []) ∷ (2, a ∷ []) ∷ (3, b ∷ []) ∷ []
unfolding aab happens trace
south-named = refl

both-named : named both (hits_of ((a ∷ []) ∷ (a ∷ a ∷ []) ∷ (b ∷ []) ∷ []) aab)
    ≡ (1, a ∷ []) ∷ (2, a ∷ a ∷ []) ∷ (2, a ∷ []) ∷ (3, b ∷ []) ∷ []
unfolding aab happens trace
both-named = refl

-- A token that is not in the book has no bytes.
none_named : token_in south 0 ∷ token_in south 3 ∷ token_in [] 1 ∷ [] ≡ [] ∷ [] ∷ [] ∷ []
none_named = refl

-- A card number of the second book whose reverse the first has is found as that one, and found so one time.
abbx : List ℕ
abbx = a ∷ b ∷ b ∷ x ∷ []

turned-found : Has ((4, abbx) ∷ []) (4, x ∷ b ∷ b ∷ a ∷ [])
unfolding abbx
turned-found = ((4, abbx), Memᴰ.head refl, refl, refl)

turned-one : Apart ((4, abbx) ∷ (4, x ∷ b ∷ b ∷ a ∷ []) ∷ []) → ⊥
unfolding abbx
turned-one p = p.0 ((4, x ∷ b ∷ b ∷ a ∷ []), Memᴰ.head refl, refl, refl)
