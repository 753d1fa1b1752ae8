-- Samples of states at the edges of their ranges, a table for each: the range holds here and does not one further. And of starting,
-- of steps that are refused or done, and of entries that building did not write.
use Rattle.std.specs.Prelude.{ℕ, zero, suc, ◌+◌, ◌≡◌, refl, Bool, true, false, ◌&&◌, not, List, [], ◌∷◌, ◌++◌, replicate}
use Rattle.std.proofs.Math.Option.{some, none}
use Rattle.rules.specs.Rules.{Stretch}
use Rattle.book.specs.Book.{accepted, refused as unstarted}
use Rattle.tables.specs.Tables.{Tables}
use Rattle.scan.specs.declared.Scan.{Scan}
use Rattle.scan.specs.State.{laid, in_range}
use Rattle.scan.specs.Start.{started, start}
use Rattle.std.specs.Prelude.{Err}
use Rattle.scan.specs.declared.Refusal.TheVariants.{TooLong, Broken, OutOfRange, OutOfTurn, Overlong}
use Rattle.scan.specs.Calls.{Answer, fetch, found, over, refused, Stepped, step_refusal, counted, agree, judged, carry_on, supply}
use Rattle.scan.specs.Results.{verdict_of, answer_of}

unfoldable pub count : ℕ → ℕ → List ℕ
count from zero = []
count from (suc n) = from ∷ count (from + 1) n

-- The tables of one token of twenty bytes: node v is v deep.
unfoldable pub chain : Tables
unfolding count
chain = record {
  parent = 0 ∷ count 0 20;
  label = 0 ∷ replicate 20 97;
  token = replicate 20 0 ++ (1 ∷ []);
  first = count 1 20 ++ (0 ∷ []);
  next = replicate 21 0;
  shift = replicate 21 1;
}

unfoldable pub stretch : ℕ → ℕ → ℕ → Stretch ℕ
stretch left right node = record { left = left; right = right; node = node }

pub record Sample : Type 0 where
  pub state : Scan
  ranged : Bool

-- N, S, the number of nodes, b, node, d, the first slots, whether a byte is due, bytes supplied; and whether it is in range
unfoldable pub row : ℕ → ℕ → ℕ → ℕ → ℕ → ℕ → List (Stretch ℕ) → Bool → ℕ → Bool → Sample
row n s k b v d ss due supplied ranged = record {
  state = record {
    image = n;
    shortest = s;
    count = k;
    boundary = b;
    node = v;
    depth = d;
    due = due;
    stretches = laid 5 ss;
    supplied = supplied;
    spared = 0;
    end = 0;
    hit = 0;
  };
  ranged = ranged;
}

-- two stretches that are just kept at boundary 25
two : List (Stretch ℕ)
unfolding stretch
two = stretch 0 20 20 ∷ stretch 20 24 4 ∷ []

all_right : List Sample → Bool
all_right [] = true
all_right (s ∷ ss) = agree (in_range chain s.state) s.ranged && all_right ss

-- The node count.
count-right : all_right (
    row 30 20 0 25 0 0 [] false 0 false
    ∷ row 30 20 1 25 0 0 [] false 0 true
    ∷ row 30 20 16385 25 0 0 [] false 0 true
    ∷ row 30 20 16386 25 0 0 [] false 0 false
    ∷ []) ≡ true
unfolding row chain count all_right
count-right = refl

-- N.
image-right : all_right (
    row 16777216 20 21 25 0 0 [] false 0 true ∷ row 16777217 20 21 25 0 0 [] false 0 false ∷ []) ≡ true
unfolding row chain count all_right
image-right = refl

-- S.
shortest-right : all_right (
    row 30 0 21 25 0 0 [] false 0 false
    ∷ row 30 1 21 25 0 0 [] false 0 true
    ∷ row 30 1024 21 25 0 0 [] false 0 true
    ∷ row 30 1025 21 25 0 0 [] false 0 false
    ∷ []) ≡ true
unfolding row chain count all_right
shortest-right = refl

-- The node is below the count and d deep.
node-right : all_right (
    row 30 20 3 25 2 2 [] false 0 true
    ∷ row 30 20 2 25 2 2 [] false 0 false
    ∷ row 30 20 21 25 2 1 [] false 0 false
    ∷ row 30 20 21 25 2 3 [] false 0 false
    ∷ []) ≡ true
unfolding row chain count all_right
node-right = refl

-- d ≤ b ≤ N + 1,024.
boundary-right : all_right (
    row 30 20 21 2 2 2 [] false 0 true
    ∷ row 30 20 21 1 2 2 [] false 0 false
    ∷ row 30 20 21 1054 0 0 [] false 0 true
    ∷ row 30 20 21 1055 0 0 [] false 0 false
    ∷ []) ≡ true
unfolding row chain count all_right
boundary-right = refl

-- Bytes supplied.
supplied-right : all_right (
    row 30 20 21 25 0 0 [] false 1000000000 true ∷ row 30 20 21 25 0 0 [] false 1000000001 false ∷ []) ≡ true
unfolding row chain count all_right
supplied-right = refl

-- Stretches.
remembered-right : all_right (
    row 30 20 21 25 0 0 two false 0 true
    ∷ row 24 20 21 25 0 0 two false 0 true  -- within the image
    ∷ row 23 20 21 25 0 0 two false 0 false
    ∷ row 30 20 21 25 0 0 (stretch 0 20 20 ∷ stretch 19 24 5 ∷ []) false 0 false  -- disjoint
    ∷ row 30 20 21 25 0 0 (stretch 20 24 4 ∷ stretch 0 20 20 ∷ []) false 0 false  -- rising
    ∷ row 30 20 21 25 0 0 (stretch 19 24 4 ∷ []) false 0 false  -- as long as their nodes are deep
    ∷ row 30 20 21 25 0 0 (stretch 20 24 5 ∷ []) false 0 false
    ∷ row 30 20 20 25 0 0 two false 0 false  -- nodes below the count
    ∷ row 30 20 21 24 0 0 (stretch 20 24 4 ∷ []) false 0 false  -- r < b
    ∷ row 30 20 21 26 0 0 (stretch 20 24 4 ∷ []) false 0 false  -- kept by rule 6
    ∷ row 30 20 21 26 0 0 (stretch 16 24 8 ∷ []) false 0 true
    ∷ []) ≡ true
unfolding row two stretch chain count all_right
remembered-right = refl

-- No zeros before a slot in use, and a slot is in use unless it is all zeros.
slots-right : all_right (
    row 30 20 21 25 0 0 (stretch 0 0 0 ∷ stretch 20 24 4 ∷ []) false 0 false
    ∷ row 30 20 21 25 0 0 (stretch 0 0 1 ∷ []) false 0 false
    ∷ []) ≡ true
unfolding row stretch chain count all_right
slots-right = refl

-- A byte is due: the rules fetch place 24, remember place 23, are done, have no child, are at the image's start.
due-right : all_right (
    row 30 20 21 25 0 0 two true 0 true
    ∷ row 30 20 21 25 1 1 two true 0 false
    ∷ row 30 20 21 31 0 0 [] true 0 false
    ∷ row 30 20 21 25 20 20 [] true 0 false
    ∷ row 30 20 21 2 2 2 [] true 0 false
    ∷ []) ≡ true
unfolding row two stretch chain count all_right
due-right = refl

-- The tables of "a", "aa" and so on, each a token: node v is v deep and carries token v.
nested : ℕ → Tables
unfolding count
nested n = record {
  parent = 0 ∷ count 0 n;
  label = 0 ∷ replicate n 97;
  token = count 0 (1 + n);
  first = count 1 n ++ (0 ∷ []);
  next = replicate (1 + n) 0;
  shift = replicate (1 + n) 1;
}

-- the same, but "aa" is no token
gapped : Tables
unfolding nested count
gapped = record {
  parent = (nested 4).parent;
  label = (nested 4).label;
  token = 0 ∷ 1 ∷ 0 ∷ 3 ∷ 4 ∷ [];
  first = (nested 4).first;
  next = (nested 4).next;
  shift = (nested 4).shift;
}

-- N, S, the number of nodes, b, node and d, the first slots, whether a byte is due, the end of the hits that are left and the node of the
-- next
waits : ℕ → ℕ → ℕ → ℕ → ℕ → List (Stretch ℕ) → Bool → ℕ → ℕ → Scan
waits n s k b v ss due end hit = record {
  image = n;
  shortest = s;
  count = k;
  boundary = b;
  node = v;
  depth = v;
  due = due;
  stretches = laid 5 ss;
  supplied = 0;
  spared = 0;
  end = end;
  hit = hit;
}

-- the first state is in its ranges over the tables, and the second is not
edge : Tables → Scan → Scan → Bool
edge t s u = in_range t s && not (in_range t u)

-- the same state, with so many bytes taken from stretches
unfoldable pub billed : Scan → ℕ → Scan
billed s m = record {
  image = s.image;
  shortest = s.shortest;
  count = s.count;
  boundary = s.boundary;
  node = s.node;
  depth = s.depth;
  due = s.due;
  stretches = s.stretches;
  supplied = s.supplied;
  spared = m;
  end = s.end;
  hit = s.hit;
}

-- Bytes taken from stretches.
spared-right : (let s = waits 9 3 4 7 0 [] false 0 0 in edge (nested 4) (billed s 20000000000) (billed s 20000000001)) ≡ true
unfolding edge billed waits nested count
spared-right = refl

-- The hits that are left. None: the end is 0.
left-none : edge (nested 4) (waits 9 3 4 7 0 [] false 0 0) (waits 9 3 4 7 0 [] false 1 0) ≡ true
unfolding edge waits nested count
left-none = refl

-- The node of the next is below the count, carries a token,
left-node : edge (nested 4) (waits 9 3 4 7 0 [] false 5 3) (waits 9 3 4 7 0 [] false 5 4) ≡ true
unfolding edge waits nested count
left-node = refl

left-token : edge gapped (waits 9 3 4 7 0 [] false 5 1) (waits 9 3 4 7 0 [] false 5 2) ≡ true
unfolding edge waits gapped nested count
left-token = refl

-- and is no deeper than the end.
left-deep : edge (nested 4) (waits 9 3 4 4 0 [] false 2 2) (waits 9 3 4 3 0 [] false 1 2) ≡ true
unfolding edge waits nested count
left-deep = refl

-- The end lies in the image, before b, by S at most.
left-image : edge (nested 4) (waits 5 3 4 7 0 [] false 5 2) (waits 4 3 4 7 0 [] false 5 2) ≡ true
unfolding edge waits nested count
left-image = refl

left-before : edge (nested 4) (waits 9 3 4 6 0 [] false 5 2) (waits 9 3 4 5 0 [] false 5 2) ≡ true
unfolding edge waits nested count
left-before = refl

left_near : edge (nested 4) (waits 9 3 4 8 0 [] false 5 2) (waits 9 3 4 9 0 [] false 5 2) ≡ true
unfolding edge waits nested count
left_near = refl

-- The round stands at the root, no byte is due, and no stretch reaches past the end.
left-root : edge (nested 4) (waits 9 3 4 7 0 [] false 5 2) (waits 9 3 4 7 1 [] false 5 2) ≡ true
unfolding edge waits nested count
left-root = refl

left-due : edge (nested 4) (waits 9 3 4 7 0 [] false 5 2) (waits 9 3 4 7 0 [] true 5 2) ≡ true
unfolding edge waits nested count
left-due = refl

left-stretch : edge (nested 48) (waits 120 20 49 100 0 (stretch 50 90 40 ∷ stretch 90 98 8 ∷ []) false 98 20)
    (waits 120 20 49 100 0 (stretch 50 90 40 ∷ stretch 90 98 8 ∷ []) false 97 20) ≡ true
unfolding edge waits stretch nested count
left-stretch = refl

-- Starting: 8 comes above the limit.
start-at-limit : start 16777216 20 21 ≡ accepted (started 16777216 20 21)
start-at-limit = refl

start-over-limit : start 16777217 20 21 ≡ unstarted 8 16777216
start-over-limit = refl

-- A step: 9 before 10 before 11; the root of `spoilt` has a label.
unfoldable pub spoilt : Tables
unfolding chain
spoilt = record { parent = chain.parent; label = replicate 21 97; token = chain.token; first = chain.first; next = chain.next; shift = chain.shift }

nine-first : judged spoilt (row 30 0 21 25 0 0 [] true 0 false).state false ≡ some (refused 9 0)
unfolding spoilt chain count row
nine-first = refl

ten-first : judged chain (row 30 0 21 25 0 0 [] true 0 false).state false ≡ some (refused 10 0)
unfolding chain count row
ten-first = refl

carry-out-of-turn : judged chain (row 30 20 21 25 0 0 [] true 0 true).state false ≡ some (refused 11 0)
unfolding chain count row
carry-out-of-turn = refl

supply-out-of-turn : judged chain (row 30 20 21 25 0 0 [] false 0 true).state true ≡ some (refused 11 0)
unfolding chain count row
supply-out-of-turn = refl

-- Carrying on when done changes nothing.
still-done : carry_on chain (row 30 20 21 31 5 5 [] false 7 true).state
    ≡ record { state = (row 30 20 21 31 5 5 [] false 7 true).state; answer = over }
unfolding chain count row
still-done = refl

-- The hits that are left are answered one by one, the longest token first, and done after the last; a byte then meets 11.
said : Stepped → ℕ → List Answer
said r zero = []
said r (suc n) = r.answer ∷ said (carry_on gapped r.state) n

hits-then-done : said (carry_on gapped (waits 5 2 5 6 0 [] false 5 4)) 5 ≡ found 5 4 ∷ found 5 3 ∷ found 5 1 ∷ over ∷ over ∷ []
unfolding said waits gapped nested count
hits-then-done = refl

supply-with-hits : judged gapped (waits 9 2 5 6 0 [] false 5 4) true ≡ some (refused 11 0)
unfolding waits gapped nested count
supply-with-hits = refl

-- The round's last byte is in, and leads to a child or to none: its longest hit is answered, and the state stands at the next round's
-- start, with the others left.
last-matches : supply gapped (waits 9 1 5 5 3 [] true 0 0) 97
    ≡ record { state = counted (waits 9 1 5 6 0 (stretch 1 5 4 ∷ []) false 5 3); answer = found 5 4 }
unfolding waits stretch gapped nested count
last-matches = refl

last-differs : supply gapped (waits 9 1 5 5 2 [] true 0 0) 98
    ≡ record { state = counted (waits 9 1 5 6 0 [] false 0 0); answer = found 5 1 }
unfolding waits gapped nested count
last-differs = refl

-- "b" and "baaaa": the nodes are "", "b", "a", "aa", "aaa", "aaaa", "baaaa".
unfoldable pub branching : Tables
branching = record {
  parent = 0 ∷ 0 ∷ 0 ∷ 2 ∷ 3 ∷ 4 ∷ 5 ∷ [];
  label = 0 ∷ 98 ∷ 97 ∷ 97 ∷ 97 ∷ 97 ∷ 98 ∷ [];
  token = 0 ∷ 1 ∷ 0 ∷ 0 ∷ 0 ∷ 0 ∷ 2 ∷ [];
  first = 1 ∷ 0 ∷ 3 ∷ 4 ∷ 5 ∷ 6 ∷ 0 ∷ [];
  next = 0 ∷ 2 ∷ 0 ∷ 0 ∷ 0 ∷ 0 ∷ 0 ∷ [];
  shift = replicate 7 1;
}

-- P2's round before place 5: the byte of place 4 is due, and "aaaa" left of it is remembered; m bytes were taken from stretches already.
unfoldable pub before : ℕ → Scan
unfolding billed row stretch
before m = billed (row 8 1 7 5 0 0 (stretch 0 4 5 ∷ []) true 10 true).state m

-- After the round the byte of place 5 is due.
unfoldable pub behind : ℕ → Scan
unfolding billed row
behind m = billed (row 8 1 7 6 0 0 [] true 11 true).state m

-- Four bytes are taken from the stretch, the last of them the closing byte; the byte that is due then is not counted.
spared-counted : supply branching (before 0) 97 ≡ record { state = behind 4; answer = fetch 5 }
unfolding before behind branching billed row stretch
spared-counted = refl

-- The count stops.
spared-stops : supply branching (before 19999999998) 97 ≡ record { state = behind 20000000000; answer = fetch 5 }
unfolding before behind branching billed row stretch
spared-stops = refl

-- `chain` with an entry that building did not write: that of node 2.
shifting : ℕ → Tables
unfolding chain
shifting e = record {
  parent = chain.parent;
  label = chain.label;
  token = chain.token;
  first = chain.first;
  next = chain.next;
  shift = replicate 2 1 ++ (e ∷ replicate 18 1);
}

-- A round at node 2, and the fetch of the round after it.
ending : Scan
unfolding row
ending = (row 60 20 21 25 2 2 [] true 7 true).state

after : ℕ → Stepped
unfolding row
after p = record { state = (row 60 20 21 (1 + p) 0 0 [] true 8 true).state; answer = fetch p }

-- S is 20, and the byte shift of "b" there 18. An entry above it is followed, one above S is cut, and one below it plays no part.
entry-followed : supply (shifting 19) ending 98 ≡ after 43
unfolding after ending shifting chain count row
entry-followed = refl

entry-cut : supply (shifting 1024) ending 98 ≡ after 44
unfolding after ending shifting chain count row
entry-cut = refl

entry-less : supply (shifting 17) ending 98 ≡ after 42
unfolding after ending shifting chain count row
entry-less = refl

-- With no closing byte the entry counts alone: the round has come to the image's start.
entry-alone : carry_on (shifting 17) (row 60 20 21 2 2 2 [] false 8 true).state ≡ after 18
unfolding after shifting chain count row
entry-alone = refl

-- At a step an entry of 0, and one above 1,024, meets 9.
entry-broken : judged (shifting 0) ending true ∷ judged (shifting 1) ending true ∷ judged (shifting 1024) ending true
    ∷ judged (shifting 1025) ending true ∷ []
    ≡ some (refused 9 2) ∷ none ∷ none ∷ some (refused 9 2) ∷ []
unfolding ending shifting chain count row
entry-broken = refl

-- The number comes first, then the value; both are 0 where there is no refusal.
refused-told : step_refusal (refused 9 4) ≡ (9, 4)
refused-told = refl

fetch-told : step_refusal (fetch 24) ≡ (0, 0)
fetch-told = refl

-- Each case of the enums has its number.
cases-told : answer_of (Err (Broken 7)) ∷ answer_of (Err OutOfRange) ∷ answer_of (Err OutOfTurn) ∷ answer_of (Err Overlong) ∷ []
    ≡ refused 9 7 ∷ refused 10 0 ∷ refused 11 0 ∷ refused 15 0 ∷ []
cases-told = refl

opening-told : verdict_of (started 0 0 0) (Err (TooLong 7)) ≡ unstarted 8 7
opening-told = refl
