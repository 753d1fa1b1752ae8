-- Samples: the tables of four tokens, and of card numbers, shifts of nodes, building into longer and into too short tables, damaged tables
-- with the first node that breaks them, and shifts that building did not write.
use Prim.{tt}
use Rattle.std.specs.Prelude.{ℕ, ◌≡◌, refl, Bool, true, false, ◌&&◌, List, [], ◌∷◌, ◌++◌, map, eqb, replicate, set, take}
use Rattle.std.proofs.Math.Option.{Option, some, none}
use Rattle.rules.specs.Rules.{hit, hits_up}
use Rattle.book.specs.Book.{accepted, refused}
use Rattle.tables.specs.Tables.{Tables, built, build}
use Rattle.tables.specs.Walks.{child_by, carrier, shift_from, of_tables}
use Rattle.tables.specs.Broken.{broken, tested}

-- "ab", "b", "cb", "ba": the nodes are "", "b", "ab", "cb", "a", "ba"
abbrev four : Tables
four = record {
  parent = 0 ∷ 0 ∷ 1 ∷ 1 ∷ 0 ∷ 4 ∷ [];
  label = 0 ∷ 98 ∷ 97 ∷ 99 ∷ 97 ∷ 98 ∷ [];
  token = 0 ∷ 2 ∷ 1 ∷ 3 ∷ 0 ∷ 4 ∷ [];
  first = 1 ∷ 2 ∷ 0 ∷ 0 ∷ 5 ∷ 0 ∷ [];
  next = 0 ∷ 4 ∷ 3 ∷ 0 ∷ 0 ∷ 0 ∷ [];
  shift = replicate 6 1;
}

four-built : built ((97 ∷ 98 ∷ []) ∷ (98 ∷ []) ∷ (99 ∷ 98 ∷ []) ∷ (98 ∷ 97 ∷ []) ∷ []) ≡ four
unfolding built
four-built = refl

-- "bxcba", "abcx" and "abcdcba". The second is a card number: its nodes "x", "cx", "bcx" and "abcx" come after the first's five, and its
-- reverse "xcba" is a node of the first, which gets number 2. The third is one that reads the same backwards: it has one word, and four
-- nodes more than "cba".
abbrev cards : Tables
cards = record {
  parent = 0 ∷ 0 ∷ 1 ∷ 2 ∷ 3 ∷ 4 ∷ 0 ∷ 6 ∷ 7 ∷ 8 ∷ 3 ∷ 10 ∷ 11 ∷ 12 ∷ [];
  label = 0 ∷ 97 ∷ 98 ∷ 99 ∷ 120 ∷ 98 ∷ 120 ∷ 99 ∷ 98 ∷ 97 ∷ 100 ∷ 99 ∷ 98 ∷ 97 ∷ [];
  token = 0 ∷ 0 ∷ 0 ∷ 0 ∷ 2 ∷ 1 ∷ 0 ∷ 0 ∷ 0 ∷ 2 ∷ 0 ∷ 0 ∷ 0 ∷ 3 ∷ [];
  first = 1 ∷ 2 ∷ 3 ∷ 4 ∷ 5 ∷ 0 ∷ 7 ∷ 8 ∷ 9 ∷ 0 ∷ 11 ∷ 12 ∷ 13 ∷ 0 ∷ [];
  next = 0 ∷ 6 ∷ 0 ∷ 0 ∷ 10 ∷ 0 ∷ 0 ∷ 0 ∷ 0 ∷ 0 ∷ 0 ∷ 0 ∷ 0 ∷ 0 ∷ [];
  shift = 1 ∷ replicate 13 3;
}

cards-built : built ((98 ∷ 120 ∷ 99 ∷ 98 ∷ 97 ∷ []) ∷ (97 ∷ 98 ∷ 99 ∷ 120 ∷ []) ∷ (97 ∷ 98 ∷ 99 ∷ 100 ∷ 99 ∷ 98 ∷ 97 ∷ []) ∷ []) ≡ cards
unfolding built
cards-built = refl

-- "abcx" alone: the nodes of its own bytes come before those of its reverse, and both ends have its number. Moved 3 to the right, each word
-- agrees with all nodes of the other; the word itself would only at S.
turned_built : built ((97 ∷ 98 ∷ 99 ∷ 120 ∷ []) ∷ []) ≡ record {
  parent = 0 ∷ 0 ∷ 1 ∷ 2 ∷ 3 ∷ 0 ∷ 5 ∷ 6 ∷ 7 ∷ [];
  label = 0 ∷ 120 ∷ 99 ∷ 98 ∷ 97 ∷ 97 ∷ 98 ∷ 99 ∷ 120 ∷ [];
  token = 0 ∷ 0 ∷ 0 ∷ 0 ∷ 1 ∷ 0 ∷ 0 ∷ 0 ∷ 1 ∷ [];
  first = 1 ∷ 2 ∷ 3 ∷ 4 ∷ 0 ∷ 6 ∷ 7 ∷ 8 ∷ 0 ∷ [];
  next = 0 ∷ 5 ∷ 0 ∷ 0 ∷ 0 ∷ 0 ∷ 0 ∷ 0 ∷ 0 ∷ [];
  shift = 1 ∷ replicate 8 3;
}
unfolding built
turned_built = refl

-- Shifts of nodes. "abbbba": at 5 its "a" lies on the other, so also under every longer ending. "baab" and "ab": S, but for the root. "abcabc",
-- which has a period. "abcde" and "bcd", which stands within it: "d", "cd" and "bcd" are met by "abcd". "axbbx": "x" is met by "ax", and
-- nothing longer is. "bbabb" and "aab": "bbab" meets "ab" at 1, but does not end there, so that "aab" has 3.
shifts_right :
    map (λ ts. (built ts).shift)
    (((97 ∷ 98 ∷ 98 ∷ 98 ∷ 98 ∷ 97 ∷ []) ∷ [])
    ∷ ((98 ∷ 97 ∷ 97 ∷ 98 ∷ []) ∷ (97 ∷ 98 ∷ []) ∷ [])
    ∷ ((97 ∷ 98 ∷ 99 ∷ 97 ∷ 98 ∷ 99 ∷ []) ∷ [])
    ∷ ((97 ∷ 98 ∷ 99 ∷ 100 ∷ 101 ∷ []) ∷ (98 ∷ 99 ∷ 100 ∷ []) ∷ [])
    ∷ ((97 ∷ 120 ∷ 98 ∷ 98 ∷ 120 ∷ []) ∷ [])
    ∷ ((98 ∷ 98 ∷ 97 ∷ 98 ∷ 98 ∷ []) ∷ (97 ∷ 97 ∷ 98 ∷ []) ∷ [])
    ∷ [])
    ≡ (1 ∷ 5 ∷ 5 ∷ 5 ∷ 5 ∷ 5 ∷ 5 ∷ [])
    ∷ (1 ∷ 2 ∷ 2 ∷ 2 ∷ 2 ∷ [])
    ∷ (1 ∷ 3 ∷ 3 ∷ 3 ∷ 3 ∷ 3 ∷ 3 ∷ [])
    ∷ (1 ∷ 3 ∷ 3 ∷ 3 ∷ 3 ∷ 3 ∷ 1 ∷ 1 ∷ 1 ∷ [])
    ∷ (1 ∷ 3 ∷ 5 ∷ 5 ∷ 5 ∷ 5 ∷ [])
    ∷ (1 ∷ 1 ∷ 3 ∷ 3 ∷ 3 ∷ 3 ∷ 1 ∷ 3 ∷ [])
    ∷ []
unfolding built
shifts_right = refl

-- Children: the root's first and second, one that is not there, and one that the walk does not come to over a single node.
children : child_by four 6 0 98 ∷ child_by four 6 0 97 ∷ child_by four 6 0 99 ∷ child_by four 1 0 97 ∷ [] ≡ some 1 ∷ some 4 ∷ none ∷ none ∷ []
children = refl

-- "b" and "xab": "ab" carries no token
abbrev gapped : Tables
gapped = record {
  parent = 0 ∷ 0 ∷ 1 ∷ 2 ∷ [];
  label = 0 ∷ 98 ∷ 97 ∷ 120 ∷ [];
  token = 0 ∷ 1 ∷ 0 ∷ 2 ∷ [];
  first = 1 ∷ 2 ∷ 3 ∷ 0 ∷ [];
  next = replicate 4 0;
  shift = replicate 4 1;
}

-- The longest token on the way to the root: of "xab" and "b" each itself, of "ab" it is "b", and the root and "a" have none.
carriers : carrier gapped 3 ∷ carrier gapped 1 ∷ carrier gapped 2 ∷ carrier gapped 0 ∷ carrier four 4 ∷ [] ≡ 3 ∷ 1 ∷ 1 ∷ 0 ∷ 0 ∷ []
carriers = refl

-- The hits at end 9 of "xab", the longest first, and of "ab".
hits-climbed : hits_up (of_tables gapped 4 1) 9 3 3 ++ hits_up (of_tables gapped 4 1) 9 2 2 ≡ hit 9 2 ∷ hit 9 1 ∷ hit 9 1 ∷ []
hits-climbed = refl

-- The book of "ba" and "a" asks for four entries and makes three nodes: what follows the last one stays.
abbrev book : List ℕ
book = 2 ∷ 98 ∷ 97 ∷ 1 ∷ 97 ∷ 0 ∷ []

abbrev nines : ℕ → ℕ → Tables
nines n m = record {
  parent = replicate n 9;
  label = replicate n 9;
  token = replicate n 9;
  first = replicate n 9;
  next = replicate n 9;
  shift = replicate m 9;
}

building-fits : build book (nines 4 4) ≡ record {
  answer = accepted (record { nodes = 3; shortest = 1; longest = 2 });
  tables = record {
    parent = 0 ∷ 0 ∷ 1 ∷ 9 ∷ [];
    label = 0 ∷ 97 ∷ 98 ∷ 9 ∷ [];
    token = 0 ∷ 2 ∷ 1 ∷ 9 ∷ [];
    first = 1 ∷ 2 ∷ 0 ∷ 9 ∷ [];
    next = 0 ∷ 0 ∷ 0 ∷ 9 ∷ [];
    shift = 1 ∷ 1 ∷ 1 ∷ 9 ∷ [];
  };
}
unfolding built
building-fits = refl

building-short : build book (nines 3 4) ≡ record { answer = refused 7 4; tables = nines 3 4 }
building-short = refl

-- The sixth table alone is too short.
building-unshifted : build book (nines 4 3) ≡ record { answer = refused 7 4; tables = nines 4 3 }
building-unshifted = refl

-- The book of "abcx" asks for nine entries, as it has two words of four bytes; its own bytes alone would ask for five.
building-turned : build (4 ∷ 97 ∷ 98 ∷ 99 ∷ 120 ∷ 0 ∷ []) (nines 8 9) ≡ record { answer = refused 7 9; tables = nines 8 9 }
building-turned = refl

-- With nine it has a node for each ending of both words; S and D are the token's.
building-both : (build (4 ∷ 97 ∷ 98 ∷ 99 ∷ 120 ∷ 0 ∷ []) (nines 9 9)).answer ≡ accepted (record { nodes = 9; shortest = 4; longest = 4 })
building-both = refl

-- The tables, the number of nodes, and refusal 9's value.
record Damaged : Type 0 where
  tables : Tables
  count : ℕ
  breaks : Option ℕ

-- the four tokens' tables with f done to one list, numbered from 0
changed : ℕ → (List ℕ → List ℕ) → Tables
changed k f =
    let at : ℕ → List ℕ → List ℕ = λ i l. elim (eqb i k) [ true ↦ f l | false ↦ l ] in
    record {
      parent = at 0 four.parent;
      label = at 1 four.label;
      token = at 2 four.token;
      first = at 3 four.first;
      next = at 4 four.next;
      shift = at 5 four.shift;
    }

put : ℕ → ℕ → List ℕ → List ℕ
put v x l = set l v x

row : Tables → ℕ → Option ℕ → Damaged
row t count v = record { tables = t; count = count; breaks = v }

-- a node that no chain leads to
strayed : ℕ → Tables
strayed p = record {
  parent = four.parent ++ (p ∷ []);
  label = four.label ++ (0 ∷ []);
  token = four.token ++ (0 ∷ []);
  first = four.first ++ (0 ∷ []);
  next = four.next ++ (0 ∷ []);
  shift = four.shift ++ (1 ∷ []);
}

samples : List Damaged
unfolding row changed put strayed
samples =
    row four 6 none
    ∷ row four 0 none
    ∷ row four 7 (some 6)
    ∷ row four 5 (some 4)  -- its first child is beyond the count
    ∷ row (changed 0 (take 5)) 6 (some 5)
    ∷ row (changed 1 (take 4)) 6 (some 4)
    ∷ row (changed 2 (take 3)) 6 (some 3)
    ∷ row (changed 3 (take 2)) 6 (some 2)
    ∷ row (changed 4 (take 0)) 6 (some 0)
    ∷ row (changed 5 (take 1)) 6 (some 1)
    ∷ row (changed 0 (put 0 1)) 6 (some 0)  -- the root's entries
    ∷ row (changed 1 (put 0 1)) 6 (some 0)
    ∷ row (changed 2 (put 0 1)) 6 (some 0)
    ∷ row (changed 4 (put 0 1)) 6 (some 0)
    ∷ row (changed 2 (put 1 256)) 6 none  -- token numbers
    ∷ row (changed 2 (put 1 257)) 6 (some 1)
    ∷ row (strayed 5) 7 none  -- parents
    ∷ row (strayed 6) 7 (some 6)
    ∷ row (changed 3 (put 2 2)) 6 (some 2)  -- first children: not greater, with another parent, past the count
    ∷ row (changed 3 (put 2 3)) 6 (some 2)
    ∷ row (changed 3 (put 5 6)) 6 (some 5)
    ∷ row (changed 4 (put 3 2)) 6 (some 3)  -- next siblings, alike
    ∷ row (changed 4 (put 2 4)) 6 (some 2)
    ∷ row (changed 4 (put 5 6)) 6 (some 5)
    ∷ row (changed 5 (put 0 0)) 6 (some 0)  -- shifts, the root's too
    ∷ row (changed 5 (put 0 1024)) 6 none
    ∷ row (changed 5 (put 0 1025)) 6 (some 0)
    ∷ row (changed 5 (put 5 0)) 6 (some 5)
    ∷ row (changed 5 (put 5 1024)) 6 none
    ∷ row (changed 5 (put 5 1025)) 6 (some 5)
    ∷ []

same_node : Option ℕ → Option ℕ → Bool
same_node none none = true
same_node none (some w) = false
same_node (some v) none = false
same_node (some v) (some w) = eqb v w

all_right : List Damaged → Bool
unfolding same_node
all_right [] = true
all_right (d ∷ ds) = same_node (broken d.tables d.count) d.breaks && all_right ds

samples-right : all_right samples ≡ true
unfolding samples row changed put strayed all_right same_node
samples-right = refl

-- The same as answers: the node with the first child beyond the count is refusal 9's value.
refused-nine : tested (broken four 5) ≡ refused 9 4
refused-nine = refl

accepted-tree : tested (broken four 6) ≡ accepted tt
accepted-tree = refl

-- "axbbx" with another shift at the node "x".
abbrev given : ℕ → Tables
given s = record {
  parent = 0 ∷ 0 ∷ 1 ∷ 2 ∷ 3 ∷ 4 ∷ [];
  label = 0 ∷ 120 ∷ 98 ∷ 98 ∷ 120 ∷ 97 ∷ [];
  token = 0 ∷ 0 ∷ 0 ∷ 0 ∷ 0 ∷ 1 ∷ [];
  first = 1 ∷ 2 ∷ 3 ∷ 4 ∷ 5 ∷ 0 ∷ [];
  next = replicate 6 0;
  shift = 1 ∷ s ∷ 5 ∷ 5 ∷ 5 ∷ 5 ∷ [];
}

-- A round that ends at "x": the byte "a" left of it asks for 3, and the entry counts where it is greater, up to S. With no closing byte it
-- counts alone. No word at all asks for S, and takes the entry alone too.
given-followed :
    shift_from (given 1) 6 5 1 (some 97)
    ∷ shift_from (given 4) 6 5 1 (some 97)
    ∷ shift_from (given 9) 6 5 1 (some 97)
    ∷ shift_from (given 2) 6 5 1 none
    ∷ shift_from (given 2) 5 5 1 (some 97)
    ∷ shift_from (given 2) 5 5 1 none
    ∷ []
    ≡ 3 ∷ 4 ∷ 5 ∷ 2 ∷ 5 ∷ 2 ∷ []
given-followed = refl
