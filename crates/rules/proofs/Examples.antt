-- Sample sweeps by the rules over tokens, as one table: P1 to P5 of document 01, three that pin rule 4 and the byte taken from a stretch,
-- and four of card numbers. Each row says the hits, the places fetched, those taken from stretches, and the limit on fetches; and each
-- sweep ends with done. Then all events of one more, what looks are, rule 5's test and shifts, and the words of tokens. And what an option of
-- the code says.
use Rattle.std.specs.Prelude.{ℕ, ◌≡◌, refl, Bool, true, false, ◌&&◌, List, [], ◌∷◌, map, eqb, length, replicate}
use Rattle.std.proofs.Math.Option.{some, none}
use Rattle.std.specs.Prelude.{Some, None}
use Rattle.rules.specs.Lists.{same}
use Rattle.rules.specs.Options.{option_of}
use Rattle.rules.specs.Rules.{Event, fetched, recalled, hit, shifted, done, trace}
use Rattle.rules.specs.Words.{is_card, is_word, number_of, all_words}
use Rattle.rules.specs.Tokens.{body_bytes, longest_of, mismatch, node_shift, byte_shift}
use Rattle.rules.specs.Sweep.{happens, bytes_of, places, recalls, looks, hits, limit}

pub record Sample : Type 0 where
  pub tokens : List (List ℕ)
  pub image : List ℕ
  pub found : List (ℕ × ℕ)
  pub fetches : List ℕ
  pub spares : List ℕ
  pub most : ℕ

-- letters
abbrev pub a : ℕ
a = 97

abbrev pub b : ℕ
b = 98

abbrev pub c : ℕ
c = 99

abbrev pub x : ℕ
x = 120

abbrev pub p1 : Sample
p1 = record {
  tokens = (a ∷ x ∷ b ∷ b ∷ x ∷ []) ∷ [];
  image = c ∷ c ∷ c ∷ a ∷ x ∷ b ∷ b ∷ x ∷ [];
  found = (8, 1) ∷ [];
  fetches = 4 ∷ 3 ∷ 7 ∷ 6 ∷ 5 ∷ 4 ∷ 3 ∷ [];
  spares = [];
  most = 82;
}

abbrev pub p2 : Sample
p2 = record {
  tokens = (b ∷ []) ∷ (b ∷ a ∷ a ∷ a ∷ a ∷ []) ∷ [];
  image = replicate 8 a;
  found = [];
  fetches = 0 ∷ 1 ∷ 0 ∷ 2 ∷ 1 ∷ 0 ∷ 3 ∷ 2 ∷ 1 ∷ 0 ∷ 4 ∷ 5 ∷ 4 ∷ 3 ∷ 2 ∷ 1 ∷ 6 ∷ 7 ∷ 6 ∷ 5 ∷ 4 ∷ 3 ∷ [];
  spares = 3 ∷ 2 ∷ 1 ∷ 0 ∷ 5 ∷ 4 ∷ 3 ∷ 2 ∷ [];
  most = 82;
}

abbrev pub p3 : Sample
p3 = record {
  tokens = (a ∷ []) ∷ (a ∷ a ∷ []) ∷ [];
  image = replicate 3 a;
  found = (1, 1) ∷ (2, 2) ∷ (2, 1) ∷ (3, 2) ∷ (3, 1) ∷ [];
  fetches = 0 ∷ 1 ∷ 0 ∷ 2 ∷ 1 ∷ [];
  spares = [];
  most = 17;
}

abbrev pub p4 : Sample
p4 = record { tokens = p1.tokens; image = []; found = []; fetches = []; spares = []; most = 10 }

abbrev pub p5 : Sample
p5 = record { tokens = p1.tokens; image = a ∷ x ∷ b ∷ b ∷ []; found = []; fetches = []; spares = []; most = 46 }

-- A stretch that begins where the matched part begins is wholly inside it.
abbrev pub inside : Sample
inside = record {
  tokens = (a ∷ a ∷ a ∷ a ∷ a ∷ []) ∷ (a ∷ a ∷ []) ∷ [];
  image = replicate 6 a;
  found = (2, 2) ∷ (3, 2) ∷ (4, 2) ∷ (5, 1) ∷ (5, 2) ∷ (6, 1) ∷ (6, 2) ∷ [];
  fetches = 1 ∷ 0 ∷ 2 ∷ 1 ∷ 0 ∷ 3 ∷ 2 ∷ 1 ∷ 0 ∷ 4 ∷ 5 ∷ [];
  spares = 3 ∷ 2 ∷ 1 ∷ 0 ∷ 4 ∷ 3 ∷ 2 ∷ 1 ∷ [];
  most = 64;
}

-- The byte taken from a stretch is that of the place, not the one left of it,
abbrev pub recalled_left : Sample
recalled_left = record {
  tokens = (b ∷ a ∷ a ∷ b ∷ []) ∷ (a ∷ b ∷ []) ∷ (a ∷ []) ∷ [];
  image = b ∷ b ∷ a ∷ a ∷ b ∷ b ∷ a ∷ a ∷ a ∷ [];
  found = (3, 3) ∷ (4, 3) ∷ (5, 1) ∷ (5, 2) ∷ (7, 3) ∷ (8, 3) ∷ (9, 3) ∷ [];
  fetches = 0 ∷ 1 ∷ 0 ∷ 2 ∷ 3 ∷ 4 ∷ 3 ∷ 2 ∷ 1 ∷ 5 ∷ 6 ∷ 7 ∷ 8 ∷ [];
  spares = 4 ∷ [];
  most = 89;
}

-- nor the one right of it.
abbrev pub recalled_right : Sample
recalled_right = record {
  tokens = (b ∷ a ∷ b ∷ a ∷ []) ∷ (b ∷ a ∷ b ∷ a ∷ b ∷ []) ∷ [];
  image = b ∷ b ∷ a ∷ b ∷ a ∷ b ∷ a ∷ a ∷ [];
  found = (5, 1) ∷ (6, 2) ∷ (6, 1) ∷ (7, 1) ∷ [];
  fetches = 3 ∷ 2 ∷ 1 ∷ 0 ∷ 4 ∷ 3 ∷ 2 ∷ 1 ∷ 5 ∷ 6 ∷ 7 ∷ 6 ∷ [];
  spares = 4 ∷ 3 ∷ 2 ∷ 1 ∷ 5 ∷ 4 ∷ 3 ∷ [];
  most = 82;
}

-- A card number stands there in both orders, its reverse as an ending of the other token too.
abbrev pub turned : Sample
turned = record {
  tokens = (b ∷ x ∷ c ∷ b ∷ a ∷ []) ∷ (a ∷ b ∷ c ∷ x ∷ []) ∷ [];
  image = a ∷ b ∷ x ∷ c ∷ b ∷ a ∷ b ∷ c ∷ x ∷ a ∷ x ∷ c ∷ b ∷ a ∷ [];
  found = (6, 1) ∷ (6, 2) ∷ (9, 2) ∷ (14, 2) ∷ [];
  fetches = 3 ∷ 4 ∷ 5 ∷ 4 ∷ 3 ∷ 2 ∷ 1 ∷ 8 ∷ 7 ∷ 6 ∷ 5 ∷ 11 ∷ 12 ∷ 13 ∷ 12 ∷ 11 ∷ 10 ∷ 9 ∷ [];
  spares = [];
  most = 136;
}

-- One that reads the same backwards gives one hit an end.
abbrev pub palindrome : Sample
palindrome = record {
  tokens = (a ∷ b ∷ c ∷ x ∷ c ∷ b ∷ a ∷ []) ∷ [];
  image = a ∷ b ∷ c ∷ x ∷ c ∷ b ∷ a ∷ b ∷ c ∷ x ∷ c ∷ b ∷ a ∷ [];
  found = (7, 1) ∷ (13, 1) ∷ [];
  fetches = 6 ∷ 5 ∷ 4 ∷ 3 ∷ 2 ∷ 1 ∷ 0 ∷ 12 ∷ 11 ∷ 10 ∷ 9 ∷ 8 ∷ 7 ∷ 6 ∷ [];
  spares = [];
  most = 131;
}

-- Rule 5's node shift takes the reverse of ten bytes for a word; five bytes have none.
abbrev pub ten : Sample
ten = record {
  tokens = (a ∷ a ∷ b ∷ b ∷ c ∷ c ∷ a ∷ b ∷ c ∷ x ∷ []) ∷ (a ∷ b ∷ b ∷ b ∷ x ∷ []) ∷ [];
  image = x ∷ b ∷ b ∷ b ∷ a ∷ x ∷ c ∷ b ∷ a ∷ c ∷ c ∷ b ∷ b ∷ a ∷ a ∷ [];
  found = (15, 1) ∷ [];
  fetches = 4 ∷ 3 ∷ 5 ∷ 4 ∷ 10 ∷ 11 ∷ 12 ∷ 13 ∷ 12 ∷ 14 ∷ 13 ∷ 12 ∷ 11 ∷ 10 ∷ 9 ∷ 8 ∷ 7 ∷ 6 ∷ 5 ∷ [];
  spares = [];
  most = 155;
}

-- Its byte shift takes that of four for one.
abbrev pub four : Sample
four = record {
  tokens = (x ∷ a ∷ b ∷ c ∷ []) ∷ [];
  image = c ∷ c ∷ b ∷ a ∷ x ∷ [];
  found = (5, 1) ∷ [];
  fetches = 3 ∷ 4 ∷ 3 ∷ 2 ∷ 1 ∷ [];
  spares = [];
  most = 53;
}

-- the same hits in the same order
abbrev pub same_pairs : List (ℕ × ℕ) → List (ℕ × ℕ) → Bool
same_pairs [] [] = true
same_pairs [] (q ∷ qs) = false
same_pairs (p ∷ ps) [] = false
same_pairs (p ∷ ps) (q ∷ qs) = eqb p.0 q.0 && eqb p.1 q.1 && same_pairs ps qs

-- The sweep ends with done, which comes nowhere before.
abbrev pub ends_done : {E : Type 0} → List (Event E) → Bool
ends_done [] = false
ends_done (fetched p ∷ es) = ends_done es
ends_done (recalled p ∷ es) = ends_done es
ends_done (hit e i ∷ es) = ends_done es
ends_done (shifted b ss ∷ es) = ends_done es
ends_done (done ∷ []) = true
ends_done (done ∷ e ∷ es) = false

-- What the rules make of the tokens and the image is what the row says.
abbrev pub right : Sample → Bool
right s =
    let es = happens s.tokens (length s.image) (bytes_of s.image) in
    same_pairs (hits es) s.found && same (places es) s.fetches && same (recalls es) s.spares && ends_done es
    && eqb (limit (length s.image) (longest_of s.tokens)) s.most

all_right : List Sample → Bool
all_right [] = true
all_right (s ∷ ss) = right s && all_right ss

samples-right : all_right (p1 ∷ p2 ∷ p3 ∷ p4 ∷ p5 ∷ inside ∷ recalled_left ∷ recalled_right ∷ turned ∷ palindrome ∷ ten ∷ four ∷ []) ≡ true
unfolding all_right happens trace
samples-right = refl

-- All that happens in the image "aa" with the tokens "a" and "aa": the hits of a round come when it ends, before its shift.
events-right : happens ((a ∷ []) ∷ (a ∷ a ∷ []) ∷ []) 2 (bytes_of (a ∷ a ∷ []))
    ≡ fetched 0 ∷ hit 1 1 ∷ shifted 2 [] ∷ fetched 1 ∷ fetched 0 ∷ hit 2 2 ∷ hit 2 1 ∷ shifted 3 [] ∷ done ∷ []
unfolding happens trace
events-right = refl

-- A place counts as looked at each time, whether its byte is fetched or taken from a stretch.
looks-right : looks {E = ℕ} (fetched 4 ∷ fetched 3 ∷ hit 5 1 ∷ shifted 6 [] ∷ fetched 5 ∷ recalled 4 ∷ recalled 3 ∷ done ∷ []) ≡ 4 ∷ 3 ∷ 5 ∷ 4 ∷ 3 ∷ []
looks-right = refl

-- The test of "axbbx": not moved, it differs from "ccbbx" at the c that stands farther right; moved by 3 it fits "cax", over two bytes of which
-- it lies, and differs from "cxx" at the second; moved by 1 its b is over the x; moved by 5 it lies over nothing; and
-- where no byte is known it fits.
tests-right : (let t = a ∷ x ∷ b ∷ b ∷ x ∷ [] in
    mismatch (c ∷ c ∷ b ∷ b ∷ x ∷ []) t 0 ∷ mismatch (c ∷ a ∷ x ∷ []) t 3 ∷ mismatch (c ∷ x ∷ x ∷ []) t 3 ∷ mismatch (b ∷ x ∷ []) t 1
    ∷ mismatch (c ∷ x ∷ []) t 5 ∷ mismatch [] t 0 ∷ [])
    ≡ some 3 ∷ none ∷ some 1 ∷ some 0 ∷ none ∷ none ∷ []
tests-right = refl

-- Moved by 2 it differs from "ccb" at each c, and the one that stands farther right is answered.
moved-right : mismatch (c ∷ c ∷ b ∷ []) (a ∷ x ∷ b ∷ b ∷ x ∷ []) 2 ≡ some 1
moved-right = refl

-- Both shifts of "axbbx", cut at 5: after "x" and after "bx"; by the closing byte "a" at the boundary and one byte left of it; and with none.
shifts_right : (let ts = (a ∷ x ∷ b ∷ b ∷ x ∷ []) ∷ [] in
    node_shift ts 5 (x ∷ []) ∷ node_shift ts 5 (b ∷ x ∷ []) ∷ byte_shift ts 5 0 (some a) ∷ byte_shift ts 5 1 (some a) ∷ byte_shift ts 5 1 none ∷ [])
    ≡ 3 ∷ 5 ∷ 4 ∷ 3 ∷ 1 ∷ []
shifts_right = refl

-- Words: of card numbers both orders, each after its token's own; of one that reads the same backwards, and of other lengths, the bytes alone.
words_right : all_words ((a ∷ b ∷ b ∷ x ∷ []) ∷ (a ∷ b ∷ c ∷ x ∷ c ∷ b ∷ a ∷ []) ∷ (a ∷ a ∷ a ∷ a ∷ b ∷ []) ∷ [])
    ≡ (a ∷ b ∷ b ∷ x ∷ []) ∷ (x ∷ b ∷ b ∷ a ∷ []) ∷ (a ∷ b ∷ c ∷ x ∷ c ∷ b ∷ a ∷ []) ∷ (a ∷ a ∷ a ∷ a ∷ b ∷ []) ∷ []
words_right = refl

-- Which bytes are words of a token: its own, and its reverse at 4, 7 and 10 bytes alone.
are_words : is_word (a ∷ b ∷ []) (a ∷ b ∷ []) ∷ is_word (b ∷ a ∷ []) (a ∷ b ∷ []) ∷ is_word (x ∷ b ∷ b ∷ a ∷ []) (a ∷ b ∷ b ∷ x ∷ [])
    ∷ is_word (x ∷ b ∷ b ∷ b ∷ a ∷ []) (a ∷ b ∷ b ∷ b ∷ x ∷ []) ∷ is_word (b ∷ b ∷ x ∷ a ∷ []) (a ∷ b ∷ b ∷ x ∷ []) ∷ []
    ≡ true ∷ false ∷ true ∷ false ∷ false ∷ []
are_words = refl

-- The lengths of card numbers, among those from 1 to 12.
cards-right : map is_card (1 ∷ 2 ∷ 3 ∷ 4 ∷ 5 ∷ 6 ∷ 7 ∷ 8 ∷ 9 ∷ 10 ∷ 11 ∷ 12 ∷ [])
    ≡ false ∷ false ∷ false ∷ true ∷ false ∷ false ∷ true ∷ false ∷ false ∷ true ∷ false ∷ false ∷ []
cards-right = refl

-- Their bytes count twice, those of one that reads the same backwards once.
bodies_right : body_bytes ((a ∷ b ∷ b ∷ x ∷ []) ∷ (a ∷ b ∷ c ∷ x ∷ c ∷ b ∷ a ∷ []) ∷ (a ∷ a ∷ a ∷ a ∷ b ∷ []) ∷ []) ≡ 20
bodies_right = refl

-- The number of the token that the bytes are a word of: in either order it is the same.
numbers-right : map (number_of ((a ∷ b ∷ b ∷ x ∷ []) ∷ (a ∷ []) ∷ []))
    ((a ∷ b ∷ b ∷ x ∷ []) ∷ (x ∷ b ∷ b ∷ a ∷ []) ∷ (a ∷ []) ∷ (b ∷ x ∷ []) ∷ []) ≡ 1 ∷ 1 ∷ 2 ∷ 0 ∷ []
numbers-right = refl

-- Each case of an option of the code.
options-told : option_of None ∷ option_of (Some 9) ∷ [] ≡ none ∷ some 9 ∷ []
options-told = refl
