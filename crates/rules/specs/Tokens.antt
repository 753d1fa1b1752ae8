-- The rules' tree straight from the words of the tokens: a node is an ending, as its bytes from left to right. No table stands here.
use Rattle.std.specs.Prelude.{ℕ, ◌+◌, ◌-◌, min, max, Bool, true, false, ◌&&◌, ◌||◌, not, List, [], ◌∷◌, leb, ltb, eqb, length, get_or, drop, take}
use Rattle.std.proofs.Math.Option.{Option, some, none}
use Rattle.rules.specs.Lists.{any_of, first_below, is_none, least, same}
use Rattle.rules.specs.Words.{all_words, number_of}
use Rattle.rules.specs.Rules.{Tree}

-- how many bytes they have together
abbrev pub total : List (List ℕ) → ℕ
total [] = 0
total (t ∷ ts) = length t + total ts

-- All body bytes: those of all words.
abbrev pub body_bytes : List (List ℕ) → ℕ
body_bytes tokens = total (all_words tokens)

-- S, the shortest length
abbrev pub shortest_of : List (List ℕ) → ℕ
shortest_of [] = 0
shortest_of (t ∷ []) = length t
shortest_of (t ∷ u ∷ ts) = min (length t) (shortest_of (u ∷ ts))

-- D, the longest length
abbrev pub longest_of : List (List ℕ) → ℕ
longest_of [] = 0
longest_of (t ∷ ts) = max (length t) (longest_of ts)

-- `u` is an ending of `t`
abbrev pub ends : List ℕ → List ℕ → Bool
ends u t = leb (length u) (length t) && same u (drop (length t - length u) t)

-- the byte of `t` with k others to its right
abbrev pub from_right : List ℕ → ℕ → ℕ
from_right t k = get_or t (length t - 1 - k) 0

-- Rule 5: the word t, moved s to the right, has x where k bytes stand between that place and the old boundary, or does not
-- reach so far.
abbrev pub agrees : List ℕ → ℕ → ℕ → ℕ → Bool
agrees t s k x = leb (length t) (k + s) || eqb (from_right t (k + s)) x

-- Rule 5: the test of the word t, moved s to the right, against the known bytes u, which end at the old boundary. It answers the mismatch
-- (document 02: disagreeing place) that lies farthest right, as the number of known bytes right of it, or none: the word fits.
abbrev pub mismatch : List ℕ → List ℕ → ℕ → Option ℕ
mismatch u t s = first_below (length u) (λ k. not (agrees t s k (from_right u k)))

-- Rule 5: the word fits, as there is no mismatch.
abbrev pub fits : List ℕ → List ℕ → ℕ → Bool
fits u t s = is_none (mismatch u t s)

module _ (words : List (List ℕ)) where
  -- Rule 5: the good-suffix shift (document 01: node shift), cut at S: the smallest s ≥ 1 at which a word fits the matched bytes u.
  abbrev pub node_shift : ℕ → List ℕ → ℕ
  node_shift shortest u = least (λ s. any_of (λ t. fits u t s) words) 1 (shortest - 1)

  -- Rule 5: the bad-character shift (document 01: byte shift), cut at S: the same for the closing byte alone. d matched bytes lie between
  -- it and the boundary, so a word that ends s right of the boundary ends d + s right of it.
  abbrev pub byte_shift : ℕ → ℕ → Option ℕ → ℕ
  byte_shift shortest d none = 1
  byte_shift shortest d (some x) = least (λ s. any_of (λ t. fits (x ∷ []) t (d + s)) words) 1 (shortest - 1)

  -- Rule 5: the greater of the two.
  abbrev pub shift_of : ℕ → List ℕ → Option ℕ → ℕ
  shift_of shortest u closing = max (node_shift shortest u) (byte_shift shortest (length u) closing)

  -- the ending with one byte more, if a word has it
  abbrev pub grown : List ℕ → ℕ → Option (List ℕ)
  grown u x = elim (any_of (ends (x ∷ u)) words) [ true ↦ some (x ∷ u) | false ↦ none ]

  -- The tree, where `number` gives the number of a word's token, and 0 for an ending that is no word.
  abbrev pub of_words : (List ℕ → ℕ) → ℕ → Tree (List ℕ)
  of_words number shortest = record {
    root = [];
    child = grown;
    leaf = λ u. not (any_of (λ t. ltb (length u) (length t) && ends u t) words);
    token = number;
    byte_at = from_right;
    ancestor = λ u k. drop (length u - k) u;
    shift = shift_of shortest;
  }

-- The tree of all words of the tokens.
abbrev pub of_tokens : List (List ℕ) → ℕ → Tree (List ℕ)
of_tokens tokens = of_words (all_words tokens) (number_of tokens)

-- A word without its last s bytes.
abbrev pub shortened : List ℕ → ℕ → List ℕ
shortened w s = take (length w - s) w
