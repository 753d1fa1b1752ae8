-- The words of the tokens, which may stand in an image and of which the tree is made: a token's bytes and, for a card number, their reverse.
use Rattle.std.specs.Prelude.{ℕ, Bool, true, false, ◌&&◌, ◌||◌, not, List, [], ◌∷◌, ◌++◌, reverse, eqb, length}
use Rattle.rules.specs.Lists.{same, number_where}

-- Card numbers have 4, 7 or 10 bytes: they may be stored with the low byte first.
abbrev pub is_card : ℕ → Bool
is_card n = eqb n 4 || eqb n 7 || eqb n 10

-- u is a word of t: its bytes in book order or, for a card number, reversed.
abbrev pub is_word : List ℕ → List ℕ → Bool
is_word u t = same u t || (is_card (length u) && same u (reverse t))

-- The number of the token that u is a word of, from 1; 0 where there is none.
abbrev pub number_of : List (List ℕ) → List ℕ → ℕ
number_of tokens u = number_where (is_word u) 1 tokens

-- The reverse of t is a second word: t is a card number that does not read the same backwards.
abbrev pub has_reverse : List ℕ → Bool
has_reverse t = is_card (length t) && not (same t (reverse t))

-- The words of a token: its bytes, and then their reverse if that is a second word.
abbrev pub words_of : List ℕ → List (List ℕ)
words_of t = elim (has_reverse t) [ true ↦ t ∷ reverse t ∷ [] | false ↦ t ∷ [] ]

-- All words, taking the tokens in book order.
abbrev pub all_words : List (List ℕ) → List (List ℕ)
all_words [] = []
all_words (t ∷ ts) = words_of t ++ all_words ts
