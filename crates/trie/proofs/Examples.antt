-- Samples of the walk along a chain: nodes 1, 3 and 2 with the labels "a", "b" and "c"; of the walks that find the shifts of nodes; and of
-- the numbers of refusals.
use Rattle.std.specs.Prelude.{ℕ, ◌≡◌, refl, [], ◌∷◌, Result, Ok, Err, replicate}
use Rattle.tables.specs.Tables.{Tables}
use Rattle.tables.specs.Walks.{child_by}
use Rattle.book.specs.declared.Refusal.TheVariants.{Repeat}
use Rattle.book.specs.Book.{refused}
use Rattle.trie.specs.declared.Refusal.TheVariants.{Unread, TooShort}
use Rattle.trie.specs.Answers.{tree_only, tested_of, answer_of}
use Rattle.trie.specs.Chain.{walked, number_of}
use Rattle.trie.specs.Filling.{Lows, lows, lowered, words_walked, handed_down}
use Rattle.rules.specs.Tokens.{shortened}

abbrev walk : ℕ → ℕ → ℕ → Result ℕ ℕ
walk count head x = walked (0 ∷ 97 ∷ 99 ∷ 98 ∷ []) (0 ∷ 3 ∷ 0 ∷ 2 ∷ []) x count 0 head

-- the chain's last node, a label that is not there, and the walk's end after two nodes; an empty chain
walks-right : walk 4 1 99 ∷ walk 4 1 100 ∷ walk 2 1 99 ∷ walk 4 0 97 ∷ [] ≡ Ok 2 ∷ Err 2 ∷ Err 3 ∷ Err 0 ∷ []
walks-right = refl

-- "bbabb" and "aab": the nodes are "", "b", "bb", "abb", "babb", "bbabb", "ab" and "aab"
abbrev two : Tables
two = tree_only (0 ∷ 0 ∷ 1 ∷ 2 ∷ 3 ∷ 4 ∷ 1 ∷ 6 ∷ []) (0 ∷ 98 ∷ 98 ∷ 97 ∷ 98 ∷ 98 ∷ 97 ∷ 97 ∷ []) [] (1 ∷ 2 ∷ 3 ∷ 4 ∷ 5 ∷ 0 ∷ 7 ∷ 0 ∷ []) (0 ∷ 0 ∷ 6 ∷ 0 ∷ 0 ∷ 0 ∷ 0 ∷ 0 ∷ [])

-- The root's child "b" by its label, and none for "a".
kids-right : number_of (child_by two 8 0 98) ∷ number_of (child_by two 8 0 97) ∷ [] ≡ 1 ∷ 0 ∷ []
kids-right = refl

-- "abc" without its last byte, and without more than it has.
shortened-right : shortened (97 ∷ 98 ∷ 99 ∷ []) 1 ∷ shortened (97 ∷ 98 ∷ 99 ∷ []) 4 ∷ [] ≡ (97 ∷ 98 ∷ []) ∷ [] ∷ []
shortened-right = refl

-- An entry is lowered, and one that is lower stays.
lowered-right : lowered (4 ∷ 2 ∷ []) 0 3 ∷ lowered (4 ∷ 2 ∷ []) 1 3 ∷ [] ≡ (3 ∷ 2 ∷ []) ∷ (4 ∷ 2 ∷ []) ∷ []
lowered-right = refl

-- "abbbba", a node after the other
abbrev one : Tables
one = tree_only (0 ∷ 0 ∷ 1 ∷ 2 ∷ 3 ∷ 4 ∷ 5 ∷ []) (0 ∷ 97 ∷ 98 ∷ 98 ∷ 98 ∷ 98 ∷ 97 ∷ []) [] (1 ∷ 2 ∷ 3 ∷ 4 ∷ 5 ∷ 6 ∷ 0 ∷ []) (replicate 7 0)

-- its entries after all walks: at 5 its "a" meets the node "a", and ends there
abbrev walked_one : Lows
walked_one = lows (1 ∷ 5 ∷ replicate 5 6) (6 ∷ 5 ∷ replicate 5 6)

-- and those of the two: "bbab" meets "b" and "ab" at 1, and goes no further
abbrev walked_two : Lows
walked_two = lows (1 ∷ 1 ∷ 3 ∷ 3 ∷ 3 ∷ 3 ∷ 1 ∷ 3 ∷ []) (replicate 8 3)

walked-right :
    words_walked (child_by one 7) 6 ((97 ∷ 98 ∷ 98 ∷ 98 ∷ 98 ∷ 97 ∷ []) ∷ []) (lows (1 ∷ replicate 6 6) (replicate 7 6))
    ∷ words_walked (child_by two 8) 3 ((98 ∷ 98 ∷ 97 ∷ 98 ∷ 98 ∷ []) ∷ (97 ∷ 97 ∷ 98 ∷ []) ∷ []) (lows (1 ∷ replicate 7 3) (replicate 8 3))
    ∷ []
    ≡ walked_one ∷ walked_two ∷ []
walked-right = refl

-- All that lies below "a" is lowered with it; "aab", below "ab", is not.
handed-right : handed_down one.parent 6 1 walked_one ∷ handed_down two.parent 7 1 walked_two ∷ [] ≡ lows (1 ∷ replicate 6 5) (6 ∷ replicate 6 5) ∷ walked_two ∷ []
handed-right = refl

-- What breaks is 9; building has the book's refusals and 7.
nine-told : tested_of (Err (record { node = 5 })) ≡ refused 9 5
nine-told = refl

building-told : answer_of (Err (Unread (Repeat 5))) ∷ answer_of (Err (TooShort 5)) ∷ [] ≡ refused 4 5 ∷ refused 7 5 ∷ []
building-told = refl
