-- The shift of every node, found for all nodes at once: the words without their last s bytes are walked down the tree, each node that is met
-- is lowered to s, and so is each that lies below the end of a walk that went all the way.
use Rattle.std.specs.Prelude.{ℕ, zero, suc, ◌+◌, ◌-◌, ◌≤◌, ◌<◌, min, ◌≡◌, true, false, List, [], ◌∷◌, reverse, ltb, length, get_or, set}
use Rattle.std.proofs.Math.Option.{Option, some, none}
use Rattle.rules.specs.Tokens.{shortest_of, shortened}
use Rattle.book.specs.Book.{read_book, accepted}
use Rattle.rules.specs.Words.{all_words}
use Rattle.tables.specs.Tables.{Tables, nodes, built, Lent}
use Rattle.tables.specs.Walks.{child_by}
use Rattle.tables.specs.Inserted.{unshifted}
use Rattle.trie.specs.Chain.{Kids}

-- A list with entry v lowered to s.
abbrev pub lowered : List ℕ → ℕ → ℕ → List ℕ
lowered l v s = elim (ltb s (get_or l v 0)) [ true ↦ set l v s | false ↦ l ]

-- Two numbers a node: the least s so far at which it was met, and at which a walk ended there, all its bytes done.
pub record Lows : Type 0 where
  pub met : List ℕ
  pub whole : List ℕ

abbrev pub lows : List ℕ → List ℕ → Lows
lows met whole = record { met = met; whole = whole }

module _ (child : ℕ → ℕ → Option ℕ) where
  -- A walk at s, by the bytes xs down from node v.
  abbrev pub walked_at : ℕ → List ℕ → ℕ → Lows → Lows
  walked_at s [] v l = record { met = l.met; whole = lowered l.whole v s }
  walked_at s (x ∷ xs) v l =
      elim (child v x) [
        | none ↦ l
        | some w ↦ walked_at s xs w (record { met = lowered l.met w s; whole = l.whole })
      ]

  -- The walks of a word at `many` shifts from s on.
  abbrev pub word_walked : List ℕ → ℕ → ℕ → Lows → Lows
  word_walked w s zero l = l
  word_walked w s (suc many) l = word_walked w (s + 1) many (walked_at s (reverse (shortened w s)) 0 l)

  -- The walks of all words at the shifts from 1 below S.
  abbrev pub words_walked : ℕ → List (List ℕ) → Lows → Lows
  words_walked S [] l = l
  words_walked S (w ∷ ws) l = words_walked S ws (word_walked w 1 (S - 1) l)

-- Where a walk ended, the nodes below are lowered too: `many` nodes from v on, each by its parent, which comes before it.
abbrev pub handed_down : List ℕ → ℕ → ℕ → Lows → Lows
handed_down parent zero v l = l
handed_down parent (suc many) v l =
    let low = min (get_or l.whole v 0) (get_or l.whole (get_or parent v 0) 0) in
    handed_down parent many (v + 1) (record { met = lowered l.met v low; whole = set l.whole v low })

-- What walks down the tree need: a child of a node is a node, `kids` are the root's children by label, and both lists have an entry for each
-- node.
pub record Walkable (tree : Tables) (count : ℕ) (kids met whole : List ℕ) : Type 0 where
  pub some-node : 0 < count
  pub below : (v x w : ℕ) → v < count → child_by tree count v x ≡ some w → w < count
  pub heads : Kids tree.label tree.first tree.next count kids
  pub mets : count ≤ length met
  pub wholes : count ≤ length whole

-- The root's child for the last byte of the word w without its last s bytes, 0 for none.
abbrev pub head_at : List ℕ → List ℕ → ℕ → ℕ
head_at kids w s = get_or kids (get_or w (length w - 1 - s) 0) 0

-- From s on, below `end`, r is the first shift with such a child, or the end.
pub record NextMet (kids w : List ℕ) (s end r : ℕ) : Type 0 where
  pub order : s ≤ r
  pub upto : r ≤ end
  pub none_before : (j : ℕ) → s ≤ j → j < r → head_at kids w j ≡ 0
  pub some-here : r < end → head_at kids w r ≡ 0 → ⊥

-- An accepted book, and its S.
pub record Shortest (book : List ℕ) (shortest : ℕ) : Type 0 where
  pub tokens : List (List ℕ)
  pub read : read_book book ≡ accepted tokens
  pub short : shortest ≡ shortest_of tokens

-- The tree of the book's words stands in the tables, but for their tokens' numbers, and there is room for a shift for each of the `count` nodes.
pub record Shiftable (book : List ℕ) (t : Tables) (count shortest : ℕ) : Type 0 where
  pub given : Shortest book shortest
  pub token : List ℕ
  pub tree : Lent (record t { token = token }) (unshifted (built given.tokens))
  pub size : count ≡ length (nodes (all_words given.tokens))
  pub room : count ≤ length t.shift
