-- The tree tables: a node for each different ending of the words, and the six entries of each node.
use Rattle.std.specs.Prelude.{ℕ, ◌+◌, min, ◌≡◌, Bool, true, false, List, [], ◌∷◌, ◌++◌, map, ltb, length}
use Rattle.rules.specs.Lists.{same, any_of, number_where, over}
use Rattle.rules.specs.Words.{all_words, number_of}
use Rattle.rules.specs.Tokens.{body_bytes, shortest_of, longest_of, node_shift}
use Rattle.book.specs.Book.{Verdict, accepted, refused, read_book}

-- Six tables with one entry a node: its parent, its label, the number of the token that has its ending for a word (0: none), its first
-- child and its next sibling (0: none), and rule 5's node shift of its ending.
pub record Tables : Type 0 where
  pub parent : List ℕ
  pub label : List ℕ
  pub token : List ℕ
  pub first : List ℕ
  pub next : List ℕ
  pub shift : List ℕ

-- The endings of a word from its last byte leftwards, the shortest first; the empty one is left out.
abbrev pub endings_of : List ℕ → List (List ℕ)
endings_of [] = []
endings_of (x ∷ t) = endings_of t ++ ((x ∷ t) ∷ [])

-- `us` behind those seen, each where it first occurs
abbrev pub noted : List (List ℕ) → List (List ℕ) → List (List ℕ)
noted seen [] = seen
noted seen (u ∷ us) = noted (elim (any_of (same u) seen) [ true ↦ seen | false ↦ seen ++ (u ∷ []) ]) us

abbrev pub noted_words : List (List ℕ) → List (List ℕ) → List (List ℕ)
noted_words seen [] = seen
noted_words seen (w ∷ ws) = noted_words (noted seen (endings_of w)) ws

-- The nodes, by number: the empty ending (the root), and the others as they first occur, taking the words in their order.
abbrev pub nodes : List (List ℕ) → List (List ℕ)
nodes words = noted_words ([] ∷ []) words

-- the label of the node u, the byte added at the left, and its parent's ending; both are nothing for the root
abbrev pub label_of : List ℕ → ℕ
label_of [] = 0
label_of (x ∷ u) = x

abbrev pub above : List ℕ → List ℕ
above [] = []
above (x ∷ u) = u

-- `w` is a child of `u`
abbrev pub is_child : List ℕ → List ℕ → Bool
is_child u [] = false
is_child u (x ∷ w) = same u w

-- the first child of `u` among the nodes from number i on, or 0
abbrev pub child_from : ℕ → List ℕ → List (List ℕ) → ℕ
child_from i u [] = 0
child_from i u (w ∷ ws) = elim (is_child u w) [ true ↦ i | false ↦ child_from (i + 1) u ws ]

-- the next child of the node's parent among the nodes after it, which have numbers from i on, or 0
abbrev pub sibling_from : ℕ → List ℕ → List (List ℕ) → ℕ
sibling_from i [] ws = 0
sibling_from i (x ∷ u) ws = child_from i u ws

abbrev pub siblings : ℕ → List (List ℕ) → List ℕ
siblings i [] = []
siblings i (u ∷ us) = sibling_from i u us ∷ siblings (i + 1) us

-- The tables of the tokens.
unfoldable pub built : List (List ℕ) → Tables
built tokens =
    let us = nodes (all_words tokens) in
    record {
      parent = map (λ u. number_where (same (above u)) 0 us) us;
      label = map label_of us;
      token = map (number_of tokens) us;
      first = map (λ u. child_from 0 u us) us;
      next = siblings 1 us;
      shift = map (node_shift (all_words tokens) (shortest_of tokens)) us;
    }

-- t's lists are u's, each with anything behind it
pub record Lent (t u : Tables) : Type 0 where
  pub parents : (more : List ℕ) × (t.parent ≡ u.parent ++ more)
  pub labels : (more : List ℕ) × (t.label ≡ u.label ++ more)
  pub tokens : (more : List ℕ) × (t.token ≡ u.token ++ more)
  pub firsts : (more : List ℕ) × (t.first ≡ u.first ++ more)
  pub nexts : (more : List ℕ) × (t.next ≡ u.next ++ more)
  pub shifts : (more : List ℕ) × (t.shift ≡ u.shift ++ more)

-- t's lists with those of u written over their fronts
abbrev pub written : Tables → Tables → Tables
written u t = record {
  parent = over u.parent t.parent;
  label = over u.label t.label;
  token = over u.token t.token;
  first = over u.first t.first;
  next = over u.next t.next;
  shift = over u.shift t.shift;
}

abbrev pub shortest_table : Tables → ℕ
shortest_table t =
    min (length t.parent)
    (min (length t.label) (min (length t.token) (min (length t.first) (min (length t.next) (length t.shift)))))

-- Refusal 7: a table is shorter than 1 + all body bytes.
abbrev pub too_short : Tables → List (List ℕ) → Bool
too_short t tokens = ltb (shortest_table t) (1 + body_bytes tokens)

-- What building gives: the number of nodes, S and D.
pub record Sizes : Type 0 where
  pub nodes : ℕ
  pub shortest : ℕ
  pub longest : ℕ

abbrev pub sizes_of : List (List ℕ) → Sizes
sizes_of tokens = record { nodes = length (nodes (all_words tokens)); shortest = shortest_of tokens; longest = longest_of tokens }

-- What building answers, and what the tables then hold.
pub record Building : Type 0 where
  pub answer : Verdict Sizes
  pub tables : Tables

-- Building from a book into lent tables: 1 to 6, then 7; a refusal leaves the tables as they were.
abbrev pub build : List ℕ → Tables → Building
build book t =
    elim (read_book book) [
      | refused k v ↦ record { answer = refused k v; tables = t }
      | accepted tokens ↦ elim (too_short t tokens) [
        | true ↦ record { answer = refused 7 (1 + body_bytes tokens); tables = t }
        | false ↦ record { answer = accepted (sizes_of tokens); tables = written (built tokens) t }
      ]
    ]
