-- How tables grow by one word: its bytes from the last leftwards, a new node behind its parent's other children for each byte
-- that has none yet. Shifts come when all words are in.
use Rattle.std.specs.Prelude.{ℕ, zero, suc, ◌+◌, true, false, List, [], ◌∷◌, ◌++◌, reverse, eqb, length, get_or, set}
use Rattle.std.proofs.Math.Option.{some, none}
use Rattle.rules.specs.Words.{words_of}
use Rattle.tables.specs.Tables.{Tables}
use Rattle.tables.specs.Walks.{child_by}

-- The last of a chain.
abbrev pub last_of : Tables → ℕ → ℕ → ℕ
last_of t zero at = at
last_of t (suc fuel) at = elim (eqb (get_or t.next at 0) 0) [ true ↦ at | false ↦ last_of t fuel (get_or t.next at 0) ]

pub record Grown : Type 0 where
  pub tables : Tables
  pub node : ℕ

-- A new child of v with label x, last in v's chain. Its number is the number of nodes so far.
abbrev pub with_child : Tables → ℕ → ℕ → Grown
with_child t v x =
    let new = length t.parent in
    let head = get_or t.first v 0 in
    let first : List ℕ = elim (eqb head 0) [ true ↦ set t.first v new | false ↦ t.first ] in
    let next : List ℕ = elim (eqb head 0) [ true ↦ t.next | false ↦ set t.next (last_of t new head) new ] in
    record {
      tables = record {
        parent = t.parent ++ (v ∷ []);
        label = t.label ++ (x ∷ []);
        token = t.token ++ (0 ∷ []);
        first = first ++ (0 ∷ []);
        next = next ++ (0 ∷ []);
        shift = t.shift;
      };
      node = new;
    }

-- The bytes of a word from its last leftwards, from node v on.
abbrev pub inserted : Tables → ℕ → List ℕ → Grown
inserted t v [] = record { tables = t; node = v }
inserted t v (x ∷ xs) =
    elim (child_by t (length t.parent) v x) [
      | some w ↦ inserted t w xs
      | none ↦ (let g = with_child t v x in inserted g.tables g.node xs)
    ]

-- A word, whose token has the number i.
abbrev pub with_word : Tables → ℕ → List ℕ → Tables
with_word t i word =
    let g = inserted t 0 (reverse word) in
    let u = g.tables in
    record { parent = u.parent; label = u.label; token = set u.token g.node i; first = u.first; next = u.next; shift = u.shift }

-- Words, each with the number that it is given, and the words of one token.
abbrev pub inserted_words : Tables → (List ℕ → ℕ) → List (List ℕ) → Tables
inserted_words t number [] = t
inserted_words t number (w ∷ ws) = inserted_words (with_word t (number w) w) number ws

abbrev pub with_words : Tables → ℕ → List (List ℕ) → Tables
with_words t i words = inserted_words t (λ _. i) words

-- tables without shifts
abbrev pub unshifted : Tables → Tables
unshifted t = record { parent = t.parent; label = t.label; token = t.token; first = t.first; next = t.next; shift = [] }

abbrev pub root_only : Tables
root_only = record { parent = 0 ∷ []; label = 0 ∷ []; token = 0 ∷ []; first = 0 ∷ []; next = 0 ∷ []; shift = [] }

-- Tokens from number i on, the words of each with its number.
abbrev pub built_from : Tables → ℕ → List (List ℕ) → Tables
built_from t i [] = t
built_from t i (body ∷ rest) = built_from (with_words t i (words_of body)) (i + 1) rest

abbrev pub inserted_all : List (List ℕ) → Tables
inserted_all tokens = built_from root_only 1 tokens
