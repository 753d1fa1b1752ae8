-- Tables with `count` nodes stand for exactly the endings of the tokens' words.
use Rattle.std.specs.Prelude.{ℕ, ◌+◌, ◌-◌, ◌≤◌, ◌<◌, ◌≡◌, Bool, true, ◌&&◌, not, List, [], ◌∷◌, ltb, eqb, length, get_or, drop}
use Rattle.std.proofs.Math.Option.{Option, some, none}
use Rattle.rules.specs.Lists.{any_of}
use Rattle.rules.specs.Words.{all_words, number_of}
use Rattle.rules.specs.Tokens.{ends, from_right, grown, node_shift, shift_of, body_bytes, shortest_of, longest_of}
use Rattle.tables.specs.Tables.{Tables, shortest_table}
use Rattle.tables.specs.Walks.{ending, child_by, depth, words, shift_from, of_tables}
use Rattle.tables.specs.Broken.{broken}

-- a node stands for an ending, or both are missing
abbrev pub Stand : Tables → ℕ → Option ℕ → Option (List ℕ) → Type 0
Stand t n none none = Unit {0}
Stand t n none (some u) = ⊥
Stand t n (some w) none = ⊥
Stand t n (some w) (some u) = (w < n) × (ending t w ≡ u)

pub record Represents (t : Tables) (count : ℕ) (tokens : List (List ℕ)) : Type 0 where
  pub some-node : 1 ≤ count
  pub few : count ≤ 1 + body_bytes tokens
  pub held : count ≤ shortest_table t
  -- refusal 9 does not come
  pub fine : broken t count ≡ none
  -- the nodes' endings: the root's is empty, each other is its label before its parent's, and an ending of some word
  pub root : ending t 0 ≡ []
  pub root-up : get_or t.parent 0 0 ≡ 0
  pub up : (v : ℕ) → 0 < v → v < count → get_or t.parent v 0 < v
  pub step : (v : ℕ) → 0 < v → v < count → ending t v ≡ get_or t.label v 0 ∷ ending t (get_or t.parent v 0)
  pub real : (v : ℕ) → 0 < v → v < count → any_of (ends (ending t v)) (all_words tokens) ≡ true
  pub deep : (v : ℕ) → v < count → depth t v ≤ longest_of tokens
  -- each ending of a word is that of one node
  pub stands : (u : List ℕ) → any_of (ends u) (all_words tokens) ≡ true → (w : ℕ) × (w < count) × (ending t w ≡ u)
  pub apart : (v w : ℕ) → v < count → w < count → ending t v ≡ ending t w → v ≡ w
  -- the rules' tree, by tables and by words
  pub child : (v x : ℕ) → v < count → Stand t count (child_by t count v x) (grown (all_words tokens) (ending t v) x)
  pub leaf : (v : ℕ) → v < count
      → eqb (get_or t.first v 0) 0 ≡ not (any_of (λ u. ltb (length (ending t v)) (length u) && ends (ending t v) u) (all_words tokens))
  pub token : (v : ℕ) → v < count → get_or t.token v 0 ≡ number_of tokens (ending t v)
  pub words-pass : (p : List ℕ → Bool) → any_of p (words t count) ≡ any_of p (all_words tokens)
  pub node-shift : (v : ℕ) → v < count → get_or t.shift v 0 ≡ node_shift (all_words tokens) (shortest_of tokens) (ending t v)
  pub shift : (v : ℕ) (closing : Option ℕ) → v < count
      → shift_from t count (shortest_of tokens) v closing ≡ shift_of (all_words tokens) (shortest_of tokens) (ending t v) closing
  pub byte_at : (shortest v k : ℕ) → v < count → k < depth t v → (of_tables t count shortest).byte_at v k ≡ from_right (ending t v) k
  pub ancestor : (shortest v k : ℕ) → v < count → k ≤ depth t v
      → ((of_tables t count shortest).ancestor v k < count)
      × (ending t ((of_tables t count shortest).ancestor v k) ≡ drop (length (ending t v) - k) (ending t v))
