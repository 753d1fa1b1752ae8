-- The reading rules 1 to 6, once for every way to stand for an ending of a word: `E` is the type of nodes, be it an
-- ending's own bytes (`Tokens`) or its number in the tables (crate `tables`).
use Rattle.std.specs.Prelude.{ℕ, zero, suc, ◌+◌, ◌-◌, ◌*◌, max, Bool, true, false, ◌&&◌, ◌||◌, List, [], ◌∷◌, ◌++◌, leb, ltb, eqb}
use Rattle.std.proofs.Math.Option.{Option, some, none}
use Rattle.rules.specs.Lists.{select}

-- What the rules ask of the nodes: `token v` is the number of the token that has v's ending for a word, or 0; `byte_at v k` the byte of
-- v's ending with k others to its right; `ancestor v k` the node of the last k bytes of v's ending; `shift` is rule 5.
pub record Tree (E : Type 0) : Type 0 where
  pub root : E
  pub child : E → ℕ → Option E
  pub leaf : E → Bool
  pub token : E → ℕ
  pub byte_at : E → ℕ → ℕ
  pub ancestor : E → ℕ → E
  pub shift : E → Option ℕ → ℕ

-- A remembered match (document 01: stretch): the places from left up to right, right not included. Its bytes are its
-- node's ending.
pub record Stretch (E : Type 0) : Type 0 where
  pub left : ℕ
  pub right : ℕ
  pub node : E

-- Where a round stands: the right edge of its window (document 01: boundary b), its node, that node's depth d, and what is
-- remembered, by rising place.
pub record Config (E : Type 0) : Type 0 where
  pub boundary : ℕ
  pub node : E
  pub depth : ℕ
  pub stretches : List (Stretch E)

-- What happens, in order: a place is fetched, or its byte is taken from a stretch; a hit (end, token) of a round that ends; it leaves
-- a boundary and stretches; the sweep is done.
pub data Event (E : Type 0) : Type 0 where
  fetched : ℕ → Event E
  recalled : ℕ → Event E
  hit : ℕ → ℕ → Event E
  shifted : ℕ → List (Stretch E) → Event E
  done : Event E

-- A configuration, and the events on the way to it.
pub record Step (E : Type 0) : Type 0 where
  pub events : List (Event E)
  pub config : Config E

-- What comes next: nothing, a place has to be fetched, or a step that needs no fetch.
pub data Next (E : Type 0) : Type 0 where
  finished : Next E
  wants : ℕ → Next E
  goes : Step E → Next E

module _ {E : Type 0} where
  -- Rule 1: the sweep of n bytes is done.
  abbrev pub is_done : ℕ → Config E → Bool
  is_done n c = ltb n c.boundary

  -- Rule 2: the place that a round looks at.
  abbrev pub place : Config E → ℕ
  place c = c.boundary - 1 - c.depth

  -- Rule 3: the hit of token t, if there is one.
  abbrev pub hit_at : ℕ → ℕ → List (Event E)
  hit_at end zero = []
  hit_at end (suc t) = hit end (suc t) ∷ []

  -- Rule 3: the round goes to a child.
  abbrev pub deeper : Config E → E → Config E
  deeper c v = record { boundary = c.boundary; node = v; depth = c.depth + 1; stretches = c.stretches }

  -- Rule 4: the stretches that are not wholly inside the matched part, which begins at `from`.
  abbrev pub left_over : ℕ → List (Stretch E) → List (Stretch E)
  left_over from = select (λ s. ltb s.left from)

  -- Rule 4: where the new stretch begins, at `from` or at the right edge of the nearest stretch left over.
  abbrev pub cut : ℕ → List (Stretch E) → ℕ
  cut from [] = from
  cut from (s ∷ ss) = max s.right (cut from ss)

  -- Rule 6: a stretch is kept at boundary b.
  abbrev pub kept : ℕ → Stretch E → Bool
  kept b s = leb (4 * (b - s.right)) (s.right - s.left)

  -- an event before a step
  abbrev pub after : Event E → Step E → Step E
  after e s = record { events = e ∷ s.events; config = s.config }

module _ {E : Type 0} (tree : Tree E) where
  -- Rule 1: the start, with the shortest token's length as boundary.
  abbrev pub fresh : ℕ → Config E
  fresh shortest = record { boundary = shortest; node = tree.root; depth = 0; stretches = [] }

  -- Rule 2: the round ends with no closing byte.
  abbrev pub stops : Config E → Bool
  stops c = tree.leaf c.node || eqb c.depth c.boundary

  -- Rule 2: the byte of a place that lies in a remembered stretch.
  abbrev pub recall : List (Stretch E) → ℕ → Option ℕ
  recall [] at = none
  recall (s ∷ ss) at =
      elim (leb s.left at && ltb at s.right) [
        | true ↦ some (tree.byte_at s.node (s.right - 1 - at))
        | false ↦ recall ss at
      ]

  -- Rule 4: the stretches when a round ends, before rule 6.
  abbrev pub ended : Config E → List (Stretch E)
  ended c =
      let from = c.boundary - c.depth in
      let rest = left_over from c.stretches in
      let new : Stretch E = record {
        left = cut from rest;
        right = c.boundary;
        node = tree.ancestor c.node (c.boundary - cut from rest);
      } in
      rest ++ (new ∷ [])

  -- Rules 5 and 6: the configuration after a shift by s.
  abbrev pub shifted_by : Config E → ℕ → Config E
  shifted_by c s = record {
    boundary = c.boundary + s;
    node = tree.root;
    depth = 0;
    stretches = select (kept (c.boundary + s)) (ended c);
  }

  -- Rule 3: the hits of a round that comes to node v, k deep: the tokens on the way from there to the root, the longest first.
  abbrev pub hits_up : ℕ → E → ℕ → List (Event E)
  hits_up end v zero = []
  hits_up end v (suc k) = hit_at end (tree.token (tree.ancestor v (suc k))) ++ hits_up end v k

  -- A round ends, with the byte that did not match (document 01: closing byte), if there is one: its hits, then rules 4 to 6.
  abbrev pub end_round : Config E → Option ℕ → Step E
  end_round c closing =
      let c' = shifted_by c (tree.shift c.node closing) in
      record { events = hits_up c.boundary c.node c.depth ++ (shifted c'.boundary c'.stretches ∷ []); config = c' }

  -- Rule 3: a round takes the byte x; the argument is the child with that label.
  abbrev pub taken : Config E → ℕ → Option E → Step E
  taken c x none = end_round c (some x)
  taken c x (some v) = record { events = []; config = deeper c v }

  abbrev pub take_byte : Config E → ℕ → Step E
  take_byte c x = taken c x (tree.child c.node x)

  -- Rule 2: the argument is what is remembered of the place.
  abbrev pub look : Config E → Option ℕ → Next E
  look c none = wants (place c)
  look c (some x) = goes (after (recalled (place c)) (take_byte c x))

  -- Rules 1 and 2, for an image of n bytes.
  abbrev pub next : ℕ → Config E → Next E
  next n c =
      elim (is_done n c) [
        | true ↦ finished
        | false ↦ elim (stops c) [
          | true ↦ goes (end_round c none)
          | false ↦ look c (recall c.stretches (place c))
        ]
      ]

  -- What happens from a configuration on, by what comes next; `more` is what happens after that.
  abbrev pub follow : (ℕ → ℕ → ℕ) → (ℕ → Config E → List (Event E)) → ℕ → Config E → Next E → List (Event E)
  follow ask more k c finished = done ∷ []
  follow ask more k c (wants at) = let s = take_byte c (ask k at) in fetched at ∷ (s.events ++ more (k + 1) s.config)
  follow ask more k c (goes s) = s.events ++ more k s.config

  -- All that happens from a configuration on, in at most `fuel` steps. `ask k at` is the byte that place `at` gets as the
  -- k-th one fetched, from 0.
  unfoldable pub trace : ℕ → (ℕ → ℕ → ℕ) → ℕ → ℕ → Config E → List (Event E)
  trace n ask zero k c = []
  trace n ask (suc fuel) k c = follow ask (trace n ask fuel) k c (next n c)
