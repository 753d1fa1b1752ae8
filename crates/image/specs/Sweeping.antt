-- What holds of a sweep between its rounds, and what a round does to it.
use Rattle.std.specs.Prelude.{Option, Some, None, ℕ, ◌+◌, ◌-◌, ◌*◌, ◌≤◌, ◌<◌, ◌≡◌, false, List, [], ◌∷◌, ◌++◌, length, get_or}
use Rattle.std.proofs.Math.Option.{some}
use Rattle.rules.specs.Lists.{any_of}
use Rattle.rules.specs.Options.{option_of}
use Rattle.rules.specs.Rules.{Stretch}
use Rattle.rules.specs.Tokens.{ends, of_tokens, shift_of, shortest_of, longest_of}
use Rattle.book.specs.Book.{read_book, accepted, max_image, max_body}
use Rattle.book.proofs.Laws.Accepted.{accepted-setting}
use Rattle.tables.specs.Tables.{Tables}
use Rattle.trie.specs.Lent.{tables_of}
use Rattle.image.specs.declared.caches.Caches.{Caches}
use Rattle.image.specs.declared.skim.Skipped.{Skipped}
use Rattle.image.specs.declared.spans.Spans.{Spans}
use Rattle.image.specs.declared.turn.Outcome.{Outcome}
use Rattle.image.specs.declared.given.Sweep.{Sweep}
use Rattle.whole.specs.Image.{hits_of, fetches_of, spares_of}
use Rattle.image.specs.Rounds.{Reached, reached, met, lowest, Starts, fetches_from, spares_from, hits_from}
use Rattle.image.specs.Spans.{places_of, in_use}
use Rattle.image.specs.Rule5.{tokens_of, words_in, Accepted, ByByte, BySkip}
use Rattle.tables.specs.Represents.{Represents}

-- An accepted book, tables that represent its tokens, and an image within its limit.
pub record Given (book image : List ℕ) (tables : Tables) (count shortest : ℕ) : Type 0 where
  pub read : Accepted book shortest
  pub stands : Represents tables count (tokens_of book)
  pub within : length image ≤ max_image

abbrev pub GivenIn : Sweep → Type 0
GivenIn s = Given s.book.now s.image.now (tables_of s.tables) s.count s.shortest

-- Where a sweep stands: the boundary, what is remembered, and how many bytes were fetched and spared, and hits found, so far.
pub record Standing : Type 0 where
  pub boundary : ℕ
  pub spans : Spans
  pub fetched : ℕ
  pub spared : ℕ
  pub hits : ℕ

module _ (book image : List ℕ) where
  -- The sweep has found these hits; what is left to fetch, to spare and to find is the rest of what the rules say.
  pub record Stands (at : Standing) (found : List (ℕ × ℕ)) : Type 0 where
    pub read : read_book book ≡ accepted (tokens_of book)
    pub stretches : List (Stretch (List ℕ))
    pub fuel : ℕ
    pub count : ℕ
    pub starts : let ts = tokens_of book in
        Starts ts (shortest_of ts) (longest_of ts) (accepted-setting book ts read) image at.boundary stretches fuel
    pub remembered : in_use at.spans ≡ places_of stretches
    pub few : at.spans.used ≤ 5
    pub finds : let ts = tokens_of book in
        found ++ hits_from ts (shortest_of ts) (longest_of ts) (accepted-setting book ts read) image fuel count at.boundary stretches
        ≡ hits_of ts image
    pub fetches : let ts = tokens_of book in
        at.fetched + fetches_from ts (shortest_of ts) (longest_of ts) (accepted-setting book ts read) image fuel count at.boundary stretches
        ≡ fetches_of ts image
    pub spares : let ts = tokens_of book in
        at.spared + spares_from ts (shortest_of ts) (longest_of ts) (accepted-setting book ts read) image fuel count at.boundary stretches
        ≡ spares_of ts image
    pub counted : at.hits ≡ length found
    pub positive : 1 ≤ at.boundary
    pub near : at.boundary ≤ length image + max_body

  -- It stands so for some hits.
  pub record Known (at : Standing) : Type 0 where
    pub found : List (ℕ × ℕ)
    pub stands : Stands at found

-- The leftmost place that a round looked at.
abbrev pub lowest_of : ℕ → ℕ → Option ℕ → ℕ
lowest_of b depth None = b - depth
lowest_of b depth (Some x) = b - 1 - depth

-- If the round ended at its first byte, the root has no child for it, and the shift is that byte's.
pub record Learns (book : List ℕ) (shortest depth : ℕ) (closing : Option ℕ) (by : ℕ) : Type 0 where
  pub none : (x : ℕ) → depth ≡ 0 → option_of closing ≡ some x → any_of (ends (x ∷ [])) (words_in book) ≡ false
  pub right : (x : ℕ) → depth ≡ 0 → option_of closing ≡ some x → by ≡ shift_of (words_in book) shortest [] (some x)

module _ (book image : List ℕ) where
  -- where a round at boundary b ends
  abbrev pub end_at : ℕ → Reached (List ℕ)
  end_at b = reached (of_tokens (tokens_of book) (shortest_of (tokens_of book))) image b

  -- its hits, and its shift
  abbrev pub met_at : ℕ → List (ℕ × ℕ)
  met_at b = met (of_tokens (tokens_of book) (shortest_of (tokens_of book))) image b

  abbrev pub shift_at : ℕ → ℕ
  shift_at b = shift_of (words_in book) (shortest_of (tokens_of book)) (end_at b).node (end_at b).closing

  -- A round was seen that ended at its second byte y, left of x, met no token and shifted by so much.
  pub record Seen (y x by : ℕ) : Type 0 where
    pub b : ℕ
    pub before : 2 ≤ b
    pub first : get_or image (b - 1) 0 ≡ x
    pub second : get_or image (b - 2) 0 ≡ y
    pub deep : (end_at b).depth ≡ 1
    pub closing : (end_at b).closing ≡ some y
    pub unmet : (end_at b).tokens ≡ []
    pub shift : by ≡ shift_at b

  -- The shift of a round that ends at its second byte without a token met, by both bytes.
  pub record ByPair (cache : List ℕ) : Type 0 where
    pub size : length cache ≡ 65536
    pub right : (y x : ℕ) → y < 256 → x < 256 → (get_or cache (256 * y + x) 0 ≡ 0 → ⊥) → Seen y x (get_or cache (256 * y + x) 0)

  -- If the round ended so, it was seen.
  pub record Sees (x depth : ℕ) (closing : Option ℕ) (met by : ℕ) : Type 0 where
    pub seen : (y : ℕ) → depth ≡ 1 → met ≡ 0 → option_of closing ≡ some y → Seen y x by

  -- The caches, right for a book and an image.
  pub record CachesRight (shortest : ℕ) (caches : Caches) : Type 0 where
    pub by_byte : ByByte book shortest caches.bytes
    pub by-skip : BySkip book shortest caches.skip
    pub by-pair : ByPair caches.pairs

  -- A round starts at boundary b, within the image, with so many hits before it.
  pub record Begun (b hits : ℕ) : Type 0 where
    pub at : Standing
    pub known : Known book image at
    pub place : at.boundary ≡ b
    pub so_far : at.hits ≡ hits
    pub inside : b ≤ length image

  -- It ends where the rules say, and shifts by as much.
  pub record Ended (b : ℕ) (a : Outcome) : Type 0 where
    pub deep : a.depth ≡ (end_at b).depth
    pub low : a.low ≡ lowest b (end_at b)
    pub by : a.by ≡ shift_at b

abbrev pub CachesIn : Sweep → Caches → Type 0
CachesIn s c = CachesRight s.book.now s.image.now s.shortest c

-- the standing with another boundary and more places fetched
abbrev pub on_at : Standing → ℕ → ℕ → Standing
on_at at b more = record { boundary = b; spans = at.spans; fetched = at.fetched + more; spared = at.spared; hits = at.hits }

module _ (image : List ℕ) (caches : Caches) where
  -- The cache has this shift for a round at boundary b that ends at its first byte; 0: it has none.
  pub record Cached (b by : ℕ) : Type 0 where
    pub inside : b ≤ length image
    pub byte : get_or image (b - 1) 0 < 256
    pub shift : by ≡ get_or caches.skip (get_or image (b - 1) 0) 0

  -- Four such rounds, one after the other, shift by S each.
  pub record Four (b S : ℕ) : Type 0 where
    pub one : Cached b S
    pub two : Cached (b + S) S
    pub three : Cached (b + 2 * S) S
    pub four : Cached (b + 3 * S) S

  -- The cache has this shift for a round at boundary b that ends at its second byte.
  pub record Paired (b by : ℕ) : Type 0 where
    pub before : 2 ≤ b
    pub inside : b ≤ length image
    pub first : get_or image (b - 1) 0 < 256
    pub second : get_or image (b - 2) 0 < 256
    pub shift : by ≡ get_or caches.pairs (256 * get_or image (b - 2) 0 + get_or image (b - 1) 0) 0

  -- A sweep at boundary b, with so many stretches in use, and a cache that is right for its book.
  pub record Skimmable (S b used : ℕ) : Type 0 where
    pub book : List ℕ
    pub at : Standing
    pub known : Known book image at
    pub place : at.boundary ≡ b
    pub spans : at.spans.used ≡ used
    pub within : length image ≤ max_image
    pub right : BySkip book S caches.skip
    pub paired : ByPair book image caches.pairs
    pub short : S ≡ shortest_of (tokens_of book)

  -- From boundary b to another by rounds that find nothing, with so many looks at the image.
  pub record Leads (S b used after looks : ℕ) : Type 0 where
    pub stands : (book : List ℕ) → BySkip book S caches.skip → ByPair book image caches.pairs → S ≡ shortest_of (tokens_of book)
        → (at : Standing) → at.boundary ≡ b → at.spans.used ≡ used
        → (found : List (ℕ × ℕ)) → Stands book image at found → Stands book image (on_at at after looks) found

  pub record Skimmed (S b used : ℕ) (r : Skipped) : Type 0 where
    pub leads : Leads S b used r.boundary r.looks
    pub up : b ≤ r.boundary
