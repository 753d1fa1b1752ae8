-- A whole sweep by the rules over the tokens, what it fetches, takes from stretches, looks at and finds, and what it should: the occurrences,
-- and the limits.
use Rattle.std.specs.Prelude.{ℕ, zero, suc, ◌+◌, ◌-◌, ◌*◌, ◌/◌, ◌^◌, ◌≤◌, ◌<◌, ◌≡◌, true, length, get_or, take, drop}
use mathlib.Core.List.{List, [], ◌∷◌, Memᴰ}
use Rattle.rules.specs.Rules.{Event, fetched, recalled, hit, shifted, done, trace, fresh}
use Rattle.rules.specs.Words.{is_word}
use Rattle.rules.specs.Tokens.{of_tokens, shortest_of, longest_of}

-- All that happens in an image of n bytes when the k-th fetch gets `ask k place`. The steps are enough (`Laws.Limit.Ends`).
unfoldable pub happens : List (List ℕ) → ℕ → (ℕ → ℕ → ℕ) → List (Event (List ℕ))
happens tokens n ask =
    let tree = of_tokens tokens (shortest_of tokens) in
    trace tree n ask (suc n * (longest_of tokens + 2)) 0 (fresh tree (shortest_of tokens))

-- The bytes of an unchanging image, whenever they are asked for.
abbrev pub bytes_of : List ℕ → ℕ → ℕ → ℕ
bytes_of image k at = get_or image at 0

-- The places fetched, in order.
abbrev pub places : {E : Type 0} → List (Event E) → List ℕ
places [] = []
places (fetched p ∷ es) = p ∷ places es
places (recalled p ∷ es) = places es
places (hit e i ∷ es) = places es
places (shifted b ss ∷ es) = places es
places (done ∷ es) = places es

-- The places whose bytes are taken from stretches, in order (document 02: spared).
abbrev pub recalls : {E : Type 0} → List (Event E) → List ℕ
recalls [] = []
recalls (fetched p ∷ es) = recalls es
recalls (recalled p ∷ es) = p ∷ recalls es
recalls (hit e i ∷ es) = recalls es
recalls (shifted b ss ∷ es) = recalls es
recalls (done ∷ es) = recalls es

-- The places looked at, in order: a look is a byte fetched or taken from a stretch.
abbrev pub looks : {E : Type 0} → List (Event E) → List ℕ
looks [] = []
looks (fetched p ∷ es) = p ∷ looks es
looks (recalled p ∷ es) = p ∷ looks es
looks (hit e i ∷ es) = looks es
looks (shifted b ss ∷ es) = looks es
looks (done ∷ es) = looks es

-- The hits, in order: end and token.
abbrev pub hits : {E : Type 0} → List (Event E) → List (ℕ × ℕ)
hits [] = []
hits (fetched p ∷ es) = hits es
hits (recalled p ∷ es) = hits es
hits (hit e i ∷ es) = (e, i) ∷ hits es
hits (shifted b ss ∷ es) = hits es
hits (done ∷ es) = hits es

-- The hits of tokens in an image, and how many bytes are fetched to find them, and taken from stretches.
abbrev pub hits_of : List (List ℕ) → List ℕ → List (ℕ × ℕ)
hits_of tokens image = hits (happens tokens (length image) (bytes_of image))

abbrev pub fetches_of : List (List ℕ) → List ℕ → ℕ
fetches_of tokens image = length (places (happens tokens (length image) (bytes_of image)))

abbrev pub spares_of : List (List ℕ) → List ℕ → ℕ
spares_of tokens image = length (recalls (happens tokens (length image) (bytes_of image)))

-- An occurrence: a word of token i (from 0), its bytes or, for a card number, their reverse, stands in the image with its right edge at e
-- (document 01: end).
pub record Stands (tokens : List (List ℕ)) (image : List ℕ) (e i : ℕ) : Type 0 where
  pub numbered : i < length tokens
  pub fits : length (get_or tokens i []) ≤ e
  pub inside : e ≤ length image
  pub bytes : is_word (take (length (get_or tokens i [])) (drop (e - length (get_or tokens i [])) image)) (get_or tokens i []) ≡ true

-- each element stands one time
abbrev pub Once : {A : Type 0} → List A → Type 0
Once [] = Unit {0}
Once (h ∷ hs) = (Memᴰ h hs → ⊥) × Once hs

-- the length of the token with a number, from 1
abbrev pub length_of : List (List ℕ) → ℕ → ℕ
length_of tokens zero = 0
length_of tokens (suc i) = length (get_or tokens i [])

-- Hit g comes before hit h: ends rise, and at one end the tokens' lengths fall.
abbrev pub Before : List (List ℕ) → ℕ × ℕ → ℕ × ℕ → Type 0
Before tokens g h = (g.0 ≤ h.0) × (h.0 ≤ g.0 → length_of tokens h.1 < length_of tokens g.1)

-- each hit comes before those that follow it
abbrev pub Ordered : List (List ℕ) → List (ℕ × ℕ) → Type 0
Ordered tokens [] = Unit {0}
Ordered tokens (g ∷ hs) = ((h : ℕ × ℕ) → Memᴰ h hs → Before tokens g h) × Ordered tokens hs

-- a hit, n places further right
abbrev pub further : ℕ → ℕ × ℕ → ℕ × ℕ
further n h = (n + h.0, h.1)

-- The hits are exactly the occurrences, each one time, from left to right, and at one end the longest token first.
pub record Occurrences (tokens : List (List ℕ)) (image : List ℕ) (found : List (ℕ × ℕ)) : Type 0 where
  pub sound : (e i : ℕ) → Memᴰ (e, i) found → Stands tokens image e (i - 1) × (1 ≤ i)
  pub complete : (e i : ℕ) → Stands tokens image e i → Memᴰ (e, i + 1) found
  pub once : Once found
  pub ordered : Ordered tokens found

-- the number of base-4 digits of m, with fuel, of which m is enough
abbrev pub digits_in : ℕ → ℕ → ℕ
digits_in zero m = 0
digits_in (suc fuel) zero = 0
digits_in (suc fuel) (suc m) = suc (digits_in fuel (suc m / 4))

-- K, the number of base-4 digits of D
abbrev pub digits4 : ℕ → ℕ
digits4 m = digits_in m m

-- The most bytes that may be fetched from an image of n bytes: N + (4N + D) × K.
abbrev pub limit : ℕ → ℕ → ℕ
limit n d = n + (4 * n + d) * digits4 d

-- Each round leaves k stretches with 4^k at most D, fewer than K.
abbrev pub Few : {E : Type 0} → ℕ → List (Event E) → Type 0
Few d [] = Unit {0}
Few d (fetched p ∷ es) = Few d es
Few d (recalled p ∷ es) = Few d es
Few d (hit e i ∷ es) = Few d es
Few d (shifted b ss ∷ es) = (4 ^ length ss ≤ d) × Few d es
Few d (done ∷ es) = Few d es
