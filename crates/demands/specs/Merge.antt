-- Merging two books makes a valid book, and a sweep with it finds what the two books find together: the same tokens at the same ends. For
-- sweeps by single bytes and of the image as a whole, in any mix.
use Rattle.std.specs.Prelude.{ℕ, ◌≤◌, ◌≡◌, true, ◌⊎◌, length, take, drop}
use mathlib.Core.List.{List, [], ◌∷◌, ◌++◌, map, Memᴰ}
use Rattle.rules.specs.Words.{is_word}
use Rattle.book.specs.Book.{found, missing, unread, accepted, max_image, read_book, place_in}
use Rattle.tables.specs.Tables.{Tables, Sizes, build}
use Rattle.scan.specs.declared.Scan.{Scan}
use Rattle.scan.specs.Start.{start}
use Rattle.scan.specs.Calls.{Answer, over, carry_on}
use Rattle.scan.specs.Answers.{hits_in}
use Rattle.whole.specs.Image.{sweep_image}
use Rattle.merge.specs.Merge.{merged, wrote, merge}
use Rattle.demands.specs.Demand2.{swept}

-- `book` is read, and its tokens are those of the first book, then those of the second that the first lacks.
pub record Valid (first second book : List ℕ) : Type 0 where
  pub tokens : List (List ℕ)
  pub others : List (List ℕ)
  pub reads_first : read_book first ≡ accepted tokens
  pub reads_second : read_book second ≡ accepted others
  pub reads : read_book book ≡ accepted (merged tokens others)

-- A merged book is valid. `n` is the length that merging answered: the first n bytes of the output are the book.
unfoldable pub ValidFor : Type 0
ValidFor =
    (first second out : List ℕ) (n : ℕ) → (merge first second out).answer ≡ wrote n →
    Valid first second (take n (merge first second out).out)

-- The bytes of token number i of a book, from where placing it says that they stand.
abbrev pub token_in : List ℕ → ℕ → List ℕ
token_in book i = elim (place_in (read_book book) i) [ found at n ↦ take n (drop at book) | missing ↦ [] | unread k v ↦ [] ]

-- Hits, by their ends and their tokens' bytes: in another book a token may have another number.
abbrev pub named : List ℕ → List (ℕ × ℕ) → List (ℕ × List ℕ)
named book hits = map (λ h. (h.0, token_in book h.1)) hits

-- A sweep by single bytes, from building to done, and the hits that it answered.
pub record ByBytes (book image : List ℕ) (lent : Tables) (hits : List (ℕ × ℕ)) : Type 0 where
  pub sizes : Sizes
  pub builds : (build book lent).answer ≡ accepted sizes
  pub state : Scan
  pub starts : start (length image) sizes.shortest sizes.nodes ≡ accepted state
  pub calls : ℕ
  pub before : List Answer
  pub answers : (let t = (build book lent).tables in swept t image calls (carry_on t state)) ≡ before ++ (over ∷ [])
  pub finds : hits ≡ hits_in before

-- A sweep of the image as a whole that has room for its hits: it answers their number, and both buffers begin with them.
pub record AsWhole (book image : List ℕ) (lent : Tables) (hits : List (ℕ × ℕ)) : Type 0 where
  pub ends : List ℕ
  pub numbers : List ℕ
  pub answers : (sweep_image book image lent ends numbers).answer ≡ accepted (length hits)
  pub finds-ends : take (length hits) (sweep_image book image lent ends numbers).ends ≡ map (λ h. h.0) hits
  pub finds-tokens : take (length hits) (sweep_image book image lent ends numbers).tokens ≡ map (λ h. h.1) hits

-- A sweep that has come to its end, and its hits.
pub data Sweep (book image : List ℕ) (hits : List (ℕ × ℕ)) : Type 0 where
  by_bytes : (lent : Tables) → ByBytes book image lent hits → Sweep book image hits
  as_whole : (lent : Tables) → AsWhole book image lent hits → Sweep book image hits

-- The hits have h: one with the same end and a token that is a word of h's, equal to it or, for a card number, its reverse.
abbrev pub Has : List (ℕ × List ℕ) → ℕ × List ℕ → Type 0
Has hits h = (g : ℕ × List ℕ) × Memᴰ g hits × (g.0 ≡ h.0) × (is_word g.1 h.1 ≡ true)

-- no two of them are one
abbrev pub Apart : List (ℕ × List ℕ) → Type 0
Apart [] = Unit {0}
Apart (h ∷ hs) = (Has hs h → ⊥) × Apart hs

-- `all` has what `one` has and what `two` has, nothing else, and each one time; a card number and its reverse are one.
pub record Union (one two all : List (ℕ × List ℕ)) : Type 0 where
  pub left : (h : ℕ × List ℕ) → Memᴰ h one → Memᴰ h all
  pub right : (h : ℕ × List ℕ) → Memᴰ h two → Has all h
  pub only : (h : ℕ × List ℕ) → Memᴰ h all → Memᴰ h one ⊎ Memᴰ h two
  pub once : Apart all

-- A sweep with the merged book finds what sweeps of the same image with the two books find.
unfoldable pub UnionFor : Type 0
UnionFor =
    (first second out : List ℕ) (n : ℕ) → (merge first second out).answer ≡ wrote n →
    let book = take n (merge first second out).out in
    (image : List ℕ) (one two all : List (ℕ × ℕ)) → Sweep first image one → Sweep second image two → Sweep book image all →
    Union (named first one) (named second two) (named book all)

-- Such sweeps there are: with every book that can be built into the lent tables and every image within its limit, in both ways, and both
-- find the same.
unfoldable pub EndsFor : Type 0
EndsFor =
    (book : List ℕ) (lent : Tables) (sizes : Sizes) → (build book lent).answer ≡ accepted sizes →
    (image : List ℕ) → length image ≤ max_image →
    (hits : List (ℕ × ℕ)) × ByBytes book image lent hits × AsWhole book image lent hits
