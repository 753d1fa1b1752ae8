-- Demand 2: the hits are exactly the occurrences, and the places fetched are those of the reading rules. For the sweep of one
-- unchanging image by single bytes and by packets, from building on, and for the sweep of the same image as a whole. By single bytes and as a
-- whole, as many bytes are spared as the rules take from stretches.
use Rattle.std.specs.Prelude.{ℕ, zero, suc, ◌-◌, ◌≤◌, ◌≡◌, List, [], ◌∷◌, ◌++◌, length, get_or, take}
use Rattle.rules.specs.Sweep.{happens, bytes_of, places, recalls, hits, Occurrences}
use Rattle.book.specs.Book.{read_book, accepted}
use Rattle.tables.specs.Tables.{Tables, Sizes, build}
use Rattle.scan.specs.declared.Scan.{Scan}
use Rattle.scan.specs.Start.{start}
use Rattle.scan.specs.Calls.{Answer, fetch, found, over, refused, Stepped, carry_on, supply}
use Rattle.scan.specs.Packets.{max_packet, supply_packet}
use Rattle.scan.specs.Answers.{answers, places_in, hits_in}
use Rattle.whole.specs.Image.{Swept, room, counted, noted, sweep_image}

-- What the first calls answer, of which there are at most `calls` and `r` is the first: each place to fetch is supplied with
-- the image's byte, a hit is carried on from, and after done or a refusal no call is made.
abbrev pub swept : Tables → List ℕ → ℕ → Stepped → List Answer
swept t image zero r = []
swept t image (suc calls) r =
    r.answer ∷ elim r.answer [
      | fetch p ↦ swept t image calls (supply t r.state (get_or image p 0))
      | found e i ↦ swept t image calls (carry_on t r.state)
      | over ↦ []
      | refused k v ↦ []
    ]

-- The state after the first of these calls and so many more.
abbrev pub swept_to : Tables → List ℕ → ℕ → Stepped → Scan
swept_to t image zero r = r.state
swept_to t image (suc calls) r =
    elim r.answer [
      | fetch p ↦ swept_to t image calls (supply t r.state (get_or image p 0))
      | found e i ↦ swept_to t image calls (carry_on t r.state)
      | over ↦ r.state
      | refused k v ↦ r.state
    ]

-- The packet for place p: the image's bytes from there down, so many, or up to the image's start.
abbrev pub packet_for : List ℕ → ℕ → ℕ → List ℕ
packet_for image p zero = []
packet_for image zero (suc size) = get_or image 0 0 ∷ []
packet_for image (suc p) (suc size) = get_or image (suc p) 0 ∷ packet_for image p size

-- The places of so many bytes, from p down, as answers.
abbrev pub fetched_from : ℕ → ℕ → List Answer
fetched_from p zero = []
fetched_from p (suc used) = fetch p ∷ fetched_from (p - 1) used

-- What the first calls fetch and find in a sweep by packets: the places of the bytes that were used, and the other answers. `size i` is
-- the length of the packet at call i.
abbrev pub sent : Tables → List ℕ → (ℕ → ℕ) → ℕ → Stepped → List Answer
sent t image size zero r = []
sent t image size (suc calls) r =
    let more = sent t image (λ i. size (suc i)) calls in
    elim r.answer [
      | fetch p ↦ let d = supply_packet t r.state (packet_for image p (size 0)) in fetched_from p d.used ++ more d.step
      | found e i ↦ found e i ∷ more (carry_on t r.state)
      | over ↦ over ∷ []
      | refused k v ↦ refused k v ∷ []
    ]

-- Packets of any lengths that are taken: 1 to 64 bytes.
abbrev pub Lengths : (ℕ → ℕ) → Type 0
Lengths size = (i : ℕ) → (1 ≤ size i) × (size i ≤ max_packet)

-- `said calls` is what the first calls answer, `last calls` the state after one call more than that, `packets size calls` what they fetch and
-- find by packets; `whole` is what the rules say in all; `sweep` is the sweep of the image as a whole, for any two hit buffers; `t` are the
-- tables that building left.
pub record Demand2 (book image : List ℕ) (said : ℕ → List Answer) (last : ℕ → Scan) (packets : (ℕ → ℕ) → ℕ → List Answer)
    (sweep : List ℕ → List ℕ → Swept) (t : Tables) : Type 0 where
  pub tokens : List (List ℕ)
  pub read : read_book book ≡ accepted tokens
  pub whole : List Answer
  pub rules : whole ≡ answers (happens tokens (length image) (bytes_of image))
  -- the calls answer what the rules say, and the last answer is done
  pub answered : (calls : ℕ) → said calls ≡ take calls whole
  pub ends : (before : List Answer) × (whole ≡ before ++ (over ∷ []))
  -- by packets it is the same, in no more calls
  pub by-packets : (size : ℕ → ℕ) → Lengths size → (calls : ℕ) → length whole ≤ calls → packets size calls ≡ whole
  -- the places fetched are the rules', and the hits are exactly the occurrences
  pub fetches : places_in whole ≡ places (happens tokens (length image) (bytes_of image))
  pub finds : hits_in whole ≡ hits (happens tokens (length image) (bytes_of image))
  pub occurrences : Occurrences tokens image (hits_in whole)
  -- when all is answered, the state counts the bytes that the rules took from stretches
  pub spares : (calls : ℕ) → length whole ≤ suc calls → (last calls).spared ≡ length (recalls (happens tokens (length image) (bytes_of image)))
  -- the whole image gives these hits, as many places, and the same count: it answers their numbers, that of the hits by refusal 12 where they
  -- are too many, builds the same tables, and writes the hits as far as both buffers reach
  pub counts : (ends numbers : List ℕ) → (sweep ends numbers).answer ≡ counted (room ends numbers) (length (hits_in whole))
  pub counts-fetches : (ends numbers : List ℕ) → (sweep ends numbers).fetched ≡ length (places_in whole)
  pub counts-spared : (ends numbers : List ℕ) → (sweep ends numbers).spared ≡ length (recalls (happens tokens (length image) (bytes_of image)))
  pub builds : (ends numbers : List ℕ) → (sweep ends numbers).tables ≡ t
  pub notes-ends : (ends numbers : List ℕ) → (sweep ends numbers).ends ≡ noted (λ h. h.0) (room ends numbers) (hits_in whole) ends
  pub notes-tokens : (ends numbers : List ℕ) → (sweep ends numbers).tokens ≡ noted (λ h. h.1) (room ends numbers) (hits_in whole) numbers

-- Demand 2 in one piece. Building takes a book and lent tables, answers the number of nodes, S and D, and leaves tables; starting takes
-- these numbers and an image's length; then the calls are made. The whole image is swept with the tables as they were lent.
unfoldable pub Demand2For : Type 0
Demand2For =
    (book : List ℕ) (lent : Tables) (sizes : Sizes) → (build book lent).answer ≡ accepted sizes →
    (image : List ℕ) (s : Scan) → start (length image) sizes.shortest sizes.nodes ≡ accepted s →
    let t = (build book lent).tables in
    let r = carry_on t s in
    Demand2 book image (λ calls. swept t image calls r) (λ calls. swept_to t image calls r) (λ size calls. sent t image size calls r)
    (sweep_image book image lent) t
