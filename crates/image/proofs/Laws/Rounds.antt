-- The loop of all rounds: the buffers hold the hits found so far, and the caches are right.
use Prim.Native.Nat.{ℕ, zero, suc, ◌+◌, ◌^◌, ◌≤◌, ◌<◌}
use native.Mathlib.Omega.{arith}
use mathlib.Core.Path.{◌≡◌, refl, ap, sym, subst, ◌∙◌}
use mathlib.Core.Bool.{false}
use mathlib.Core.List.{List, [], ◌∷◌, ◌++◌, map, map-append}
use lib.ListN.{length, take, length-map, replicate}
use Rattle.book.specs.Book.{max_image, max_body}
use Rattle.rules.specs.Lists.{over}
use Rattle.whole.specs.Image.{room, hits_of, fetches_of, spares_of, noted}
use Rattle.tables.specs.Tables.{Tables}
use Rattle.image.specs.declared.given.Sweep.{Sweep}
use Rattle.image.specs.declared.hits.HitsMut.{HitsMut}
use Rattle.image.specs.declared.caches.Caches.{Caches}
use Rattle.image.specs.declared.runs.Runs.{Runs}
use Rattle.image.specs.Spans.{in_use}
use Rattle.image.specs.Runs.{Followed}
use Rattle.image.specs.Rule5.{tokens_of}
use Rattle.image.specs.Hits.{notes}
use Rattle.image.specs.Sweeping.{Given, Standing, Stands, Known, CachesRight, CachesIn, Begun, Skimmable, on_at, Leads}
use Rattle.image.proofs.Laws.Notes.{notes-length, notes-append, notes-over}
use Rattle.image.proofs.Laws.RoundsSweep.{no-shifts, no-powers}
use Rattle.image.proofs.Laws.RoundByRound.{begins, all_found, all-counted, looks-small}
use Rattle.image.proofs.Laws.TurnAttempt.{Goes}

-- A part of the hits found lies in a buffer.
module _ (part : ℕ × ℕ → ℕ) (r : ℕ) where
  part-on : (found more : List (ℕ × ℕ)) (n s : ℕ) (l₀ l l' : List ℕ) → n ≡ length found → s ≡ r → l ≡ notes r 0 (map part found) l₀
      → l' ≡ notes s n (map part more) l → l' ≡ notes r 0 (map part (found ++ more)) l₀
  part-on found more n s l₀ l l' e same p q =
      let z : 0 + length (map part found) ≡ n = omega (arith, length-map found part) in
      q ∙ ap (λ s. notes s n (map part more) l) same
      ∙ ap (notes r n (map part more)) p
      ∙ ap (λ i. notes r i (map part more) (notes r 0 (map part found) l₀)) (sym z)
      ∙ sym (notes-append r 0 (map part found) (map part more) l₀)
      ∙ ap (λ xs. notes r 0 xs l₀) (sym (map-append part found more))

  take_part : (n : ℕ) (found : List (ℕ × ℕ)) → take n (map part found) ≡ map part (take n found)
  take_part zero found = refl
  take_part (suc n) [] = refl
  take_part (suc n) (h ∷ found) = cc (take_part n found)

  part-done : (found all : List (ℕ × ℕ)) (l₀ l : List ℕ) → r ≤ length l₀ → found ≡ all → l ≡ notes r 0 (map part found) l₀ → l ≡ noted part r all l₀
  part-done found all l₀ l h e p =
      p ∙ notes-over r (map part found) l₀ h ∙ ap (λ xs. over xs l₀) (take_part r found ∙ ap (λ f. map part (take r f)) e)

-- At the start no run was met.
pub followed-none : {tables : Tables} (image : List ℕ) {count : ℕ} {r : Runs} → 0 < count
    → r ≡ record { from = 0; till = 0; byte = 0; known = 0; ended = false; power = replicate 1025 0; upto = replicate 1025 0; numbers = replicate 1024 0 }
    → Followed tables count image r
followed-none {tables} image {count} h e =
    subst (λ r. Followed tables count image r) (sym e)
    (record { order = omega arith; equal = λ i h l. absurd (omega arith); byte = λ h. absurd (omega arith); powers = no-powers tables count h })

-- These hits are found; the buffers hold as many as there is room for.
pub record Rounding (book image : List ℕ) (shortest : ℕ) (ends₀ tokens₀ ends tokens : List ℕ) (caches : Caches) (at : Standing) : Type 0 where
  pub found : List (ℕ × ℕ)
  pub stands : Stands book image at found
  pub right : CachesRight book image shortest caches
  pub ends-hold : ends ≡ notes (room ends₀ tokens₀) 0 (map (λ h. h.0) found) ends₀
  pub tokens-hold : tokens ≡ notes (room ends₀ tokens₀) 0 (map (λ h. h.1) found) tokens₀

-- The same of a sweep, from its buffers as they were lent.
abbrev pub RoundingIn : Sweep → HitsMut → HitsMut → Caches → Standing → Type 0
RoundingIn s before hits c at =
    Rounding s.book.now s.image.now s.shortest before.ends.now before.tokens.now hits.ends.now hits.tokens.now c at

-- Caches that hold nothing are right.
pub caches-none : (s : Sweep) {c : Caches} → c ≡ record { bytes = replicate 16384 0; skip = replicate 256 0; pairs = replicate 65536 0 } → CachesIn s c
caches-none s {c} e = subst (CachesIn s) (sym e) (no-shifts s.book.now s.image.now s.shortest)

pub rounding-begins : {book image : List ℕ} {tables : Tables} {count shortest : ℕ} {caches : Caches} {at : Standing} (ends tokens : List ℕ)
    → Given book image tables count shortest → CachesRight book image shortest caches
    → at.boundary ≡ shortest → (in_use at.spans ≡ []) × (at.spans.used ≡ 0) → (at.fetched ≡ 0) × (at.spared ≡ 0) × (at.hits ≡ 0)
    → Rounding book image shortest ends tokens ends tokens caches at
rounding-begins {book} {image} {at = at} ends tokens g c e u z = record {
  found = [];
  stands = begins book image at g.read.read (e ∙ g.read.short) u.0 u.1 z.0 z.1 z.2;
  right = c;
  ends-hold = refl;
  tokens-hold = refl;
}

module _ {book image : List ℕ} {shortest : ℕ} {ends₀ tokens₀ ends tokens : List ℕ} {caches : Caches} {at : Standing}
    (l : Rounding book image shortest ends₀ tokens₀ ends tokens caches at) where
  pub ends-long : length ends ≡ length ends₀
  ends-long = ap length l.ends-hold ∙ notes-length (room ends₀ tokens₀) 0 (map (λ h. h.0) l.found) ends₀

  pub tokens-long : length tokens ≡ length tokens₀
  tokens-long = ap length l.tokens-hold ∙ notes-length (room ends₀ tokens₀) 0 (map (λ h. h.1) l.found) tokens₀

  pub known : Known book image at
  known = record { found = l.found; stands = l.stands }

  pub rounding-small : length image ≤ max_image → (at.boundary ≤ max_image + max_body) × (at.fetched + at.spared ≤ 2 ^ 36)
  rounding-small w = (omega (arith, l.stands.near), looks-small book image at l.found l.stands w)

  -- Rounds can be skimmed, and that finds nothing; a round can begin.
  pub rounding-skimmable : {tables : Tables} {count : ℕ} → Given book image tables count shortest
      → Skimmable image caches shortest at.boundary at.spans.used
  rounding-skimmable g = record {
    book = book;
    at = at;
    known = known;
    place = refl;
    spans = refl;
    within = g.within;
    right = l.right.by-skip;
    paired = l.right.by-pair;
    short = g.read.short;
  }

  pub rounding-skims : {tables : Tables} {count : ℕ} → Given book image tables count shortest
      → {b looks : ℕ} → Leads image caches shortest at.boundary at.spans.used b looks
      → Rounding book image shortest ends₀ tokens₀ ends tokens caches (on_at at b looks)
  rounding-skims g leads = record {
    found = l.found;
    stands = leads.stands book l.right.by-skip l.right.by-pair g.read.short at refl refl l.found l.stands;
    right = l.right;
    ends-hold = l.ends-hold;
    tokens-hold = l.tokens-hold;
  }

  pub rounding-begun : at.boundary ≤ length image → Begun book image at.boundary at.hits
  rounding-begun h = record { at = at; known = known; place = refl; so_far = refl; inside = h }

  pub rounding-again : {after : Standing} {ends' tokens' : List ℕ} {caches' : Caches}
      → Goes book image at after ends ends' tokens tokens' → CachesRight book image shortest caches'
      → Rounding book image shortest ends₀ tokens₀ ends' tokens' caches' after
  rounding-again {ends' = ends'} {tokens'} g c =
      let r : room ends tokens ≡ room ends₀ tokens₀ = omega (arith, ends-long, tokens-long) in
      record {
        found = l.found ++ g.more;
        stands = g.stands l.found l.stands;
        right = c;
        ends-hold = part-on (λ h. h.0) (room ends₀ tokens₀) l.found g.more at.hits (room ends tokens) ends₀ ends ends'
            l.stands.counted r l.ends-hold g.noted.ends-hold;
        tokens-hold = part-on (λ h. h.1) (room ends₀ tokens₀) l.found g.more at.hits (room ends tokens) tokens₀ tokens tokens'
            l.stands.counted r l.tokens-hold g.noted.tokens-hold;
      }

  -- what the contract says at the end
  abbrev pub Done : Type 0
  Done = (at.hits ≡ length (hits_of (tokens_of book) image))
      × (at.fetched ≡ fetches_of (tokens_of book) image)
      × (at.spared ≡ spares_of (tokens_of book) image)
      × (ends ≡ noted (λ h. h.0) (room ends₀ tokens₀) (hits_of (tokens_of book) image) ends₀)
      × (tokens ≡ noted (λ h. h.1) (room ends₀ tokens₀) (hits_of (tokens_of book) image) tokens₀)

  pub rounding-done : length image < at.boundary → Done
  rounding-done h =
      let e = all_found book image at l.found l.stands h in
      let n = all-counted book image at l.found l.stands h in
      let all = hits_of (tokens_of book) image in (
        l.stands.counted ∙ ap length e,
        n.0,
        n.1,
        part-done (λ h. h.0) (room ends₀ tokens₀) l.found all ends₀ ends (omega arith) e l.ends-hold,
        part-done (λ h. h.1) (room ends₀ tokens₀) l.found all tokens₀ tokens (omega arith) e l.tokens-hold,
      )
