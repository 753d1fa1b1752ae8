-- At most 68 tokens end at one place: there are 68 kinds, and two tokens of one kind that end at one place, in whichever
-- order, are the same.
use Rattle.std.specs.Prelude.{ℕ, zero, suc, ◌+◌, ◌-◌, ◌*◌, ◌≤◌, ◌<◌, ◌≡◌, refl, ltb, length, get_or}
use Rattle.std.proofs.Common.{arith, ap, sym, ◌∙◌, lt-ltb, ltb-true, ltb-false}
use mathlib.Core.List.Memᴰ
use mathlib.Core.List.{List, [], ◌∷◌, ◌++◌, map, map-append, Memᴰ}
use Rattle.std.proofs.lemmas.List.{length-map}
use Rattle.std.proofs.Math.ListN.{get_or-map}
use Rattle.rules.specs.Lists.{select, All}
use Rattle.rules.specs.Sweep.{Stands, Once, Occurrences, hits_of}
use Rattle.rules.proofs.Laws.Tests.{decide}
use Rattle.rules.proofs.Laws.All.{all_append}
use Rattle.rules.proofs.Laws.Exact.{happens-exact}
use Rattle.rules.proofs.Laws.Exact.Events.{stands_same}
use Rattle.rules.proofs.Laws.Members.{select-out}
use Rattle.book.specs.Book.{read_book, accepted, body_length, kind_at, body_at, size_at}
use Rattle.book.proofs.Laws.Taken.{Taken, opened-length, accepted-keeps}
use Rattle.book.proofs.Laws.Accepted.{accepted-setting}
use Rattle.listing.specs.Parts.{max_hits, max_part}
use Rattle.listing.proofs.Laws.Part.{pair}
use Rattle.listing.proofs.Laws.Whole.{select-all}

-- A list of different numbers below m has at most m.
abbrev Apart : List ℕ → Type 0
Apart [] = Unit {0}
Apart (a ∷ l) = (Memᴰ a l → ⊥) × Apart l

abbrev Below : ℕ → List ℕ → Type 0
Below m l = (a : ℕ) → Memᴰ a l → a < m

abbrev less : ℕ → List ℕ → List ℕ
less m = select (λ a. ltb a m)

less-apart : (m : ℕ) (l : List ℕ) → Apart l → Apart (less m l)
less-apart m [] o = tt
less-apart m (a ∷ l) o =
    decide Apart (ltb a m) _ _ (λ _. ((λ k. o.0 (select-out (λ a. ltb a m) a l k).0), less-apart m l o.1)) (λ _. less-apart m l o.1)

one_more_lem : (m : ℕ) (l : List ℕ) → Apart l → Below (suc m) l → length l ≤ suc (length (less m l))
one_more_lem m [] o b = omega arith
one_more_lem m (a ∷ l) o b =
    decide (λ r. suc (length l) ≤ suc (length r)) (ltb a m) _ _ (λ _. omega (arith, one_more_lem m l o.1 (λ x k. b x (Memᴰ.tail k))))
    (λ f.
    let z : a ≡ m = omega (arith, ltb-false a m f, b a (Memᴰ.head refl)) in
    let e : less m l ≡ l = select-all (λ a. ltb a m) l λ x k.
    let other : x ≡ m → ⊥ = λ y. o.0 (Memᴰ.cast (z ∙ sym y) k) in
    lt-ltb x m (omega (arith, b x (Memᴰ.tail k))) in
    omega (arith, ap length e))

below-few : (m : ℕ) (l : List ℕ) → Apart l → Below m l → length l ≤ m
below-few zero [] o b = omega arith
below-few zero (a ∷ l) o b = absurd (omega (arith, b a (Memᴰ.head refl)))
below-few (suc m) l o b =
    omega (
      arith,
      one_more_lem m l o b,
      below-few m (less m l) (less-apart m l o) (λ a k. ltb-true a m (select-out (λ a. ltb a m) a l k).1),
    )

-- The kinds of the tokens, one after the other.
pub record Kinds (tokens : List (List ℕ)) (kinds : List ℕ) : Type 0 where
  pub lengths : map body_length kinds ≡ map length tokens
  pub known : All (λ k. (1 ≤ k) × (k ≤ 68)) kinds

all-at : (P : ℕ → Type 0) (l : List ℕ) (i : ℕ) → i < length l → All P l → P (get_or l i 0)
all-at P [] i h a = absurd (omega arith)
all-at P (x ∷ l) zero h a = a.0
all-at P (x ∷ l) (suc i) h a = all-at P l i (omega arith) a.1

module _ (book : List ℕ) (tokens : List (List ℕ)) (read : read_book book ≡ accepted tokens) where
  more : (at : ℕ) (ts : List (List ℕ)) → Taken book at ts → (ks : List ℕ) × Kinds ts ks → (ks : List ℕ) × Kinds (ts ++ (body_at book at ∷ [])) ks
  more at ts t k = let o = t.opened in
      let long = opened-length book at o in
      let opens = o.opens in (
        k.0 ++ (kind_at book at ∷ []),
        record {
          lengths = rw (map-append, map-append, long) (ap (λ l. l ++ (size_at book at ∷ [])) k.1.lengths);
          known = all_append _ k.0 _ k.1.known ((omega arith, o.known), tt);
        },
      )

  kinds_of : (ks : List ℕ) × Kinds tokens ks
  kinds_of = (accepted-keeps book (λ _ ts. (ks : List ℕ) × Kinds ts ks) more tokens read ([], record { lengths = refl; known = tt })).0.1

  module _ (image ks : List ℕ) (kinds : Kinds tokens ks) where
    found : Occurrences tokens image (hits_of tokens image)
    found = (happens-exact tokens (accepted-setting book tokens read) image).occurrences

    -- the number of a hit, among 68 for each end
    abbrev key : ℕ × ℕ → ℕ
    key h = 68 * (h.0 - 1) + (get_or ks (h.1 - 1) 0 - 1)

    -- what holds of one
    record Keyed (h : ℕ × ℕ) : Type 0 where
      stands : Stands tokens image h.0 (h.1 - 1)
      numbered : 1 ≤ h.1
      kind : length (get_or tokens (h.1 - 1) []) ≡ body_length (get_or ks (h.1 - 1) 0)
      some : (1 ≤ get_or ks (h.1 - 1) 0) × (get_or ks (h.1 - 1) 0 ≤ 68)
      right : 1 ≤ h.0

    keyed : (h : ℕ × ℕ) → Memᴰ h (hits_of tokens image) → Keyed h
    keyed h m =
        let s = found.sound h.0 h.1 m in
        let i = h.1 - 1 in
        let b = accepted-setting book tokens read in
        let l : length ks ≡ length tokens = sym (length-map ks body_length) ∙ ap length kinds.lengths ∙ length-map tokens length in
        record {
          stands = s.0;
          numbered = s.1;
          kind = sym (get_or-map length tokens i []) ∙ ap (λ l. get_or l i 0) (sym kinds.lengths) ∙ get_or-map body_length ks i 0;
          some = all-at (λ k. (1 ≤ k) × (k ≤ 68)) ks i (omega (arith, s.0.numbered)) kinds.known;
          right = omega (arith, s.0.fits, b.shortest i s.0.numbered, b.positive);
        }

    same_key : (g h : ℕ × ℕ) → Keyed g → Keyed h → key g ≡ key h → g ≡ h
    same_key g h a b q =
        let e : g.0 ≡ h.0 = omega arith in
        let k : get_or ks (g.1 - 1) 0 ≡ get_or ks (h.1 - 1) 0 = omega arith in
        let l : length (get_or tokens (g.1 - 1) []) ≡ length (get_or tokens (h.1 - 1) []) = a.kind ∙ ap body_length k ∙ sym b.kind in
        let i = stands_same tokens image (accepted-setting book tokens read) h.0 (g.1 - 1) (h.1 - 1) (rw e at a.stands) b.stands l in
        pair g h e (omega (arith, a.numbered, b.numbered))

    apart : (l : List (ℕ × ℕ)) → Once l → ((h : ℕ × ℕ) → Memᴰ h l → Keyed h) → Apart (map key l)
    apart [] o f = tt
    apart (h ∷ l) o f = (
      λ m.
          let r = Memᴰ.of_map key l m in
          o.0 (Memᴰ.cast (sym (same_key r.0 h (f r.0 (Memᴰ.tail r.1)) (f h (Memᴰ.head refl)) r.2)) r.1),
      apart l o.1 (λ g m. f g (Memᴰ.tail m)),
    )

    few : length (hits_of tokens image) ≤ 68 * length image
    few =
        let l = hits_of tokens image in
        omega (
          arith,
          length-map l key,
          below-few (68 * length image) (map key l) (apart l found.once keyed)
              (λ a m.
              let r = Memᴰ.of_map key l m in
              let k = keyed r.0 r.1 in
              omega (arith, k.stands.inside, k.some.1, k.right, r.2)),
        )

  -- A part's hits fit the buffers.
  pub fits : (image : List ℕ) → length (hits_of tokens image) ≤ 68 * length image
  fits image = few image kinds_of.0 kinds_of.1

  pub part-fits : (part : List ℕ) → length part ≤ max_part → length (hits_of tokens part) ≤ max_hits
  part-fits part h = omega (arith, fits part)
