-- A merged book finds what its two books find: a hit, by its end and its token's bytes, is found with a book exactly if the bytes are one of
-- its tokens and a word of it stands there.
use Rattle.std.specs.Prelude.{ℕ, ◌+◌, ◌-◌, ◌≤◌, ◌≡◌, refl, Bool, true, false, ◌⊎◌, length, get_or, take, drop}
use Rattle.std.proofs.Common.{arith, ap, sym, subst, ◌∙◌, inl, inr}
use Rattle.std.proofs.Math.Logic.{⊎_map}
use mathlib.Core.List.Memᴰ
use mathlib.Core.List.{List, [], ◌∷◌, Memᴰ}
use Rattle.std.proofs.lemmas.Bool.{not-false}
use Rattle.rules.specs.Words.{is_word}
use Rattle.rules.specs.Sweep.{Stands, Once, hits_of}
use Rattle.rules.proofs.Laws.Tests.{any_of-out}
use Rattle.rules.proofs.Laws.Words.{own-word, word-length, word-shared, word-sym}
use Rattle.rules.proofs.Laws.Members.{select_in, select-out, mem-at, number_of}
use Rattle.book.specs.Book.{found, missing, unread, accepted, read_book}
use Rattle.book.proofs.Laws.Accepted.{accepted-fit}
use Rattle.book.proofs.Laws.Records.{accepted-place, accepted-body}
use Rattle.book.proofs.Laws.Sweep.{book-exact}
use Rattle.merge.specs.Merge.{lacks, merged, merge}
use Rattle.merge.proofs.Laws.Valid.{merge-reads}
use Rattle.demands.specs.Merge.{token_in, named, Sweep, Apart, Union, Valid, ValidFor, UnionFor}
use Rattle.demands.proofs.Laws.Found.{sweep-finds}

-- The merged tokens are those of the one book or of the other; the first book's stand in front, and of the second's each is there or is a
-- word of one that is.
module _ (tokens others : List (List ℕ)) where
  merged-right : (t : List ℕ) → Memᴰ t others → (u : List ℕ) × Memᴰ u (merged tokens others) × (is_word u t ≡ true)
  merged-right t m = go (lacks tokens t) refl
    where
      go : (b : Bool) → lacks tokens t ≡ b → (u : List ℕ) × Memᴰ u (merged tokens others) × (is_word u t ≡ true)
      go true e = (t, Memᴰ.append_right tokens (select_in (lacks tokens) t others m e), own-word t)
      go false e =
          let r = any_of-out (is_word t) tokens [] (not-false _ e) in
          (get_or tokens r.0 [], Memᴰ.append_left _ (mem-at [] tokens r.0 r.1), word-sym t (get_or tokens r.0 []) r.2)

  merged-only : (t : List ℕ) → Memᴰ t (merged tokens others) → Memᴰ t tokens ⊎ Memᴰ t others
  merged-only t m = elim (Memᴰ.append_cases tokens m) [ inl k ↦ inl k | inr k ↦ inr (select-out (lacks tokens) t others k).0 ]

-- A word of t stands in the image with its right edge at e.
record Lies (image : List ℕ) (e : ℕ) (t : List ℕ) : Type 0 where
  fits : length t ≤ e
  inside : e ≤ length image
  bytes : is_word (take (length t) (drop (e - length t) image)) t ≡ true

-- So does one of u, if the two are words of each other.
lies-too : (image : List ℕ) (e : ℕ) (t u : List ℕ) → is_word u t ≡ true → Lies image e t → Lies image e u
lies-too image e t u w l =
    let n : length u ≡ length t = word-length u t w in
    let x = take (length t) (drop (e - length t) image) in
    record {
      fits = rw n l.fits;
      inside = l.inside;
      bytes = rw n (word-shared t x u (word-sym x t l.bytes) (word-sym u t w));
    }

module _ (book : List ℕ) (tokens : List (List ℕ)) (read : read_book book ≡ accepted tokens) (image : List ℕ) where
  token-is : (i : ℕ) → 1 ≤ i → i ≤ length tokens → token_in book i ≡ get_or tokens (i - 1) []
  token-is i h k = rw (accepted-place book tokens read i h k, token_in) (accepted-body book tokens read i h k)

  -- A hit, with its token's bytes.
  record Hit (h : ℕ × ℕ) : Type 0 where
    some : 1 ≤ h.1
    stands : Stands tokens image h.0 (h.1 - 1)
    token : token_in book h.1 ≡ get_or tokens (h.1 - 1) []

  is-hit : (h : ℕ × ℕ) → Memᴰ h (hits_of tokens image) → Hit h
  is-hit h m =
      let s = (book-exact book tokens read image).occurrences.sound h.0 h.1 m in
      record { some = s.1; stands = s.0; token = token-is h.1 s.1 (omega (arith, s.1, s.0.numbered)) }

  -- What is found: the tokens that stand in the image, each where it stands and one time.
  abbrev hits : List (ℕ × List ℕ)
  hits = named book (hits_of tokens image)

  hits-out : (h : ℕ × List ℕ) → Memᴰ h hits → Memᴰ h.1 tokens × Lies image h.0 h.1
  hits-out h m =
      let r = Memᴰ.of_map _ (hits_of tokens image) m in
      let k = is-hit r.0 r.1 in
      let s = k.stands in
      subst (λ h. Memᴰ h.1 tokens × Lies image h.0 h.1) r.2
      (rw k.token (mem-at [] tokens _ s.numbered), rw k.token (record { fits = s.fits; inside = s.inside; bytes = s.bytes }))

  hits-in : (h : ℕ × List ℕ) → Memᴰ h.1 tokens → Lies image h.0 h.1 → Memᴰ h hits
  hits-in h m l =
      let r = number_of [] tokens m in
      let i = r.0 in
      let s : Stands tokens image h.0 i =
      record { numbered = r.1; fits = rw r.2 l.fits; inside = l.inside; bytes = rw r.2 l.bytes } in
      let z : i + 1 - 1 ≡ i = omega arith in
      let t : h.1 ≡ token_in book (i + 1) = sym (rw z at (token-is (i + 1) (omega arith) (omega (arith, r.1))) ∙ r.2) in
      Memᴰ.cast (λ j. (h.0, t j)) (Memᴰ.map _ ((book-exact book tokens read image).occurrences.complete h.0 i s))

  same-hit : (g h : ℕ × ℕ) → Hit g → Hit h → g.0 ≡ h.0 → is_word (token_in book g.1) (token_in book h.1) ≡ true → g ≡ h
  same-hit g h a b p w =
      let i = (accepted-fit book tokens read).distinct (g.1 - 1) (h.1 - 1) a.stands.numbered b.stands.numbered (rw (a.token, b.token) at w) in
      let q : g.1 ≡ h.1 = omega (arith, i, a.some, b.some) in
      λ d. (p d, q d)

  named-once : (l : List (ℕ × ℕ)) → ((h : ℕ × ℕ) → Memᴰ h l → Hit h) → Once l → Apart (named book l)
  named-once [] f o = tt
  named-once (h ∷ l) f o = (
    λ m.
        let r = Memᴰ.of_map _ l m.1 in
        let p = ap (λ g. g.0) r.2 ∙ m.2 in
        let w = subst (λ g. is_word g.1 (token_in book h.1) ≡ true) (sym r.2) m.3 in
        o.0 (Memᴰ.cast (sym (same-hit r.0 h (f r.0 (Memᴰ.tail r.1)) (f h (Memᴰ.head refl)) p w)) r.1),
    named-once l (λ g m. f g (Memᴰ.tail m)) o.1,
  )

  hits-once : Apart hits
  hits-once = named-once (hits_of tokens image) is-hit (book-exact book tokens read image).occurrences.once

from-valid : (first second book : List ℕ) → Valid first second book → (image : List ℕ) (one two all : List (ℕ × ℕ))
    → Sweep first image one → Sweep second image two → Sweep book image all → Union (named first one) (named second two) (named book all)
from-valid first second book v image one two all s₁ s₂ s =
    let tokens = v.tokens in
    let others = v.others in
    let both = merged tokens others in
    rw (
      sweep-finds first tokens v.reads_first image one s₁,
      sweep-finds second others v.reads_second image two s₂,
      sweep-finds book both v.reads image all s,
    )
    (record {
      left = λ h m.
          let r = hits-out first tokens v.reads_first image h m in
          hits-in book both v.reads image h (Memᴰ.append_left _ r.0) r.1;
      right = λ h m.
          let r = hits-out second others v.reads_second image h m in
          let u = merged-right tokens others h.1 r.0 in
          ((h.0, u.0), hits-in book both v.reads image (h.0, u.0) u.1 (lies-too image h.0 h.1 u.0 u.2 r.1), refl, u.2);
      only = λ h m.
          let r = hits-out book both v.reads image h m in
          ⊎_map (λ k. hits-in first tokens v.reads_first image h k r.1) (λ k. hits-in second others v.reads_second image h k r.1)
          (merged-only tokens others h.1 r.0);
      once = hits-once book both v.reads image;
    })

pub valid : ValidFor
unfolding ValidFor
valid first second out n e =
    let w = merge-reads first second out n e in
    record { tokens = w.0; others = w.1; reads_first = w.2; reads_second = w.3; reads = w.4 }

pub union : UnionFor
unfolding ValidFor UnionFor
union first second out n e = from-valid first second (take n (merge first second out).out) (valid first second out n e)
