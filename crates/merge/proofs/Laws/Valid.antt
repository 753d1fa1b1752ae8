-- The merged tokens are those of a book: each has a kind's length, none is a word of another, and they are within the limits. So what merging
-- writes is read as them.
use Rattle.std.specs.Prelude.{ℕ, zero, suc, ◌+◌, ◌-◌, ◌≤◌, ◌<◌, ◌≡◌, refl, true, false, ◌⊎◌, ltb, length, get_or, take, drop}
use Rattle.std.proofs.Common.{arith, ap, sym, ◌∙◌, inl, inr, ltb-false, length-append, take_all}
use mathlib.Core.List.Memᴰ
use mathlib.Core.List.{List, [], ◌∷◌, Memᴰ}
use Rattle.std.proofs.lemmas.Bool.{not-true}
use Rattle.std.proofs.Math.Seq.{take-append_seam}
use Rattle.rules.specs.Lists.{select, any_of, over, All}
use Rattle.rules.specs.Words.{is_word}
use Rattle.rules.specs.Tokens.{body_bytes}
use Rattle.rules.specs.Sweep.{Once}
use Rattle.rules.proofs.Laws.Tests.{decide, clash, false-test, or-nl, or-nr, any_of-in, least-le}
use Rattle.rules.proofs.Laws.All.{all_append, all-select}
use Rattle.rules.proofs.Laws.Words.{own-word, word-sym}
use Rattle.rules.proofs.Laws.Members.{select-out, mem-at, number_of, distinct-once, once-distinct, once-select, once-append}
use Rattle.book.specs.Book.{Reading, accepted, refused, max_tokens, max_bodies, max_body, read_book}
use Rattle.book.specs.Bytes.{book_of}
use Rattle.book.proofs.Laws.Taken.{body_length-range}
use Rattle.book.proofs.Laws.Accepted.{Fit, accepted-fit, accepted-some}
use Rattle.book.proofs.Laws.Bytes.{Kinded, accepted-kinded, read-bytes}
use Rattle.merge.specs.Merge.{lacks, merged, too_large, fitting, over_limits, too_short, Answer, wrote, first_bad, second_bad, limits_passed, no_room, verdict, Merging, join, merge}

-- so many tokens, and body bytes, are within the limits
pub within : (tokens : List (List ℕ)) → too_large tokens ≡ false → (length tokens ≤ max_tokens) × (body_bytes tokens ≤ max_bodies)
within tokens f = (
  ltb-false max_tokens (length tokens) (or-nl _ _ f),
  ltb-false max_bodies (body_bytes tokens) (or-nr (ltb max_tokens (length tokens)) _ f),
)

all-at : (P : List ℕ → Type 0) (l : List (List ℕ)) → All P l → (i : ℕ) → i < length l → P (get_or l i [])
all-at P [] a i h = absurd (omega arith)
all-at P (t ∷ l) a zero h = a.0
all-at P (t ∷ l) a (suc i) h = all-at P l a.1 i (omega arith)

kinded-range : (t : List ℕ) → Kinded t → (1 ≤ length t) × (length t ≤ max_body)
kinded-range t k = rw k.size (body_length-range k.kind k.some k.known)

-- No token of a book is a word of another: each stands one time, and where one is a word of one, the two are the same.
module _ (ts : List (List ℕ)) (f : Fit ts) where
  fit-once : Once ts
  fit-once = distinct-once [] ts (λ i j h k e. f.distinct i j h k (rw e (own-word (get_or ts j []))))

  fit-alone : {t u : List ℕ} → Memᴰ t ts → Memᴰ u ts → is_word t u ≡ true → t ≡ u
  fit-alone m k e =
      let r = number_of [] ts m in
      let q = number_of [] ts k in
      let z = f.distinct r.0 q.0 r.1 q.1 (rw (r.2, q.2) e) in
      sym r.2 ∙ ap (λ i. get_or ts i []) z ∙ q.2

module _ (first second : List ℕ) (tokens others : List (List ℕ)) (one : read_book first ≡ accepted tokens) (two : read_book second ≡ accepted others) where
  -- what the first lacks of the second
  abbrev late : List (List ℕ)
  late = select (lacks tokens) others

  kinded : All Kinded (merged tokens others)
  kinded =
      all_append Kinded tokens late (accepted-kinded first tokens one)
      (all-select Kinded (lacks tokens) others (accepted-kinded second others two))

  apart : {t u : List ℕ} → Memᴰ t tokens → Memᴰ u late → is_word u t ≡ true → ⊥
  apart {u = u} m k e =
      let r = number_of [] tokens m in
      clash (any_of (is_word u) tokens) (any_of-in (is_word u) tokens [] r.0 r.1 (rw r.2 e))
      (not-true _ (select-out (lacks tokens) u others k).1)

  once : Once (merged tokens others)
  once =
      once-append tokens late (fit-once tokens (accepted-fit first tokens one))
      (once-select (lacks tokens) others (fit-once others (accepted-fit second others two))) (λ t m k. apart m k (own-word t))

  alone : (t u : List ℕ) → Memᴰ t (merged tokens others) → Memᴰ u (merged tokens others) → is_word t u ≡ true → t ≡ u
  alone t u m k e = go (Memᴰ.append_cases tokens m) (Memᴰ.append_cases tokens k)
    where
      go : Memᴰ t tokens ⊎ Memᴰ t late → Memᴰ u tokens ⊎ Memᴰ u late → t ≡ u
      go (inl a) (inl b) = fit-alone tokens (accepted-fit first tokens one) a b e
      go (inl a) (inr b) = absurd (apart a b (word-sym t u e))
      go (inr a) (inl b) = absurd (apart b a e)
      go (inr a) (inr b) =
          fit-alone others (accepted-fit second others two) (select-out (lacks tokens) t others a).0 (select-out (lacks tokens) u others b).0 e

  fit : too_large (merged tokens others) ≡ false → Fit (merged tokens others)
  fit f =
      let l = merged tokens others in
      record {
        each = λ i h. kinded-range _ (all-at Kinded l kinded i h);
        count = (within l f).0;
        bodies = (within l f).1;
        distinct = λ i j h k e. once-distinct [] l once i j h k (alone _ _ (mem-at [] l i h) (mem-at [] l j k) e);
      }

  merged-read : too_large (merged tokens others) ≡ false → read_book (book_of (merged tokens others)) ≡ accepted (merged tokens others)
  merged-read f =
      read-bytes (merged tokens others) kinded (fit f) (rw length-append (omega (arith, accepted-some first tokens one)))

  -- Where no token of the second is over the limits, all are within them.
  all_fit : over_limits tokens others ≡ false → too_large (merged tokens others) ≡ false
  all_fit f = false-test (too_large (merged tokens others)) λ t.
      let n = length others - 1 in
      let some = accepted-some second others two in
      let all : take (n + 1) others ≡ others = take_all (n + 1) others (omega arith) in
      let l = ltb-false (fitting tokens others) (length others) f in
      omega (arith, least-le (λ i. too_large (merged tokens (take (i + 1) others))) 0 (length others) n (omega arith) (rw all t))

module _ (first second out : List ℕ) (n : ℕ) where
  -- What merging writes when it is not refused is read as the merged tokens of the two books.
  abbrev Gives : Merging → Type 0
  Gives m = m.answer ≡ wrote n → (tokens : List (List ℕ)) × (others : List (List ℕ)) × (read_book first ≡ accepted tokens)
      × (read_book second ≡ accepted others) × (read_book (take n m.out) ≡ accepted (merged tokens others))

  refuses : (a : Answer) (k v : ℕ) → verdict a ≡ refused k v → Gives (record { answer = a; out = out })
  refuses a k v z e = absurd (let q = ap verdict e in let z : ◌≡◌ {A = ℕ} 0 1 = cc in omega arith)

  by-join : (tokens others : List (List ℕ)) → read_book first ≡ accepted tokens → read_book second ≡ accepted others → Gives (join tokens others out)
  by-join tokens others one two =
      let book = book_of (merged tokens others) in
      decide Gives (over_limits tokens others) _ _ (λ _. refuses (limits_passed _) 5 _ refl)
      (λ f. decide Gives (too_short out book) _ _ (λ _. refuses (no_room _) 14 _ refl)
      (λ _ e.
      let z : n ≡ length book = cc in
      let b : take n (over book out) ≡ book = rw z (take-append_seam book (drop (length book) out)) in
      (tokens, others, one, two, rw b (merged-read first second tokens others one two (all_fit first second tokens others one two f)))))

  by-second : (tokens : List (List ℕ)) → read_book first ≡ accepted tokens → (r : Reading) → read_book second ≡ r
      → Gives (elim r [ refused k v ↦ record { answer = second_bad k; out = out } | accepted others ↦ join tokens others out ])
  by-second tokens one (refused k v) e = refuses (second_bad k) 13 k refl
  by-second tokens one (accepted others) e = by-join tokens others one e

  by_first : (r : Reading) → read_book first ≡ r
      → Gives (elim r [
        | refused k v ↦ record { answer = first_bad k v; out = out }
        | accepted tokens ↦ elim (read_book second) [
          | refused k v ↦ record { answer = second_bad k; out = out }
          | accepted others ↦ join tokens others out
        ]
      ])
  by_first (refused k v) e = refuses (first_bad k v) k v refl
  by_first (accepted tokens) e = by-second tokens e (read_book second) refl

  pub merge-reads : Gives (merge first second out)
  merge-reads = by_first (read_book first) refl
