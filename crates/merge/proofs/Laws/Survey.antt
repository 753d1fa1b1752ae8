-- The survey of the second book, record by record.
use Prim.Native.Nat.{ℕ, zero, suc, ◌+◌, ◌-◌, ◌*◌, ◌≤◌, ◌<◌}
use native.Mathlib.Omega.{arith}
use mathlib.Core.Path.{◌≡◌, ap, sym, ◌∙◌}
use mathlib.Core.Bool.{Bool, true, false, ◌||◌, not}
use mathlib.Core.List.{List, [], ◌∷◌, ◌++◌, append-nil}
use Rattle.std.specs.Prelude.{Ok, Err}
use borrow.Author.Tests.{lt-ltb, le-ltb}
use lib.Dec.{ltb}
use lib.ListN.{length, get_or, take, drop, set, length-append, length-set}
use lib.Seq.{take_all, get_or-set_same, get_or-set_other}
use Rattle.rules.specs.Lists.{any_of}
use Rattle.rules.specs.Words.{words_of, is_word, all_words}
use Rattle.rules.specs.Tokens.{total, body_bytes}
use Rattle.rules.proofs.Laws.Tests.{below_suc, least-is}
use Rattle.rules.proofs.Laws.Words.{total-append, bytes-snoc, words-bytes, total-bytes}
use Rattle.book.specs.Book.{max_tokens, max_bodies, whole_at, record_place, bodies_in}
use Rattle.book.specs.Bytes.{book_of}
use Rattle.book.proofs.Laws.Accepted.{total-snoc}
use Rattle.book.proofs.Laws.Bytes.{bytes-length}
use Rattle.book.specs.declared.Totals.{Totals}
use Rattle.merge.specs.Merge.{lacks, merged, too_large, fitting, over_limits}
use Rattle.merge.specs.Steps.{Books, Surveyed}
use Rattle.merge.proofs.Laws.Walk.{Walk, walk_begins, walk_ends, walk-some, walk-body, walk-size, walk-next}
use Rattle.merge.proofs.Laws.Valid.{within}
use Rattle.merge.proofs.Laws.More.{merged-more}
use Rattle.merge.specs.declared.Refusal.TheVariants.{OverLimits}

-- each token's words are one part of all body bytes
one_of : (tokens : List (List ℕ)) (i : ℕ) → i < length tokens → total (words_of (get_or tokens i [])) ≤ body_bytes tokens
one_of [] i h = absurd (omega arith)
one_of (t ∷ ts) zero h = rw (total-append (words_of t) (all_words ts)) (omega arith)
one_of (t ∷ ts) (suc i) h = rw (total-append (words_of t) (all_words ts)) (omega (arith, one_of ts i (omega arith)))

-- What tokens come to: how many they are, the bytes of their words, and the length of their book.
pub record Sums (l : List (List ℕ)) (tokens bodies size : ℕ) : Type 0 where
  pub count : tokens ≡ length l
  pub bytes : bodies ≡ body_bytes l
  pub long : size ≡ length (book_of l)

sums-snoc : {l : List (List ℕ)} {c m z : ℕ} → Sums l c m z → (t : List ℕ)
    → Sums (l ++ (t ∷ [])) (c + 1) (m + total (words_of t)) (z + (1 + length t))
sums-snoc {l} s t = record {
  count = rw length-append (omega arith);
  bytes = rw bytes-snoc (omega arith);
  long = omega (arith, bytes-length l, bytes-length (l ++ (t ∷ [])), length-append l (t ∷ []), total-snoc l t);
}

-- The first i tokens of the second book are passed, and do not make the merged book too large; the marks and sums are theirs.
pub record Passed (first second : List ℕ) (marks : List Bool) (tokens bodies size at i : ℕ) : Type 0 where
  pub room : too_large (bodies_in second) ≡ false
  pub walk : Walk second at i
  pub sized : length marks ≡ max_tokens
  pub sums : Sums (merged (bodies_in first) (take i (bodies_in second))) tokens bodies size
  pub fits : (j : ℕ) → j ≤ i → too_large (merged (bodies_in first) (take j (bodies_in second))) ≡ false
  pub told : (j : ℕ) → j < i → get_or marks j false ≡ lacks (bodies_in first) (get_or (bodies_in second) j [])

pub begins : (first second : List ℕ) (totals : Totals) (marks : List Bool) → length marks ≡ max_tokens → Books first second totals
    → Passed first second marks totals.tokens totals.bodies (length first) 0 0
begins first second totals marks z b =
    let e : merged (bodies_in first) [] ≡ bodies_in first = append-nil (bodies_in first) in
    record {
      room = b.second_fits;
      walk = walk_begins second;
      sized = z;
      sums = rw e (record { count = b.count; bytes = b.bodies; long = ap length b.made });
      fits = λ j h. let z : j ≡ 0 = omega arith in rw (z, e) b.first_fits;
      told = λ j h. absurd (omega arith);
    }

module _ {first second : List ℕ} {marks : List Bool} {tokens bodies size at i : ℕ} (p : Passed first second marks tokens bodies size at i) where
  abbrev ts : List (List ℕ)
  ts = bodies_in first

  abbrev os : List (List ℕ)
  os = bodies_in second

  pub limits : (tokens ≤ max_tokens) × (bodies ≤ max_bodies) × (size ≤ 1 + max_tokens + max_bodies)
  limits =
      let l = merged ts (take i os) in
      let s = p.sums in
      let w = within l (p.fits i (omega arith)) in
      (omega arith, omega arith, omega (arith, bytes-length l, total-bytes l))

  -- `fitting` is the number of the tokens passed, if there is no other, or if with the next one the merged book is too large.
  first-over : (i < length os → too_large (merged ts (take (i + 1) os)) ≡ true) → fitting ts os ≡ i
  first-over g =
      let u = p.walk.upto in
      least-is (λ j. too_large (merged ts (take (j + 1) os))) 0 (length os) i (omega arith) (omega arith)
      (λ j l k. p.fits (j + 1) (omega arith)) (λ h. g (omega arith))

  -- There is no record more.
  pub ends : (n : ℕ) → n ≡ whole_at second at → n ≡ 0 → Surveyed ts os (Ok (record { marks = marks; length = size }))
  ends n e z =
      let all : i ≡ length os = walk_ends p.walk (sym e ∙ z) in
      let whole : take i os ≡ os = take_all i os (omega arith) in
      let no : over_limits ts os ≡ false =
      le-ltb (fitting ts os) (length os) (omega (arith, first-over (λ h. absurd (omega arith)))) in
      record { fits = cc (no, p.sums.long); tells = λ m q. let z : m.marks ≡ marks = cc in rw z (λ j h. p.told j (omega arith)) }

  -- what the tokens come to with the next one
  abbrev pub Next : ℕ → ℕ → ℕ → Type 0
  Next = Sums (merged ts (take (i + 1) os))

  -- A record of n body bytes stands there.
  module _ (n : ℕ) (e : n ≡ whole_at second at) (h : (n ≡ 0 → ⊥)) where
    abbrev t : List ℕ
    t = get_or os i []

    -- the body as the code takes it, where it stands in the book
    abbrev body : List ℕ
    body = take (at + 1 + n - (at + 1)) (drop (at + 1) second)

    body_is : body ≡ t
    body_is = let m : at + 1 + n - (at + 1) ≡ n = omega arith in rw (m, ← walk-body p.walk n e h)

    pub new_is : (b : Bool) → b ≡ any_of (is_word body) ts → not b ≡ lacks ts t
    new_is b q = ap not (rw body_is at q)

    some : i < length os
    some = walk-some p.walk n e h

    pub index : i < max_tokens
    index = omega (arith, some, within os p.room)

    -- The sums with the next token do not wrap.
    pub small : (w : ℕ) → w ≡ total (words_of body) → (bodies + w ≤ 3 * max_bodies) × (size + (1 + n) ≤ 3 * max_bodies)
    small w y =
        let q : w ≡ total (words_of t) = rw body_is at y in
        let part = one_of os i some in
        let room = within os p.room in
        let l = limits in
        (omega arith, omega (arith, words-bytes t, walk-size p.walk n e h))

    pub sums-new : (b : Bool) → b ≡ lacks ts t → b ≡ true → (w : ℕ) → w ≡ total (words_of body) → Next (tokens + 1) (bodies + w) (size + (1 + n))
    sums-new b q z w y =
        let new : lacks ts t ≡ true = sym q ∙ z in
        rw (merged-more ts os i some, new, y, body_is, ← walk-size p.walk n e h) (sums-snoc p.sums t)

    pub sums-old : (b : Bool) → b ≡ lacks ts t → b ≡ false → Next tokens bodies size
    sums-old b q z =
        let old : lacks ts t ≡ false = sym q ∙ z in
        rw (merged-more ts os i some, old, append-nil) p.sums

    module _ {c m l : ℕ} (s : Next c m l) (b : Bool) (o : b ≡ (ltb max_tokens c || ltb max_bodies m)) where
      judges : b ≡ too_large (merged ts (take (i + 1) os))
      judges = o ∙ cc (s.count, s.bytes)

      -- With it the merged book is too large.
      pub stops : b ≡ true → Surveyed ts os (Err (OverLimits at))
      stops z =
          let fit : fitting ts os ≡ i = first-over (λ _. sym judges ∙ z) in
          let yes : over_limits ts os ≡ true = lt-ltb (fitting ts os) (length os) (omega (arith, some)) in
          record { fits = cc (yes, p.walk.place ∙ ap (record_place os) (sym fit)); tells = λ m q. cc q }

      pub again : b ≡ false → (x : Bool) → x ≡ lacks ts t → Passed first second (set marks i x) c m l (at + 1 + n) (i + 1)
      again z x q = record {
        room = p.room;
        walk = walk-next p.walk n e h;
        sized = rw length-set p.sized;
        sums = s;
        fits = λ j u. below_suc j (i + 1) (omega arith) (λ k. p.fits j (omega arith)) (λ k. rw k (sym judges ∙ z));
        told = λ j u. below_suc j i (omega arith) (λ k. get_or-set_other marks i j x false (λ y. omega arith) ∙ p.told j k)
            (λ k. rw k (get_or-set_same marks i x false (omega (arith, p.sized, index)) ∙ q));
      }
