-- The first 256 + 16,384 + 1 + 1,024 bytes of a book tell how it is read: at most 256 kinds and 16,384 body bytes are taken, and the next
-- record is judged by its kind and at most 1,024 bytes more.
use Rattle.std.specs.Prelude.{ℕ, zero, suc, ◌+◌, ◌≤◌, ◌<◌, ◌≡◌, refl, Bool, true, false, ◌||◌, List, [], ◌∷◌, ◌++◌, leb, ltb, eqb, length, take, drop}
use Rattle.std.proofs.Common.{arith, ap, sym, ◌∙◌, lt-ltb, le-ltb, eq-eqb, ne_eqb, leb-true, leb-false, ltb-true, ltb-false, eqb-true, length-append, length-drop, take-append-drop, length-take-le, take_all}
use Rattle.std.proofs.lemmas.Bool.{lt-leb, eqb-false}
use Rattle.std.proofs.Math.ListN.{get_or-append}
use Rattle.std.proofs.lemmas.List.{take-append-le, drop-append-le}
use Rattle.rules.specs.Lists.{any_of}
use Rattle.rules.specs.Words.{words_of, is_word}
use Rattle.rules.specs.Tokens.{total, body_bytes}
use Rattle.rules.proofs.Laws.Tests.{decide, or-nl, or-nr}
use Rattle.rules.proofs.Laws.Words.{total-bytes, bytes-snoc}
use Rattle.book.specs.Book.{Reading, refused, max_tokens, max_bodies, max_body, body_length, kind_at, size_at, body_at, over_limits, repeats, closed, read_from, read_book, needed}
use Rattle.book.proofs.Laws.Accepted.{total-snoc}
use Rattle.book.proofs.Laws.Taken.{Opened, body_length-range, opened-length}

-- Two choices by one test are alike where they are alike on each side.
alike : {X : Type 0} (t : Bool) (x x' y y' : X) → (t ≡ true → x ≡ x') → (t ≡ false → y ≡ y')
    → ◌≡◌ {A = X} (elim t [ true ↦ x | false ↦ y ]) (elim t [ true ↦ x' | false ↦ y' ])
alike true x x' y y' f g = f refl
alike false x x' y y' f g = g refl

-- The ways on from a whole record, by the length of its body and the body.
abbrev pub ways : (ℕ → List (List ℕ) → Reading) → ℕ → List (List ℕ) → ℕ → List ℕ → Reading
ways rest at ts size body =
    elim (leb max_tokens (length ts) || ltb max_bodies (body_bytes ts + total (words_of body))) [
      | true ↦ refused 5 at
      | false ↦ elim (any_of (is_word body) ts) [ true ↦ refused 4 at | false ↦ rest (at + 1 + size) (ts ++ (body ∷ [])) ]
    ]

-- What the reader answers at place `at`, by the kind there.
module _ (book : List ℕ) (fuel at : ℕ) (ts : List (List ℕ)) (h : at < length book) where
  unknown : 68 < kind_at book at → read_from book (suc fuel) at ts ≡ refused 2 at
  unknown k = rw (lt-leb (length book) at h, lt-ltb 68 (kind_at book at) k, read_from)

  closing : kind_at book at ≡ 0 → at + 1 < length book → read_from book (suc fuel) at ts ≡ refused 3 (at + 1)
  closing z l =
      rw (lt-leb (length book) at h, le-ltb 68 (kind_at book at) (omega arith), eq-eqb (kind_at book at) 0 z, read_from)
      (rw (lt-ltb (at + 1) (length book) l, closed))

  pub opening : Opened book at → read_from book (suc fuel) at ts ≡ ways (read_from book fuel) at ts (size_at book at) (body_at book at)
  opening o =
      rw (
        lt-leb (length book) at h,
        le-ltb 68 (kind_at book at) o.known,
        ne_eqb (kind_at book at) 0 o.opens,
        le-ltb (length book) (at + 1 + size_at book at) o.inside,
        read_from,
      )

-- A long part p of a book, and the rest q.
module _ (p q : List ℕ) (long : needed ≤ length p) where
  -- The record at a place has the same kind, and the same body, in both.
  kind : (at : ℕ) → at < length p → kind_at (p ++ q) at ≡ kind_at p at
  kind at h = get_or-append p q 0 at h

  body : (at n : ℕ) → at + n ≤ length p → take n (drop at (p ++ q)) ≡ take n (drop at p)
  body at n h = rw (drop-append-le at p q (omega arith), take-append-le n (drop at p) q (rw length-drop (omega arith)))

  -- With so much fuel, reading on from any place that can be reached answers the same.
  abbrev Same : ℕ → ℕ → Type 0
  Same f g = (at : ℕ) (ts : List (List ℕ)) → at ≡ length ts + total ts → length ts ≤ max_tokens → body_bytes ts ≤ max_bodies
      → length p < at + f → length p + length q < at + g → read_from p f at ts ≡ read_from (p ++ q) g at ts

  module _ (f g at : ℕ) (ts : List (List ℕ)) (z : at ≡ length ts + total ts) (few : length ts ≤ max_tokens) (small : body_bytes ts ≤ max_bodies)
      (hf : length p < at + suc f) (hg : length p + length q < at + suc g) (again : Same f g) where
    short : total ts ≤ max_bodies
    short = omega (arith, total-bytes ts)

    hp : at < length p
    hp = omega (arith, short)

    hq : at < length (p ++ q)
    hq = rw length-append (omega (arith, short))

    e : kind_at (p ++ q) at ≡ kind_at p at
    e = kind at hp

    module _ (k : kind_at p at ≤ 68) (n : kind_at p at ≡ 0 → ⊥) where
      size : size_at p at ≤ max_body
      size = (body_length-range (kind_at p at) (omega arith) k).1

      whole : Opened p at
      whole = record { there = hp; known = k; opens = n; inside = omega (arith, size, short) }

      whole' : Opened (p ++ q) at
      whole' = record { there = hq; known = rw e k; opens = rw e n; inside = rw (e, length-append) (omega (arith, size, short)) }

      d : body_at (p ++ q) at ≡ body_at p at
      d = rw e (body (at + 1) (size_at p at) whole.inside)

      next : over_limits p at ts ≡ false
          → read_from p f (at + 1 + size_at p at) (ts ++ (body_at p at ∷ [])) ≡ read_from (p ++ q) g (at + 1 + size_at p at) (ts ++ (body_at p at ∷ []))
      next v =
          let b = opened-length p at whole in
          again (at + 1 + size_at p at) (ts ++ (body_at p at ∷ []))
          (rw (length-append, total-snoc) (omega arith))
          (rw length-append (omega (arith, leb-false max_tokens (length ts) (or-nl _ _ v))))
          (rw bytes-snoc (ltb-false max_bodies (body_bytes ts + total (words_of (body_at p at))) (or-nr (leb max_tokens (length ts)) _ v)))
          (omega arith) (omega arith)

      record-at : read_from p (suc f) at ts ≡ read_from (p ++ q) (suc g) at ts
      record-at =
          opening p f at ts hp whole
          ∙ (alike (over_limits p at ts) _ _ _ _ (λ _. refl) (λ v. alike (repeats p at ts) _ _ _ _ (λ _. refl) (λ _. next v))
          ∙ sym (opening (p ++ q) g at ts hq whole'
          ∙ ap (λ size. ways (read_from (p ++ q) g) at ts size (body_at (p ++ q) at)) (ap body_length e)
          ∙ ap (ways (read_from (p ++ q) g) at ts (size_at p at)) d))

    any-kind : read_from p (suc f) at ts ≡ read_from (p ++ q) (suc g) at ts
    any-kind =
        decide {X = ℕ} (λ _. read_from p (suc f) at ts ≡ read_from (p ++ q) (suc g) at ts) (ltb 68 (kind_at p at)) 0 0
        (λ t. unknown p f at ts hp (ltb-true 68 (kind_at p at) t) ∙ sym (unknown (p ++ q) g at ts hq (rw e (ltb-true 68 (kind_at p at) t))))
        (λ k. decide {X = ℕ} (λ _. read_from p (suc f) at ts ≡ read_from (p ++ q) (suc g) at ts) (eqb (kind_at p at) 0) 0 0
        (λ t.
        closing p f at ts hp (eqb-true (kind_at p at) 0 t) (omega (arith, short))
        ∙ sym (closing (p ++ q) g at ts hq (e ∙ eqb-true (kind_at p at) 0 t) (rw length-append (omega (arith, short)))))
        (λ n. record-at (ltb-false 68 (kind_at p at) k) (eqb-false (kind_at p at) 0 n)))

  same_from : (f g : ℕ) → Same f g
  same_from zero g at ts z few small hf hg = absurd (omega (arith, total-bytes ts))
  same_from (suc f) zero at ts z few small hf hg = absurd (omega (arith, total-bytes ts))
  same_from (suc f) (suc g) at ts z few small hf hg = any-kind f g at ts z few small hf hg (same_from f g)

-- A book is read as its first `n` bytes are, where that is enough.
pub enough : (n : ℕ) → needed ≤ n → (book : List ℕ) → read_book (take n book) ≡ read_book book
enough n h book =
    decide {X = ℕ} (λ _. read_book (take n book) ≡ read_book book) (leb (length book) n) 0 0
    (λ t. ap read_book (take_all n book (leb-true (length book) n t)))
    (λ f. long (leb-false (length book) n f))
  where
    long : n < length book → read_book (take n book) ≡ read_book book
    long l =
        let z : length (take n book) ≡ n = length-take-le n book (omega arith) in
        let s : length (take n book ++ drop n book) ≡ length (take n book) + length (drop n book) = length-append (take n book) (drop n book) in
        same_from (take n book) (drop n book) (omega arith) (suc (length (take n book))) (suc (length (take n book ++ drop n book))) 0 []
        (omega arith) (omega arith) (omega arith) (omega arith) (omega arith)
        ∙ ap read_book (take-append-drop n book)
