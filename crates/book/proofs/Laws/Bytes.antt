-- What the bytes of an accepted book are, and that a book made of tokens is read as them.
use Rattle.std.specs.Prelude.{ℕ, zero, suc, ◌+◌, ◌≤◌, ◌<◌, ◌≡◌, refl, false, List, [], ◌∷◌, ◌++◌, eqb, length, take, drop}
use Rattle.std.proofs.Common.{arith, add-one, ap, sym, ◌∙◌, append_assoc, append-nil, le-ltb, eq-eqb, ne_eqb, eqb-true, length-append, length-drop, take_all, take-suc, drop-cons, get_or-drop, drop-drop, take-add, take_at, drop_at}
use Rattle.std.proofs.lemmas.Bool.{lt-leb}
use Rattle.std.proofs.Math.ListN.{get_or-append}
use Rattle.std.proofs.Math.Seq.{append_snoc, get_or-append_seam}
use Rattle.rules.specs.Lists.{any_of, All}
use Rattle.rules.specs.Words.{words_of, is_word, all_words}
use Rattle.rules.specs.Tokens.{total, body_bytes}
use Rattle.rules.proofs.Laws.All.{all_append}
use Rattle.rules.proofs.Laws.Tests.{false-test, split, any_of-out, every-at}
use Rattle.rules.proofs.Laws.Words.{total-append, bytes-append}
use Rattle.book.specs.Book.{accepted, max_tokens, max_bodies, body_length, kind_at, size_at, body_at, whole_at, closed, read_from, read_book}
use Rattle.book.specs.Bytes.{kind_of, records_of, book_of}
use Rattle.book.proofs.Laws.Accepted.{Fit}
use Rattle.book.proofs.Laws.Taken.{Opened, Taken, Closed, whole_is, whole-closed, whole-some, opened-length, accepted-keeps}
use Rattle.book.proofs.Laws.Prefix.{ways, opening}

kind-of : (kind : ℕ) → 1 ≤ kind → kind ≤ 68 → kind_of (body_length kind) ≡ kind
kind-of zero h k = absurd (omega arith)
kind-of (suc n) h k = eqb-true _ _ (every-at 68 (λ n. eqb (kind_of (body_length (suc n))) (suc n)) refl n (omega arith))

-- The body has the length of some kind.
pub record Kinded (t : List ℕ) : Type 0 where
  pub kind : ℕ
  pub some : 1 ≤ kind
  pub known : kind ≤ 68
  pub size : length t ≡ body_length kind

kinded-kind : (t : List ℕ) (k : Kinded t) → kind_of (length t) ≡ k.kind
kinded-kind t k = rw k.size (kind-of k.kind k.some k.known)

abbrev opened-kinded : (book : List ℕ) (at : ℕ) → Opened book at → Kinded (body_at book at)
opened-kinded book at o =
    let z = o.opens in
    record { kind = kind_at book at; some = omega arith; known = o.known; size = opened-length book at o }

pub records-append : (ts us : List (List ℕ)) → records_of (ts ++ us) ≡ records_of ts ++ records_of us
records-append [] us = refl
records-append (t ∷ ts) us = rw (records-append ts us, append_assoc)

records-length : (ts : List (List ℕ)) → length (records_of ts) ≡ length ts + total ts
records-length [] = omega arith
records-length (t ∷ ts) = rw length-append (omega (arith, records-length ts))

pub bytes-length : (tokens : List (List ℕ)) → length (book_of tokens) ≡ 1 + length tokens + total tokens
bytes-length tokens = rw length-append (omega (arith, records-length tokens))

-- The record of a token between others.
bytes-seam : (ts : List (List ℕ)) (t : List ℕ) (us : List (List ℕ)) → book_of (ts ++ t ∷ us) ≡ records_of ts ++ kind_of (length t) ∷ (t ++ book_of us)
bytes-seam ts t us = simp (records-append, append_assoc)

kind-last : (book : List ℕ) (at : ℕ) → at < length book → take (at + 1) book ≡ take at book ++ (kind_at book at ∷ [])
kind-last book at h = rw (add-one, take-suc book at 0)

-- Where the bytes before a record that is taken are the records of the tokens before it, its own bytes are its record.
bytes-more : (book : List ℕ) (at : ℕ) (ts : List (List ℕ)) → Taken book at ts → take at book ≡ records_of ts
    → take (at + 1 + size_at book at) book ≡ records_of (ts ++ (body_at book at ∷ []))
bytes-more book at ts t e =
    let body = body_at book at in
    take-add (at + 1) (size_at book at) book
    ∙ ap (λ l. l ++ body) (kind-last book at t.opened.there ∙ ap (λ l. l ++ (kind_at book at ∷ [])) e)
    ∙ append_snoc (records_of ts) (kind_at book at) body
    ∙ ap (λ n. records_of ts ++ n ∷ body) (sym (kinded-kind body (opened-kinded book at t.opened)))
    ∙ sym (records-append ts (body ∷ []) ∙ ap (λ l. records_of ts ++ kind_of (length body) ∷ l) (append-nil body))

-- The bytes of a whole record: its kind, and its body.
pub record-at : (book : List ℕ) (at n : ℕ) → n ≡ whole_at book at → 1 ≤ n → take (1 + n) (drop at book) ≡ kind_of n ∷ take n (drop (at + 1) book)
record-at book at n e h =
    let w = whole-some book at (rw e at h) in
    let size : n ≡ size_at book at = e ∙ whole_is book at w in
    let opens : 1 ≤ kind_at book at = split (kind_at book at) 0 (λ z. absurd (omega (arith, whole-closed book at z))) (λ z. omega arith) in
    let kind : kind_of n ≡ kind_at book at = rw size (kind-of (kind_at book at) opens w.1) in
    let m : 1 + n ≡ suc n = omega arith in
    rw (m, kind, add-one, drop-cons book at 0 w.0)

module _ (book : List ℕ) (tokens : List (List ℕ)) (read : read_book book ≡ accepted tokens) where
  pub accepted-kinded : All Kinded tokens
  accepted-kinded =
      (accepted-keeps book (λ _. All Kinded)
      (λ at ts t k. all_append Kinded ts (body_at book at ∷ []) k (opened-kinded book at t.opened, tt)) tokens read tt).0.1

  pub accepted-bytes : book ≡ book_of tokens
  accepted-bytes =
      let r = (accepted-keeps book (λ at ts. take at book ≡ records_of ts) (bytes-more book) tokens read refl).0 in
      let l = r.2.last in
      sym (take_all (r.0 + 1) book (omega arith)) ∙ kind-last book r.0 (omega arith) ∙ cc (r.1, r.2.zero)

-- What stands at a place, by the bytes from there on: 00h at the end, or the record of a token.
module _ (book : List ℕ) (at : ℕ) where
  kind-first : (x : ℕ) (l : List ℕ) → drop at book ≡ x ∷ l → kind_at book at ≡ x
  kind-first x l e = let z : at + 0 ≡ at = omega arith in sym (rw (e, z) at (get_or-drop at book 0 0))

  closed_at : drop at book ≡ 0 ∷ [] → Closed book at
  closed_at e = record { last = omega (arith, length-drop at book, ap length e); zero = kind-first 0 [] e }

  module _ (t : List ℕ) (todo : List (List ℕ)) (k : Kinded t) (e : drop at book ≡ book_of (t ∷ todo)) where
    kind-at : kind_at book at ≡ k.kind
    kind-at = kind-first _ _ e ∙ kinded-kind t k

    size-at : size_at book at ≡ length t
    size-at = ap body_length kind-at ∙ sym k.size

    rest_at : drop (at + 1) book ≡ t ++ book_of todo
    rest_at = sym (drop-drop 1 at book) ∙ ap (drop 1) (e ∙ bytes-seam [] t todo)

    body-at : body_at book at ≡ t
    body-at = rw rest_at (take_at t (book_of todo) (size_at book at) (sym size-at))

    after-at : drop (at + 1 + size_at book at) book ≡ book_of todo
    after-at = rw (← drop-drop, rest_at) (drop_at t (book_of todo) (size_at book at) (sym size-at))

    opened-at : Opened book at
    opened-at =
        let l = simp (length-drop, length-append) at (ap length rest_at) in
        let z = size-at in
        record { there = omega arith; known = rw kind-at k.known; opens = λ q. omega (arith, kind-at, k.some); inside = omega arith }

-- What the reader does there: it accepts, or it goes on.
module _ (book : List ℕ) (fuel at : ℕ) (ts : List (List ℕ)) where
  closing-accepts : Closed book at → 1 ≤ length ts → read_from book (suc fuel) at ts ≡ accepted ts
  closing-accepts c h =
      rw (lt-leb (length book) at (omega arith), le-ltb 68 (kind_at book at) (omega arith), eq-eqb (kind_at book at) 0 c.zero, read_from)
      (rw (le-ltb (at + 1) (length book) (omega arith), ne_eqb (length ts) 0 (omega arith), closed))

  taken-goes : Taken book at ts → read_from book (suc fuel) at ts ≡ read_from book fuel (at + 1 + size_at book at) (ts ++ (body_at book at ∷ []))
  taken-goes t =
      opening book fuel at ts t.opened.there t.opened
      ∙ rw (lt-leb max_tokens (length ts) t.few, le-ltb max_bodies (body_bytes ts + total (words_of (body_at book at))) t.small, t.new, ways)

fit-new : (ts : List (List ℕ)) (t : List ℕ) (us : List (List ℕ)) → Fit (ts ++ t ∷ us) → any_of (is_word t) ts ≡ false
fit-new ts t us f = false-test (any_of (is_word t) ts) λ h.
    let r = any_of-out (is_word t) ts [] h in
    let n = length-append ts (t ∷ us) in
    omega (
      arith,
      r.1,
      f.distinct (length ts) r.0 (omega arith) (omega (arith, r.1))
          (rw (get_or-append_seam ts t us [], get_or-append ts (t ∷ us) [] r.0 r.1) r.2),
    )

-- With the tokens `done` before place `at`, and from there on the bytes of a book of the tokens `todo`, all are read.
read-on : (book : List ℕ) (fuel at : ℕ) (done todo : List (List ℕ)) → drop at book ≡ book_of todo → All Kinded todo → Fit (done ++ todo)
    → 1 ≤ length (done ++ todo) → length todo < fuel → read_from book fuel at done ≡ accepted (done ++ todo)
read-on book zero at done todo e k f some h = absurd (omega arith)
read-on book (suc fuel) at done [] e k f some h =
    rw append-nil (closing-accepts book fuel at done (closed_at book at e) (rw append-nil at some))
read-on book (suc fuel) at done (t ∷ todo) e k f some h =
    let b = body-at book at t todo k.0 e in
    let z = size-at book at t todo k.0 e in
    let n = simp length-append at f.count in
    let m = rw (bytes-append done (t ∷ todo), total-append (words_of t) (all_words todo)) at f.bodies in
    let a = append_snoc done t todo in
    let o = opened-at book at t todo k.0 e in
    taken-goes book fuel at done (record { opened = o; few = omega arith; small = rw b (omega arith); new = rw b (fit-new done t todo f) })
    ∙ rw (b, ← a) (read-on book fuel _ (done ++ (t ∷ [])) todo (after-at book at t todo k.0 e) k.1 (rw a f) (rw a some) (omega arith))

pub read-bytes : (tokens : List (List ℕ)) → All Kinded tokens → Fit tokens → 1 ≤ length tokens → read_book (book_of tokens) ≡ accepted tokens
read-bytes tokens k f some = read-on (book_of tokens) (suc (length (book_of tokens))) 0 [] tokens refl k f some (omega (arith, bytes-length tokens))
