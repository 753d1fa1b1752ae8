-- The tokens of an accepted book are the bodies of its records, one record after the other, with 00h at the end; and where token
-- number i stands. And what a walk over the records has passed.
use Rattle.std.specs.Prelude.{ℕ, zero, suc, ◌+◌, ◌-◌, ◌≤◌, ◌<◌, ◌≡◌, refl, List, [], ◌∷◌, ◌++◌, length, get_or, take, drop}
use Rattle.std.proofs.Common.{arith, sym, ◌∙◌, append_assoc, append-nil, le-leb, length-append}
use Rattle.std.proofs.Math.Seq.{get_or-append_seam}
use Rattle.rules.specs.Tokens.{total}
use Rattle.book.specs.Book.{found, accepted, size_at, body_at, whole_at, read_book, record_place, place_in}
use Rattle.book.proofs.Laws.Accepted.{total-snoc}
use Rattle.book.proofs.Laws.Taken.{Opened, Taken, Closed, opened-range, opened-length, whole_is, accepted-keeps}
use Rattle.book.specs.Records.{Held, Records, Upto}

-- A record more, at the end.
pub records-snoc : (book : List ℕ) (at : ℕ) (ts : List (List ℕ)) (t : List ℕ) (e : ℕ) → e ≡ at + length ts + total ts → Records book at ts
    → Held book e t → Records book at (ts ++ (t ∷ []))
records-snoc book at [] t e z r h = let z : at ≡ e = omega arith in (rw z h, tt)
records-snoc book at (u ∷ ts) t e z r h = (r.0, records-snoc book (at + 1 + length u) ts t e (omega arith) r.1 h)

opened-held : (book : List ℕ) (at : ℕ) → Opened book at → Held book at (body_at book at)
opened-held book at o =
    let long = opened-length book at o in
    let range = opened-range book at o in
    record {
      some = omega arith;
      short = omega arith;
      whole = rw long (whole_is book at (o.there, o.known, o.inside));
      inside = rw long o.inside;
      body = rw long;
    }

pub upto-more : (book : List ℕ) (at : ℕ) (ts : List (List ℕ)) → Taken book at ts → Upto book at ts
    → Upto book (at + 1 + size_at book at) (ts ++ (body_at book at ∷ []))
upto-more book at ts t u = record {
  place = rw (length-append, total-snoc) (omega (arith, opened-length book at t.opened));
  records = records-snoc book 0 ts (body_at book at) at (omega arith) u.records (opened-held book at t.opened);
}

-- The record after i others.
pub records-at : (book : List ℕ) (at : ℕ) (ts : List (List ℕ)) (i e : ℕ) → e ≡ at + i + total (take i ts) → i < length ts → Records book at ts
    → Held book e (get_or ts i [])
records-at book at [] i e z h r = absurd (omega arith)
records-at book at (t ∷ ts) zero e z h r = let z : e ≡ at = omega arith in rw z r.0
records-at book at (t ∷ ts) (suc i) e z h r = records-at book (at + 1 + length t) ts i e (omega arith) (omega arith) r.1

module _ (book : List ℕ) (tokens : List (List ℕ)) (read : read_book book ≡ accepted tokens) where
  pub upto-last : (at : ℕ) × Upto book at tokens × Closed book at
  upto-last = (accepted-keeps book (Upto book) (upto-more book) tokens read (record { place = omega arith; records = tt })).0

  pub accepted-records : Records book 0 tokens
  accepted-records = upto-last.1.records

  -- 00h closes the book.
  pub accepted-size : length book ≡ 1 + length tokens + total tokens
  accepted-size = let e = upto-last in omega (arith, e.1.place, e.2.last)

  -- Where `place_in` says that token number i stands, there it stands.
  module _ (i : ℕ) (h : 1 ≤ i) (k : i ≤ length tokens) where
    pub accepted-place : place_in (read_book book) i ≡ found (i + total (take (i - 1) tokens)) (length (get_or tokens (i - 1) []))
    accepted-place =
        let z : record_place tokens (i - 1) + 1 ≡ i + total (take (i - 1) tokens) = omega arith in
        rw read (cc (le-leb 1 i h, le-leb i (length tokens) k))

    pub accepted-held : Held book (record_place tokens (i - 1)) (get_or tokens (i - 1) [])
    accepted-held = records-at book 0 tokens (i - 1) (record_place tokens (i - 1)) (omega arith) (omega arith) accepted-records

    pub accepted-body : take (length (get_or tokens (i - 1) [])) (drop (i + total (take (i - 1) tokens)) book) ≡ get_or tokens (i - 1) []
    accepted-body =
        let z : i + total (take (i - 1) tokens) ≡ record_place tokens (i - 1) + 1 = omega arith in
        rw z accepted-held.body

-- The tokens `done` are passed, up to place `at`, and the records from there to the closing 00h have the others.
pub record Passing (book : List ℕ) (tokens : List (List ℕ)) (at : ℕ) (done : List (List ℕ)) : Type 0 where
  pub rest : List (List ℕ)
  pub all : done ++ rest ≡ tokens
  pub records : Records book at rest
  pub size : length book ≡ at + 1 + length rest + total rest

pub passing-none : (book : List ℕ) (tokens : List (List ℕ)) → read_book book ≡ accepted tokens → Passing book tokens 0 []
passing-none book tokens read = record {
  rest = tokens;
  all = refl;
  records = accepted-records book tokens read;
  size = omega (arith, accepted-size book tokens read);
}

module _ {book : List ℕ} {tokens : List (List ℕ)} {at : ℕ} {done : List (List ℕ)} (p : Passing book tokens at done) where
  -- The record at `at`, of n body bytes, is passed too.
  pub passing-more : at + 1 < length book → (n : ℕ) → n ≡ whole_at book at
      → Passing book tokens (at + 1 + n) (done ++ (take (at + 1 + n - (at + 1)) (drop (at + 1) book) ∷ []))
  passing-more h n w = go p.rest p.all p.records p.size
    where
      go : (rest : List (List ℕ)) → done ++ rest ≡ tokens → Records book at rest → length book ≡ at + 1 + length rest + total rest
          → Passing book tokens (at + 1 + n) (done ++ (take (at + 1 + n - (at + 1)) (drop (at + 1) book) ∷ []))
      go [] e k z = absurd (omega arith)
      go (t ∷ rest) e k z =
          let m : n ≡ length t = w ∙ k.0.whole in
          let part : at + 1 + n - (at + 1) ≡ length t = omega arith in
          rw (part, k.0.body) (record {
            rest = rest;
            all = append_assoc done (t ∷ []) rest ∙ e;
            records = rw m k.1;
            size = omega arith;
          })

  -- None is left.
  pub passing-all : length book ≤ at + 1 → done ≡ tokens
  passing-all h = go p.rest p.all p.size
    where
      go : (rest : List (List ℕ)) → done ++ rest ≡ tokens → length book ≡ at + 1 + length rest + total rest → done ≡ tokens
      go [] e z = sym (append-nil done) ∙ e
      go (t ∷ rest) e z = absurd (omega arith)

-- The last of those passed is one of the tokens.
pub passing-last : (book : List ℕ) (tokens : List (List ℕ)) (at : ℕ) (done : List (List ℕ)) (t : List ℕ) → Passing book tokens at (done ++ (t ∷ []))
    → (length done < length tokens) × (get_or tokens (length done) [] ≡ t)
passing-last book tokens at done t p =
    let e : done ++ t ∷ p.rest ≡ tokens = sym (append_assoc done (t ∷ []) p.rest) ∙ p.all in
    rw (← e) (simp length-append (omega arith), get_or-append_seam done t p.rest [])
