-- The bodies that `bodies_in` finds: record by record, up to where none stands. In an accepted book they are the tokens, and in the part of a
-- book that was read they are the tokens of that part.
use Rattle.std.specs.Prelude.{ℕ, zero, suc, ◌+◌, ◌-◌, ◌≤◌, ◌≡◌, refl, Bool, ◌||◌, List, [], ◌∷◌, ◌++◌, length, take, drop}
use Rattle.std.proofs.Common.{arith, ap, sym, ◌∙◌, eq-eqb, ne_eqb, length-drop, take-append-drop, length-take-le, get_or-take, take_all}
use Rattle.std.proofs.lemmas.List.{take-append-le, drop-append-le, get_or-drop, drop-drop}
use Rattle.std.specs.List.{list_any}
use Rattle.rules.specs.Lists.{any_of}
use Rattle.rules.specs.Tokens.{total}
use Rattle.rules.proofs.Laws.Tests.{split}
use Rattle.book.specs.Book.{accepted, body_length, kind_at, size_at, whole_at, bodies_from, bodies_in, read_book}
use Rattle.book.specs.Records.{Held, Records, Upto}
use Rattle.book.proofs.Laws.Taken.{whole-cases, whole_is, whole-none, whole-closed, whole-some}
use Rattle.book.proofs.Laws.Records.{upto-last}

module _ (book : List ℕ) (at : ℕ) where
  -- A whole record with a body lies inside the book.
  pub whole-there : 1 ≤ whole_at book at → at + 1 + whole_at book at ≤ length book
  whole-there h = let w = whole-some book at h in rw (whole_is book at w) w.2

  from-none : (fuel : ℕ) → whole_at book at ≡ 0 → bodies_from book fuel at ≡ []
  from-none zero z = refl
  from-none (suc fuel) z = cc (eq-eqb (whole_at book at) 0 z)

  past : length book ≤ at → whole_at book at ≡ 0
  past h = whole-none book at (λ w. omega (arith, w.0))

  from_some : (fuel : ℕ) → 1 ≤ whole_at book at
      → bodies_from book (suc fuel) at ≡ take (whole_at book at) (drop (at + 1) book) ∷ bodies_from book fuel (at + 1 + whole_at book at)
  from_some fuel h = cc (ne_eqb (whole_at book at) 0 (λ z. omega arith))

-- Any fuel will do that is not less than what is left of the book.
enough : (book : List ℕ) (f g at : ℕ) → length book ≤ at + f → length book ≤ at + g → bodies_from book f at ≡ bodies_from book g at
enough book zero g at hf hg = sym (from-none book at g (past book at (omega arith)))
enough book (suc f) zero at hf hg = from-none book at (suc f) (past book at (omega arith))
enough book (suc f) (suc g) at hf hg =
    split (whole_at book at) 0 (λ z. from-none book at (suc f) z ∙ sym (from-none book at (suc g) z))
    (λ n.
    from_some book at f (omega arith)
    ∙ (ap (λ l. take (whole_at book at) (drop (at + 1) book) ∷ l) (enough book f g (at + 1 + whole_at book at) (omega arith) (omega arith))
    ∙ sym (from_some book at g (omega arith))))

-- The bodies from a place on: none, or the one that stands there and those behind it.
abbrev pub bodies : List ℕ → ℕ → List (List ℕ)
bodies book at = bodies_from book (length book) at

module _ (book : List ℕ) (at : ℕ) where
  pub bodies-none : whole_at book at ≡ 0 → bodies book at ≡ []
  bodies-none z = from-none book at (length book) z

  pub bodies-some : 1 ≤ whole_at book at → bodies book at ≡ take (whole_at book at) (drop (at + 1) book) ∷ bodies book (at + 1 + whole_at book at)
  bodies-some h =
      enough book (length book) (suc (length book)) at (omega arith) (omega arith) ∙ from_some book at (length book) h

-- Without the first k bytes of the book.
module _ (book : List ℕ) (k : ℕ) (h : k ≤ length book) where
  kind-drop : (at : ℕ) → kind_at (drop k book) at ≡ kind_at book (k + at)
  kind-drop at = get_or-drop k book at 0

  whole-drop : (at : ℕ) → whole_at (drop k book) at ≡ whole_at book (k + at)
  whole-drop at =
      let kind = kind-drop at in
      let size = ap body_length kind in
      let long : length (drop k book) ≡ length book - k = length-drop k book in
      whole-cases (drop k book) at (λ n. n ≡ whole_at book (k + at))
      (λ f. sym (whole-none book (k + at) (λ w. f (omega arith, rw kind w.1, omega (arith, w.2)))))
      (λ w. size ∙ sym (whole_is book (k + at) (omega (arith, w.0), rw kind at w.1, omega (arith, w.2))))

  from-drop : (fuel at : ℕ) → bodies_from (drop k book) fuel at ≡ bodies_from book fuel (k + at)
  from-drop zero at = refl
  from-drop (suc fuel) at =
      let e = whole-drop at in
      split (whole_at book (k + at)) 0 (λ z. from-none (drop k book) at (suc fuel) (e ∙ z) ∙ sym (from-none book (k + at) (suc fuel) z))
      (λ n.
      from_some (drop k book) at fuel (omega arith)
      ∙ (let next : k + (at + 1 + whole_at book (k + at)) ≡ k + at + 1 + whole_at book (k + at) = omega arith in
      let over : k + (at + 1) ≡ k + at + 1 = omega arith in
      rw (e, drop-drop (at + 1) k book, over) (ap (λ l. take (whole_at book (k + at)) (drop (k + at + 1) book) ∷ l)
      (from-drop fuel (at + 1 + whole_at book (k + at)) ∙ ap (bodies_from book fuel) next)))
      ∙ sym (from_some book (k + at) fuel (omega arith)))

-- The first body, and those behind it.
pub bodies-first : (book : List ℕ) → 1 ≤ whole_at book 0 → bodies_in book ≡ take (whole_at book 0) (drop 1 book) ∷ bodies_in (drop (1 + whole_at book 0) book)
bodies-first book h =
    let n = whole_at book 0 in
    let inside : 1 + n ≤ length book = omega (arith, whole-there book 0 h) in
    let end : 1 + n + 0 ≡ 0 + 1 + n = omega arith in
    let rest : bodies_in (drop (1 + n) book) ≡ bodies book (0 + 1 + n) =
    from-drop book (1 + n) inside (length (drop (1 + n) book)) 0
    ∙ enough book (length (drop (1 + n) book)) (length book) (1 + n + 0) (omega (arith, length-drop (1 + n) book)) (omega arith)
    ∙ ap (bodies book) end in
    bodies-some book 0 h ∙ ap (λ l. take n (drop 1 book) ∷ l) (sym rest)

-- The same, as the code that takes it has it.
pub bodies-next : (book : List ℕ) {n : ℕ} → n ≡ whole_at book 0 → (n ≡ 0 → ⊥)
    → bodies_in book ≡ take (1 + n - 1) (drop 1 book) ∷ bodies_in (take (length book - (1 + n)) (drop (1 + n) book))
bodies-next book {n} e z =
    let m : 1 + n - 1 ≡ n = omega arith in
    let all : take (length book - (1 + n)) (drop (1 + n) book) ≡ drop (1 + n) book = take_all (length book - (1 + n)) (drop (1 + n) book) (omega (arith, length-drop (1 + n) book)) in
    rw (m, all) (rw e (bodies-first book (omega arith)))

-- a search through a list, as the library's iterators have it
pub any_listed : (p : List ℕ → Bool) (l : List (List ℕ)) → list_any p l ≡ any_of p l
any_listed p [] = refl
any_listed p (t ∷ ts) = go (p t) (any_listed p ts)
  where
    go : (b : Bool) {x y : Bool} → x ≡ y → (b || x) ≡ (b || y)
    go b e = ap (λ z. b || z) e

-- Records with the bodies ts, and no other behind them.
records-bodies : (book : List ℕ) (at : ℕ) (ts : List (List ℕ)) (e : ℕ) → e ≡ at + length ts + total ts → whole_at book e ≡ 0 → Records book at ts
    → bodies book at ≡ ts
records-bodies book at [] e z n r = let q : e ≡ at = omega arith in bodies-none book at (rw q at n)
records-bodies book at (t ∷ ts) e z n r =
    let w : whole_at book at ≡ length t = r.0.whole in
    let more : bodies book (at + 1 + length t) ≡ ts = records-bodies book (at + 1 + length t) ts e (omega arith) n r.1 in
    let some = r.0.some in
    rw w at (bodies-some book at (omega arith)) ∙ cc (r.0.body, more)

-- The tokens of an accepted book.
pub accepted-bodies : (book : List ℕ) (tokens : List (List ℕ)) → read_book book ≡ accepted tokens → bodies_in book ≡ tokens
accepted-bodies book tokens read =
    let e = upto-last book tokens read in
    records-bodies book 0 tokens e.0 (omega (arith, e.1.place)) (whole-closed book e.0 e.2.zero) e.1.records

-- The first n bytes of a book have the records that end there.
module _ (book : List ℕ) (n : ℕ) (inside : n ≤ length book) where
  long : length (take n book) ≡ n
  long = length-take-le n book inside

  bytes : (at m : ℕ) → at + m ≤ n → take m (drop at (take n book)) ≡ take m (drop at book)
  bytes at m h =
      let p = take n book in
      let q = drop n book in
      let e : take m (drop at (p ++ q)) ≡ take m (drop at p) =
      rw (drop-append-le at p q (omega (arith, long)), take-append-le m (drop at p) q (rw length-drop (omega (arith, long)))) in
      rw (take-append-drop n book) at (sym e)

  held-part : (at : ℕ) (t : List ℕ) → at + 1 + length t ≤ n → Held book at t → Held (take n book) at t
  held-part at t h k =
      let some = k.some in
      let w = whole-some book at (rw k.whole k.some) in
      let size : size_at book at ≡ length t = sym (whole_is book at w) ∙ k.whole in
      let kind : kind_at (take n book) at ≡ kind_at book at = get_or-take n book at 0 (omega arith) in
      record {
        some = k.some;
        short = k.short;
        whole = whole_is (take n book) at (rw long (omega arith), rw kind w.1, rw (long, kind, size) h) ∙ (ap body_length kind ∙ size);
        inside = rw long h;
        body = bytes (at + 1) (length t) h ∙ k.body;
      }

  records-part : (at : ℕ) (ts : List (List ℕ)) → at + length ts + total ts ≤ n → Records book at ts → Records (take n book) at ts
  records-part at [] h r = tt
  records-part at (t ∷ ts) h r = (held-part at t (omega arith) r.0, records-part (at + 1 + length t) ts (omega arith) r.1)

-- The tokens read so far.
pub upto-bodies : (book : List ℕ) (at : ℕ) (ts : List (List ℕ)) → at ≤ length book → Upto book at ts → bodies_in (take at book) ≡ ts
upto-bodies book at ts h u =
    records-bodies (take at book) 0 ts at (omega (arith, u.place)) (past (take at book) at (rw length-take-le (omega arith)))
    (records-part book at h 0 ts (omega (arith, u.place)) u.records)
