-- The search for a token's place over plain lists: what holds at each record passed, and what each way out answers.
use Prim.Native.Nat.{ℕ, ◌+◌, ◌-◌, ◌≤◌, ◌<◌}
use native.Mathlib.Numerals.{add-one}
use native.Mathlib.Omega.{arith}
use mathlib.Core.List.{List, []}
use mathlib.Core.Path.{◌≡◌, ap, sym, ◌∙◌}
use lib.ListN.{length, get_or, take}
use lib.Seq.{take-suc}
use Rattle.rules.specs.Tokens.{total}
use Rattle.book.specs.Book.{accepted, found, whole_at, read_book, summary, place_in}
use Rattle.book.specs.Answers.{totalled}
use Rattle.book.proofs.Laws.Accepted.{total-snoc, summed}
use Rattle.book.proofs.Laws.Records.{records-at, accepted-records, accepted-place}
use Rattle.book.specs.declared.Totals.{Totals}
use Rattle.book.specs.Records.{Held}

-- The book has these tokens.
pub record Has (book : List ℕ) (count : ℕ) : Type 0 where
  pub tokens : List (List ℕ)
  pub read : read_book book ≡ accepted tokens
  pub counted : count ≡ length tokens

pub has : (b : List ℕ) (t : Totals) → accepted (totalled t) ≡ summary (read_book b) → Has b t.tokens
has b t e = let s = summed b (totalled t) e in record { tokens = s.tokens; read = s.read; counted = ap (λ a. a.tokens) s.sums }

-- So many records are passed, and the next one stands at `at`.
pub record Reach (book : List ℕ) (i at passed : ℕ) : Type 0 where
  pub count : ℕ
  pub has : Has book count
  pub enough : i ≤ count
  pub before : passed < i
  pub place : at ≡ passed + total (take passed has.tokens)

module _ {book : List ℕ} {i at passed : ℕ} (r : Reach book i at passed) where
  abbrev tokens : List (List ℕ)
  tokens = r.has.tokens

  here : Held book at (get_or tokens passed [])
  here =
      records-at book 0 tokens passed at (omega (arith, r.place)) (omega (arith, r.has.counted))
      (accepted-records book tokens r.has.read)

  pub inside : at + 1 + whole_at book at ≤ length book
  inside = rw here.whole here.inside

  pub next : {n : ℕ} → n ≡ whole_at book at → passed + 1 < i → Reach book i (at + (1 + n)) (passed + 1)
  next {n} e l = record {
    count = r.count;
    has = r.has;
    enough = r.enough;
    before = l;
    place =
        let z : total (take (passed + 1) tokens) ≡ total (take passed tokens) + length (get_or tokens passed []) =
        rw (add-one, take-suc tokens passed [] (omega (arith, r.has.counted))) (total-snoc (take passed tokens) (get_or tokens passed [])) in
        omega (arith, here.whole, r.place);
  }

  pub there : {n : ℕ} → n ≡ whole_at book at → i ≤ passed + 1 → found (at + 1) n ≡ place_in (read_book book) i
  there {n} e l =
      let z : i - 1 ≡ passed = omega (arith, r.before) in
      let y : at + 1 ≡ i + total (take passed tokens) = omega (arith, r.before, r.place) in
      let x : n ≡ length (get_or tokens passed []) = e ∙ here.whole in
      rw (y, x) (sym (rw z at (accepted-place book tokens r.has.read i (omega (arith, r.before)) (omega (arith, r.has.counted, r.enough)))))
