-- The reader's loop over plain lists: what holds at each record, and what each way out of it answers.
use Prim.Native.Nat.{ℕ, zero, suc, ◌+◌, ◌-◌, ◌≤◌, ◌<◌}
use native.Mathlib.Omega.{arith}
use mathlib.Core.Bool.{Bool, true, false, ◌||◌}
use mathlib.Core.List.{List, [], ◌∷◌, ◌++◌}
use mathlib.Core.Path.{◌≡◌, refl, ap, sym, ◌∙◌}
use borrow.Author.Tests.{lt-leb, le-ltb, ne_eqb, leb-false, ltb-false}
use lib.Dec.{leb, ltb}
use lib.ListN.{length, take, drop}
use Rattle.rules.specs.Lists.{any_of}
use Rattle.rules.specs.Words.{words_of, is_word}
use Rattle.rules.specs.Tokens.{total, body_bytes}
use Rattle.rules.proofs.Laws.Tests.{or-nl, or-nr}
use Rattle.rules.proofs.Laws.Words.{bytes-snoc, words-bytes}
use Rattle.book.specs.Book.{Reading, refused, bodies_in, max_tokens, max_bodies, max_body, kind_at, size_at, body_at, over_limits, repeats, read_from, read_book, summary}
use Rattle.book.specs.Answers.{Amounts}
use Rattle.book.specs.Filter.{Covers}
use Rattle.book.proofs.Laws.Taken.{Opened, Taken, opened-range, opened-length}
use Rattle.book.proofs.Laws.Records.{upto-more}
use Rattle.book.proofs.Laws.Bodies.{upto-bodies}
use Rattle.book.specs.declared.Totals.{Totals}
use Rattle.book.specs.Records.{Upto}

-- The reader stands at `at`, with these totals and this filter: the rest of its run from here is the whole run.
pub record Walk (book : List ℕ) (at : ℕ) (t : Totals) (filter : List ℕ) : Type 0 where
  pub fuel : ℕ
  pub tokens : List (List ℕ)
  pub rest : read_from book (suc fuel) at tokens ≡ read_book book
  pub enough : length book ≤ at + fuel
  pub inside : at ≤ length book
  pub upto : Upto book at tokens
  pub amounts : Amounts t tokens
  pub within : body_bytes tokens ≤ max_bodies
  pub covers : Covers filter tokens

pub begins : (book : List ℕ) (t : Totals) (filter : List ℕ) → Amounts t [] → Covers filter [] → Walk book 0 t filter
begins book t filter a c = record {
  fuel = length book;
  tokens = [];
  rest = refl;
  enough = omega arith;
  inside = omega arith;
  upto = record { place = omega arith; records = tt };
  amounts = a;
  within = omega arith;
  covers = c;
}

-- The limits are kept where `over` says so.
pub room : {over : Bool} (tokens bodies bytes : ℕ) → over ≡ (leb max_tokens tokens || ltb max_bodies (bodies + bytes)) → over ≡ false
    → (tokens < max_tokens) × (bodies + bytes ≤ max_bodies)
room tokens bodies bytes p e = (
  leb-false max_tokens tokens (or-nl _ _ (sym p ∙ e)),
  ltb-false max_bodies (bodies + bytes) (or-nr (leb max_tokens tokens) _ (sym p ∙ e)),
)

module _ {book : List ℕ} {at : ℕ} {t : Totals} {filter : List ℕ} (w : Walk book at t filter) where
  -- a way out that answers v
  says : (v : Reading) → read_from book (suc w.fuel) at w.tokens ≡ v → summary v ≡ summary (read_book book)
  says v e = ap summary (sym e ∙ w.rest)

  -- the body of `size` bytes, as the code cuts it out
  abbrev part : ℕ → List ℕ
  part size = take (at + 1 + size - (at + 1)) (drop (at + 1) book)

  part_is : {size : ℕ} → size ≡ size_at book at → part size ≡ body_at book at
  part_is {size} long = let z : at + 1 + size - (at + 1) ≡ size_at book at = omega (arith, long) in rw z

  -- the ways on from a whole record, by whether a limit is passed and whether the body is a repeat
  abbrev ways : Bool → Bool → Reading
  ways over repeat =
      elim over [
        | true ↦ refused 5 at
        | false ↦ elim repeat [
          | true ↦ refused 4 at
          | false ↦ read_from book w.fuel (at + 1 + size_at book at) (w.tokens ++ (body_at book at ∷ []))
        ]
      ]

  -- What `over` asks.
  pub weighs : {size bytes : ℕ} → Opened book at → size ≡ size_at book at → bytes ≡ total (words_of (part size))
      → (t.bodies ≤ max_bodies) × (bytes ≤ max_body + max_body)
  weighs o long weighed =
      let small = opened-range book at o in
      let both : _ ≡ total (words_of (body_at book at)) = weighed ∙ ap (λ b. total (words_of b)) (part_is long) in
      omega (arith, w.amounts.bodies, w.within, words-bytes (body_at book at), opened-length book at o)

  -- At a whole record, with what `weight`, `over` and `repeated` answer for its body as the code cuts it out.
  module _ {over : Bool} {size bytes : ℕ} (o : Opened book at) (long : size ≡ size_at book at) (weighed : bytes ≡ total (words_of (part size)))
      (p : over ≡ (leb max_tokens t.tokens || ltb max_bodies (t.bodies + bytes))) where
    both : bytes ≡ total (words_of (body_at book at))
    both = weighed ∙ ap (λ b. total (words_of b)) (part_is long)

    limits : over_limits book at w.tokens ≡ over
    limits = sym (p ∙ rw (w.amounts.count, w.amounts.bodies, both))

    opened : read_from book (suc w.fuel) at w.tokens ≡ ways over (repeats book at w.tokens)
    opened =
        rw (
          lt-leb (length book) at o.there,
          le-ltb 68 (kind_at book at) o.known,
          ne_eqb (kind_at book at) 0 o.opens,
          le-ltb (length book) (at + 1 + size_at book at) o.inside,
          limits,
          read_from,
        )

    pub beyond : over ≡ true → refused 5 at ≡ summary (read_book book)
    beyond e = says (refused 5 at) (rw e at opened)

    module _ {repeat : Bool} (after : List ℕ)
        (q : Covers filter (bodies_in (take at book)) → (repeat ≡ any_of (is_word (part size)) (bodies_in (take at book)))
        × Covers after (bodies_in (take at book) ++ (part size ∷ []))) (e : over ≡ false) where
      told : (repeat ≡ repeats book at w.tokens) × Covers after (w.tokens ++ (body_at book at ∷ []))
      told =
          let before = upto-bodies book at w.tokens w.inside w.upto in
          rw (part_is long, before) at (q (rw before w.covers))

      new : repeats book at w.tokens ≡ repeat
      new = sym told.0

      pub twice : repeat ≡ true → refused 4 at ≡ summary (read_book book)
      twice f = says (refused 4 at) (rw (e, new ∙ f) at opened)

      pub onwards : repeat ≡ false → {u : Totals}
          → ((ts : List (List ℕ)) (b : List ℕ) → Amounts t ts → size ≡ length b → bytes ≡ total (words_of b) → Amounts u (ts ++ (b ∷ [])))
          → Walk book (at + 1 + size) u after
      onwards f {u} a =
          rw long (go w.fuel w.enough (sym (rw (e, new ∙ f) at opened) ∙ w.rest))
        where
          fits : (t.tokens < max_tokens) × (t.bodies + bytes ≤ max_bodies)
          fits = room t.tokens t.bodies bytes p e

          taken : Taken book at w.tokens
          taken = record { opened = o; few = omega (arith, fits, w.amounts.count); small = omega (arith, fits, w.amounts.bodies, both); new = new ∙ f }

          go : (fuel : ℕ) → length book ≤ at + fuel
              → read_from book fuel (at + 1 + size_at book at) (w.tokens ++ (body_at book at ∷ [])) ≡ read_book book
              → Walk book (at + 1 + size_at book at) u after
          go zero h e = absurd (omega (arith, o.there))
          go (suc fuel) h e = record {
            fuel = fuel;
            tokens = w.tokens ++ (body_at book at ∷ []);
            rest = e;
            enough = omega arith;
            inside = o.inside;
            upto = upto-more book at w.tokens taken w.upto;
            amounts = a w.tokens (body_at book at) w.amounts (long ∙ sym (opened-length book at o)) both;
            within = rw bytes-snoc taken.small;
            covers = told.1;
          }
