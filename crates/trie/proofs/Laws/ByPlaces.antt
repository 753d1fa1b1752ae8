-- The tokens of a book in place, and the walks of their words, record by record: the next one is known by the place at which it stands.
use Rattle.std.specs.Prelude.{ℕ, ◌+◌, ◌-◌, ◌≤◌, ◌<◌, ◌≡◌, refl, take, drop}
use Rattle.std.proofs.Common.{arith, ap, sym, ◌∙◌}
use Rattle.std.proofs.Math.Option.{Option}
use mathlib.Core.List.{List, [], ◌∷◌, ◌++◌}
use Rattle.std.proofs.Math.ListN.{length, length-map}
use Rattle.rules.specs.Words.{words_of, all_words}
use Rattle.rules.specs.Tokens.{total, body_bytes}
use Rattle.rules.proofs.Laws.Words.{total-append, words_snoc}
use Rattle.rules.proofs.Laws.Lengths.{shortest-le}
use Rattle.book.specs.Book.{read_book, accepted, whole_at}
use Rattle.book.specs.Records.{Records, Held}
use Rattle.book.proofs.Laws.Accepted.{Fit, accepted-fit, accepted-shortest}
use Rattle.book.proofs.Laws.Records.{accepted-records, Passing, passing-none, passing-more, passing-all, passing-last}
use Rattle.tables.specs.Tables.{Tables, nodes, built, written}
use Rattle.tables.specs.Walks.{child_by}
use Rattle.tables.specs.Inserted.{with_words, root_only, built_from, inserted_all, unshifted}
use Rattle.tables.specs.Shape.{Shape}
use Rattle.tables.proofs.Laws.NodeAdded.{Sized}
use Rattle.tables.proofs.Laws.WordsAdded.{root-shape, root-sized}
use Rattle.tables.proofs.Laws.Same.{inserted-built}
use Rattle.trie.specs.InPlace.{Room, Ready, Counted, placed_words, filled, Kept}
use Rattle.trie.specs.Filling.{Lows, lows, words_walked, Walkable, Shortest}
use Rattle.trie.proofs.Laws.Over.{room-less, written-shape, written-kept, written-room, written-written}
use Rattle.trie.proofs.Laws.TokensInPlace.{Worded, worded, rooted, root-written}
use Rattle.trie.proofs.Laws.WalksInPlace.{walkable-same, words_append}

-- The book is read and has `many` tokens, and the tables have room for all words of its bodies.
pub record Fillable (book : List ℕ) (t : Tables) (many : ℕ) : Type 0 where
  pub tokens : List (List ℕ)
  pub read : read_book book ≡ accepted tokens
  pub count : many ≡ length tokens
  pub room : Room t (1 + body_bytes tokens)

-- The tables t, lent as t₀, have the tokens before number i; the others stand from place `at` on.
pub record Filling (book : List ℕ) (t₀ : Tables) (many : ℕ) (t : Tables) (n at i : ℕ) : Type 0 where
  pub given : Fillable book t₀ many
  pub rest : List (List ℕ)
  pub u : Tables
  pub sized : Sized u n
  pub shape : Shape u n
  pub held : t ≡ written u t₀
  pub run : built_from u i rest ≡ inserted_all given.tokens
  pub left : i + length rest ≡ 1 + many
  pub few : n + body_bytes rest ≤ 1 + body_bytes given.tokens
  pub records : Records book at rest

module _ (book : List ℕ) (t : Tables) (many : ℕ) (f : Fillable book t many) where
  pub fill-room : Room t 1
  fill-room = room-less t (1 + body_bytes f.tokens) 1 (omega arith) f.room

  -- the root is in
  pub fill-first : Filling book (rooted t) many (rooted t) 1 0 1
  fill-first = rw (root-written t fill-room) (record {
    given = record {
      tokens = f.tokens;
      read = f.read;
      count = f.count;
      room = written-room t root_only 1 root-sized (1 + body_bytes f.tokens) (omega arith) f.room;
    };
    rest = f.tokens;
    u = root_only;
    sized = root-sized;
    shape = root-shape;
    held = sym (written-written t root_only 1 root-sized root_only 1 root-sized (omega arith));
    run = refl;
    left = omega (arith, f.count);
    few = omega arith;
    records = accepted-records book f.tokens f.read;
  })

module _ (book : List ℕ) (t₀ : Tables) (many : ℕ) (t : Tables) (n at i : ℕ) (f : Filling book t₀ many t n at i) where
  abbrev u : Tables
  u = f.u

  abbrev tokens : List (List ℕ)
  tokens = f.given.tokens

  fit : Fit tokens
  fit = accepted-fit book tokens f.given.read

  pub fill-kept : Kept t₀ t
  fill-kept = rw f.held (written-kept t₀ u n f.sized
      (room-less t₀ (1 + body_bytes tokens) n (omega (arith, f.few)) f.given.room))

  -- the next token, at place `at`
  pub record Next : Type 0 where
    body : List ℕ
    more : List (List ℕ)
    run : built_from (with_words u i (words_of body)) (i + 1) more ≡ inserted_all tokens
    left : i + 1 + length more ≡ 1 + many
    few : n + total (words_of body) + body_bytes more ≤ 1 + body_bytes tokens
    here : Held book at body
    records : Records book (at + 1 + length body) more

  pub next : i ≤ many → Next
  next h = go f.rest f.run f.left f.few f.records
    where
      go : (rest : List (List ℕ)) → built_from u i rest ≡ inserted_all tokens → i + length rest ≡ 1 + many → n + body_bytes rest ≤ 1 + body_bytes tokens
          → Records book at rest → Next
      go [] a b c d = absurd (omega arith)
      go (body ∷ more) a b c d = record {
        body = body;
        more = more;
        run = a;
        left = omega arith;
        few = omega (arith, total-append (words_of body) (all_words more));
        here = d.0;
        records = d.1;
      }

  module _ (h : i ≤ many) where
    pub x : Next
    x = next h

    words : Worded t₀ u n i (words_of x.body)
    words = worded t₀ i (words_of x.body) u n f.sized f.shape

    module _ (len : ℕ) (e : len ≡ whole_at book at) where
      pub long : len ≡ length x.body
      long = e ∙ x.here.whole

      -- the body, as the code cuts it out
      abbrev part : List ℕ
      part = take (at + 1 + len - (at + 1)) (drop (at + 1) book)

      pub part-is : part ≡ x.body
      part-is = let z : at + 1 + len - (at + 1) ≡ length x.body = omega (arith, long) in ap (λ m. take m (drop (at + 1) book)) z ∙ x.here.body

      pub fill-inside : at + 1 + len ≤ length book
      fill-inside = omega (arith, long, x.here.inside)

      pub fill-ready : Ready t n 0 (total (words_of part)) × (i < 65536)
      fill-ready = (
        rw (f.held, part-is) (record {
          shape = written-shape t₀ u n f.sized f.shape;
          inside = f.shape.size;
          room = written-room t₀ u n f.sized (n + total (words_of x.body)) (omega arith)
              (room-less t₀ (1 + body_bytes tokens) (n + total (words_of x.body)) (omega (arith, x.few)) f.given.room);
          small = omega (arith, x.few, fit.bodies);
        }),
        omega (arith, f.given.count, fit.count),
      )

      -- the token's words are in, with its number
      pub fill_on : (q : Counted) → q ≡ placed_words t n i (words_of part) → Filling book t₀ many q.tables q.count (at + 1 + len) (i + 1)
      fill_on q p = rw (p ∙ ap (λ t. placed_words t n i (words_of part)) f.held ∙ ap (λ b. placed_words (written u t₀) n i (words_of b)) part-is ∙ words.placed)
          (record {
            given = f.given;
            rest = x.more;
            u = with_words u i (words_of x.body);
            sized = words.sized;
            shape = words.shape;
            held = refl;
            run = x.run;
            left = x.left;
            few = omega (arith, x.few, words.few);
            records = rw long x.records;
          })

  -- all tokens are in: the tables are those of the tokens, in front of what was there before the root
  pub fill_done : many < i → (t' : Tables) → t₀ ≡ rooted t' → Room t' 1 → (ts : List (List ℕ)) → read_book book ≡ accepted ts
      → record { tables = t; count = n } ≡ filled ts t'
  unfolding built filled
  fill_done h t' o r ts e =
      let q : accepted tokens ≡ accepted ts = sym f.given.read ∙ e in
      let z : tokens ≡ ts = cc in
      let b : u ≡ unshifted (built ts) = whole f.rest f.run f.left ∙ inserted-built tokens fit ∙ ap (λ ts. unshifted (built ts)) z in
      let m : n ≡ length (nodes (all_words ts)) = sym f.sized.parents ∙ ap (λ t. length t.parent) b ∙ length-map (nodes (all_words ts)) _ in
      let w : written u t₀ ≡ written u t'
      = ap (written u) (o ∙ root-written t' r) ∙ written-written t' root_only 1 root-sized u n f.sized f.shape.size in
      rw (f.held, w, b, m)
    where
      whole : (rest : List (List ℕ)) → built_from u i rest ≡ inserted_all tokens → i + length rest ≡ 1 + many → u ≡ inserted_all tokens
      whole [] a b = a
      whole (t ∷ ts) a b = absurd (omega arith)

-- The words of the tokens up to place `at` are walked.
pub record Walked (tree : Tables) (count : ℕ) (kids book : List ℕ) (S : ℕ) (l₀ : Lows) (met whole : List ℕ) (at : ℕ) : Type 0 where
  pub walks : Walkable tree count kids met whole
  pub given : Shortest book S
  pub done : List (List ℕ)
  pub passing : Passing book given.tokens at done
  pub walked : lows met whole ≡ words_walked (child_by tree count) S (all_words done) l₀

pub walked_none : {tree : Tables} {count : ℕ} {kids met whole : List ℕ} → Walkable tree count kids met whole
    → {book : List ℕ} {S : ℕ} → Shortest book S → Walked tree count kids book S (lows met whole) met whole 0
walked_none t {book} g = record { walks = t; given = g; done = []; passing = passing-none book g.tokens g.read; walked = refl }

module _ {tree : Tables} {count : ℕ} {kids book : List ℕ} {S : ℕ} {l₀ : Lows} {met whole : List ℕ} {at : ℕ}
    (i : Walked tree count kids book S l₀ met whole at) where
  abbrev child : ℕ → ℕ → Option ℕ
  child = child_by tree count

  -- The record at `at` is next, with n body bytes; `part` is its body as it is cut out.
  module _ (h : at + 1 < length book) (n : ℕ) (w : n ≡ whole_at book at) where
    abbrev body : List ℕ
    body = take (at + 1 + n - (at + 1)) (drop (at + 1) book)

    pub passed : Passing book i.given.tokens (at + 1 + n) (i.done ++ (body ∷ []))
    passed = passing-more i.passing h n w

    pub walked-short : (1 ≤ S) × (S ≤ length body) × (S < 65536)
    walked-short =
        let tokens = i.given.tokens in
        let l = passing-last book tokens (at + 1 + n) i.done body passed in
        omega (arith, i.given.short, accepted-shortest book tokens i.given.read, shortest-le tokens (length i.done) l.0, ap length l.1)

    pub walked_on : (met' whole' : List ℕ) → lows met' whole' ≡ words_walked child S (words_of body) (lows met whole)
        → length met' ≡ length met → length whole' ≡ length whole → Walked tree count kids book S l₀ met' whole' (at + 1 + n)
    walked_on met' whole' e f g = record {
      walks = walkable-same i.walks met' whole' f g;
      given = i.given;
      done = i.done ++ (body ∷ []);
      passing = passed;
      walked = e ∙ ap (words_walked child S (words_of body)) i.walked ∙ sym (words_append child S (all_words i.done) (words_of body) l₀)
          ∙ ap (λ ws. words_walked child S ws l₀) (sym (words_snoc i.done body));
    }

  -- All are.
  pub walked_all : length book ≤ at + 1 → (ts : List (List ℕ)) → read_book book ≡ accepted ts
      → lows met whole ≡ words_walked child S (all_words ts) l₀
  walked_all h ts e =
      let q : accepted i.given.tokens ≡ accepted ts = sym i.given.read ∙ e in
      let z : i.given.tokens ≡ ts = cc in
      i.walked ∙ ap (λ ts. words_walked child S (all_words ts) l₀) (passing-all i.passing h ∙ z)
