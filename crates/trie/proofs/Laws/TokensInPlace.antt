-- The tokens of a book in place, one after the other: what was inserted so far, and that in the end the tables are the built ones.
use Rattle.std.specs.Prelude.{ℕ, ◌+◌, ◌≤◌, ◌<◌, ◌≡◌, refl, set}
use Rattle.std.proofs.Common.{arith, ◌∙◌}
use Rattle.std.proofs.Math.Path.{ap, sym}
use mathlib.Core.List.{List, [], ◌∷◌, reverse}
use Rattle.std.proofs.Math.ListN.{length, length-map}
use Rattle.std.proofs.lemmas.List.{length-reverse}
use Rattle.rules.specs.Words.{words_of, all_words}
use Rattle.rules.specs.Tokens.{total, body_bytes}
use Rattle.rules.proofs.Laws.Words.{total-append}
use Rattle.book.specs.Book.{read_book, accepted, bodies_in}
use Rattle.book.proofs.Laws.Bodies.{accepted-bodies}
use Rattle.book.proofs.Laws.Accepted.{Fit, accepted-fit}
use Rattle.tables.specs.Tables.{Tables, nodes, built, written}
use Rattle.trie.specs.InPlace.{Room, Ready, placed, Counted, numbered, placed_words, filled, Fillable}
use Rattle.tables.specs.Inserted.{Grown, inserted, with_word, with_words, root_only, built_from, inserted_all, unshifted}
use Rattle.tables.specs.Shape.{Shape}
use Rattle.tables.proofs.Laws.Shape.{alike}
use Rattle.tables.proofs.Laws.NodeAdded.{Sized}
use Rattle.tables.proofs.Laws.WordAdded.{Inserted, inserts}
use Rattle.tables.proofs.Laws.WordsAdded.{root-shape, root-sized, word-shape, word-sized}
use Rattle.tables.proofs.Laws.Same.{inserted-built}
use Rattle.trie.proofs.Laws.Over.{room-less, over-push, over-set, written-shape, written-room, written-written}
use Rattle.trie.proofs.Laws.InPlace.{placed-written}

-- Words one after the other, into tables whose nodes stand in front of t₀: the tables then, and how many nodes.
pub record Worded (t₀ u : Tables) (n i : ℕ) (ws : List (List ℕ)) : Type 0 where
  pub sized : Sized (with_words u i ws) (length (with_words u i ws).parent)
  pub shape : Shape (with_words u i ws) (length (with_words u i ws).parent)
  pub few : length (with_words u i ws).parent ≤ n + total ws
  pub placed : placed_words (written u t₀) n i ws ≡ record { tables = written (with_words u i ws) t₀; count = length (with_words u i ws).parent }

module _ (t₀ : Tables) (i : ℕ) where
  -- one word
  module _ (w : List ℕ) (u : Tables) (n : ℕ) (z : Sized u n) (s : Shape u n) where
    abbrev g : Grown
    g = inserted u 0 (reverse w)

    abbrev r : Inserted u n 0 (reverse w) g
    r = inserts (reverse w) u n 0 z s s.size

    abbrev u' : Tables
    u' = with_word u i w

    size : length u'.parent ≡ r.size
    size = r.sized.parents

    shape' : Shape u' (length u'.parent)
    shape' = rw size (word-shape u n z s i w)

    sized' : Sized u' (length u'.parent)
    sized' = rw size (word-sized u n z s i w)

    few' : length u'.parent ≤ n + length w
    few' = omega (arith, size, r.few, length-reverse w)

    word-placed : numbered (placed (written u t₀) n 0 (reverse w)) i ≡ record { tables = written u' t₀; count = length u'.parent }
    word-placed =
        ap (λ p. numbered p i) (placed-written t₀ u n 0 z s s.size (reverse w))
        ∙ ap (λ t. record { tables = t; count = length u'.parent })
        (alike _ (written u' t₀) refl refl (over-set g.tables.token t₀.token g.node i (omega (arith, r.inside, r.sized.tokens))) refl refl refl)

  pub worded : (ws : List (List ℕ)) (u : Tables) (n : ℕ) → Sized u n → Shape u n → Worded t₀ u n i ws
  worded [] u n z s = record {
    sized = rw z.parents z;
    shape = rw z.parents s;
    few = omega (arith, z.parents);
    placed = rw z.parents;
  }
  worded (w ∷ ws) u n z s =
      let v = with_word u i w in
      let m = length v.parent in
      let on = worded ws v m (sized' w u n z s) (shape' w u n z s) in
      record {
        sized = on.sized;
        shape = on.shape;
        few = omega (arith, on.few, few' w u n z s);
        placed = ap (λ c. placed_words c.tables c.count i ws) (word-placed w u n z s) ∙ on.placed;
      }

-- The tables t, lent as t₀, have the tokens before number i; the others are to come.
pub record Filling (book : List ℕ) (t₀ t : Tables) (n : ℕ) (rest : List (List ℕ)) (i : ℕ) : Type 0 where
  pub given : Fillable book t₀
  pub u : Tables
  pub sized : Sized u n
  pub shape : Shape u n
  pub held : t ≡ written u t₀
  pub run : built_from u i rest ≡ inserted_all given.tokens
  pub left : i + length rest ≡ 1 + length given.tokens
  pub few : n + body_bytes rest ≤ 1 + body_bytes given.tokens

-- the root's entries
abbrev pub rooted : Tables → Tables
rooted t = record {
  parent = set t.parent 0 0;
  label = set t.label 0 0;
  token = set t.token 0 0;
  first = set t.first 0 0;
  next = set t.next 0 0;
  shift = t.shift;
}

pub root-written : (t : Tables) → Room t 1 → rooted t ≡ written root_only t
root-written t r =
    alike (rooted t) (written root_only t) (sym (over-push 0 0 t.parent r.parents)) (sym (over-push 0 0 t.label r.labels))
    (sym (over-push 0 0 t.token r.tokens)) (sym (over-push 0 0 t.first r.firsts)) (sym (over-push 0 0 t.next r.nexts)) refl

module _ (book : List ℕ) (t : Tables) (f : Fillable book t) where
  pub fill-room : Room t 1
  fill-room = room-less t (1 + body_bytes f.tokens) 1 (omega arith) f.room

  -- the root is in
  pub fill-first : (rest : List (List ℕ)) → rest ≡ bodies_in book → Filling book (rooted t) (rooted t) 1 rest 1
  fill-first rest e = rw (root-written t fill-room, e ∙ accepted-bodies book f.tokens f.read) (record {
    given = record {
      tokens = f.tokens;
      read = f.read;
      room = written-room t root_only 1 root-sized (1 + body_bytes f.tokens) (omega arith) f.room;
    };
    u = root_only;
    sized = root-sized;
    shape = root-shape;
    held = sym (written-written t root_only 1 root-sized root_only 1 root-sized (omega arith));
    run = refl;
    left = omega arith;
    few = omega arith;
  })

module _ {book : List ℕ} {t₀ t : Tables} {n : ℕ} {rest : List (List ℕ)} {i : ℕ} (f : Filling book t₀ t n rest i) where
  abbrev u : Tables
  u = f.u

  abbrev tokens : List (List ℕ)
  tokens = f.given.tokens

  fit : Fit tokens
  fit = accepted-fit book tokens f.given.read

  -- the next token
  module _ (body : List ℕ) (more : List (List ℕ)) (e : rest ≡ body ∷ more) where
    words : Worded t₀ u n i (words_of body)
    words = worded t₀ i (words_of body) u n f.sized f.shape

    run : built_from (with_words u i (words_of body)) (i + 1) more ≡ inserted_all tokens
    run = rw e at f.run

    left : i + 1 + length more ≡ 1 + length tokens
    left = omega (arith, rw e at f.left)

    few : n + total (words_of body) + body_bytes more ≤ 1 + body_bytes tokens
    few = omega (arith, rw e at f.few, total-append (words_of body) (all_words more))

    pub fill-ready : Ready t n 0 (total (words_of body)) × (i < 65536)
    fill-ready = (
      rw f.held (record {
        shape = written-shape t₀ u n f.sized f.shape;
        inside = f.shape.size;
        room = written-room t₀ u n f.sized (n + total (words_of body)) (omega arith)
            (room-less t₀ (1 + body_bytes tokens) (n + total (words_of body)) (omega (arith, few)) f.given.room);
        small = omega (arith, few, fit.bodies);
      }),
      omega (arith, left, fit.count),
    )

    -- the token's words are in, with its number
    pub fill_on : (q : Counted) → q ≡ placed_words t n i (words_of body) → Filling book t₀ q.tables q.count more (i + 1)
    fill_on q p = rw (p ∙ ap (λ t. placed_words t n i (words_of body)) f.held ∙ words.placed)
        (record {
          given = f.given;
          u = with_words u i (words_of body);
          sized = words.sized;
          shape = words.shape;
          held = refl;
          run = run;
          left = left;
          few = omega (arith, few, words.few);
        })

  -- all tokens are in: the tables are those of the tokens, in front of what was there before the root
  pub fill_done : rest ≡ [] → (t' : Tables) → t₀ ≡ rooted t' → Room t' 1 → (ts : List (List ℕ)) → read_book book ≡ accepted ts
      → record { tables = t; count = n } ≡ filled ts t'
  unfolding built filled
  fill_done h t' o r ts e =
      let q : accepted tokens ≡ accepted ts = sym f.given.read ∙ e in
      let z : tokens ≡ ts = cc in
      let all : u ≡ inserted_all tokens = rw h at f.run in
      let b : u ≡ unshifted (built ts) = all ∙ inserted-built tokens fit ∙ ap (λ ts. unshifted (built ts)) z in
      let m : n ≡ length (nodes (all_words ts)) = sym f.sized.parents ∙ ap (λ t. length t.parent) b ∙ length-map (nodes (all_words ts)) _ in
      let w : written u t₀ ≡ written u t'
      = ap (written u) (o ∙ root-written t' r) ∙ written-written t' root_only 1 root-sized u n f.sized f.shape.size in
      rw (f.held, w, b, m)
