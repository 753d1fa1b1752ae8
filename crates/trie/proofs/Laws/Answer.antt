-- What building answers, from what reading the book answered.
use Rattle.std.specs.Prelude.{ℕ, ◌+◌, ◌≤◌, ◌<◌, ◌≡◌, true, false, List, [], length}
use Rattle.std.proofs.Common.{arith, sym, ◌∙◌, lt-ltb, le-ltb}
use Rattle.std.proofs.Math.Path.{ap}
use Rattle.rules.specs.Lists.{over}
use Rattle.rules.specs.Words.{all_words}
use Rattle.rules.specs.Tokens.{body_bytes}
use Rattle.book.specs.Book.{Reading, accepted, refused, Totals, summary, read_book}
use Rattle.book.proofs.Laws.Accepted.{Summed}
use Rattle.tables.specs.Tables.{Tables, shortest_table, too_short, nodes, written, built, Lent, sizes_of, build}
use Rattle.trie.specs.Answers.{tables}
use Rattle.trie.specs.InPlace.{Room, Counted, filled, Fillable}
use Rattle.trie.specs.Filling.{Shiftable}
use Rattle.tables.specs.Inserted.{unshifted}
use Rattle.tables.proofs.Laws.Made.{written-lent, answer_to}
use Rattle.tables.proofs.Laws.Represents.{nodes-few}

shortest-room : (t : Tables) (n : ℕ) → n ≤ shortest_table t → Room t n
shortest-room t n h = record { parents = omega arith; labels = omega arith; tokens = omega arith; firsts = omega arith; nexts = omega arith }

module _ (book : List ℕ) (t : Tables) where
  -- refusals 1 to 6
  pub answer-unread : (k v : ℕ) → refused k v ≡ summary (read_book book) → record { answer = refused k v; tables = t } ≡ build book t
  answer-unread k v = go (read_book book)
    where
      go : (r : Reading) → refused k v ≡ summary r → record { answer = refused k v; tables = t } ≡ answer_to t r
      go (accepted tokens) q = absurd (let z : ◌≡◌ {A = ℕ} 0 1 = cc in omega arith)
      go (refused l w) q = cc

  to-short : (tokens : List (List ℕ)) → too_short t tokens ≡ true → record { answer = refused 7 (1 + body_bytes tokens); tables = t } ≡ answer_to t (accepted tokens)
  to-short tokens q = cc

  to-long : (tokens : List (List ℕ)) → too_short t tokens ≡ false
      → record { answer = accepted (sizes_of tokens); tables = written (built tokens) t } ≡ answer_to t (accepted tokens)
  to-long tokens q = cc

  module _ (totals : Totals) (s : Summed book totals) (short : ℕ) (e : short ≡ shortest_table t) where
    bodies : totals.bodies ≡ body_bytes s.tokens
    bodies = ap (λ a. a.bodies) s.sums

    -- refusal 7
    pub answer-short : short < 1 + totals.bodies → record { answer = refused 7 (1 + totals.bodies); tables = t } ≡ build book t
    answer-short h =
        ap (λ n. record { answer = refused 7 (1 + n); tables = t }) bodies
        ∙ to-short s.tokens (lt-ltb (shortest_table t) (1 + body_bytes s.tokens) (omega (arith, bodies)))
        ∙ ap (answer_to t) (sym s.read)

    pub fillable : 1 + totals.bodies ≤ short → Fillable book t
    fillable h = record {
      tokens = s.tokens;
      read = s.read;
      room = shortest-room t (1 + body_bytes s.tokens) (omega (arith, bodies));
    }

    -- the tree is there
    module _ (h : 1 + totals.bodies ≤ short) (c : Counted) (f : (ts : List (List ℕ)) → read_book book ≡ accepted ts → c ≡ filled ts t) where
      abbrev u : Tables
      u = c.tables

      tree : u ≡ written (unshifted (built s.tokens)) t
      unfolding filled
      tree = ap (λ c. c.tables) (f s.tokens s.read)

      many : c.count ≡ length (nodes (all_words s.tokens))
      unfolding filled
      many = ap (λ c. c.count) (f s.tokens s.read)

      -- the shifts are as they were lent
      same : u.shift ≡ t.shift
      same = ap (λ t. t.shift) tree

      lists : (t' : Tables) → t' ≡ written (unshifted (built s.tokens)) t → Lent t' (unshifted (built s.tokens))
      lists t' e = rw e (written-lent (unshifted (built s.tokens)) t)

      pub shiftable : Shiftable book (record u { token = [] }) c.count totals.shortest
      shiftable = record {
        given = record { tokens = s.tokens; read = s.read; short = ap (λ a. a.shortest) s.sums };
        token = u.token;
        tree = lists u tree;
        size = many;
        room = omega (arith, many, nodes-few s.tokens, bodies, shortest-shift, ap length same);
      }
        where
          shortest-shift : short ≤ length t.shift
          shortest-shift = omega arith

      -- and the shifts
      pub answer-made : (shift : List ℕ) → ((ts : List (List ℕ)) → read_book book ≡ accepted ts → shift ≡ over (built ts).shift u.shift)
          → record {
            answer = accepted (record { nodes = c.count; shortest = totals.shortest; longest = totals.longest });
            tables = tables u.parent u.label u.token u.first u.next shift;
          } ≡ build book t
      answer-made shift g =
          rw (s.sums, many, g s.tokens s.read, tree)
          (to-long s.tokens (le-ltb (shortest_table t) (1 + body_bytes s.tokens) (omega (arith, bodies))) ∙ ap (answer_to t) (sym s.read))
