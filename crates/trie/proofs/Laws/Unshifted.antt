-- What building answers, as `Answer` has it, where only the tree of the lent tables is told: the sixth table, the shifts, is known apart.
use Rattle.std.specs.Prelude.{ℕ, ◌+◌, ◌≤◌, ◌≡◌, false, List, [], length}
use Rattle.std.proofs.Common.{arith, ap, sym, ◌∙◌, le-ltb}
use Rattle.rules.specs.Lists.{over}
use Rattle.rules.specs.Words.{all_words}
use Rattle.rules.specs.Tokens.{body_bytes}
use Rattle.book.specs.Book.{accepted, Totals, read_book}
use Rattle.book.proofs.Laws.Accepted.{Summed}
use Rattle.tables.specs.Tables.{Tables, shortest_table, too_short, nodes, written, built, Lent, sizes_of, build}
use Rattle.trie.specs.Answers.{tables}
use Rattle.trie.specs.InPlace.{Room, Counted, filled}
use Rattle.trie.specs.Filling.{Shiftable}
use Rattle.trie.proofs.Laws.ByPlaces.{Fillable}
use Rattle.tables.specs.Inserted.{unshifted}
use Rattle.tables.proofs.Laws.Made.{written-lent, answer_to}
use Rattle.tables.proofs.Laws.Represents.{nodes-few}

shortest-room : (t : Tables) (n : ℕ) → n ≤ shortest_table t → Room (unshifted t) n
shortest-room t n h = record { parents = omega arith; labels = omega arith; tokens = omega arith; firsts = omega arith; nexts = omega arith }

module _ (book : List ℕ) (t : Tables) where
  to-long : (tokens : List (List ℕ)) → too_short t tokens ≡ false
      → record { answer = accepted (sizes_of tokens); tables = written (built tokens) t } ≡ answer_to t (accepted tokens)
  to-long tokens q = cc

  module _ (totals : Totals) (s : Summed book totals) (short : ℕ) (e : short ≡ shortest_table t) where
    bodies : totals.bodies ≡ body_bytes s.tokens
    bodies = ap (λ a. a.bodies) s.sums

    pub fillable : 1 + totals.bodies ≤ short → Fillable book (unshifted t) totals.tokens
    fillable h = record {
      tokens = s.tokens;
      read = s.read;
      count = ap (λ a. a.tokens) s.sums;
      room = shortest-room t (1 + body_bytes s.tokens) (omega (arith, bodies));
    }

    -- the tree is there
    module _ (h : 1 + totals.bodies ≤ short) (c : Counted) (f : (ts : List (List ℕ)) → read_book book ≡ accepted ts → c ≡ filled ts (unshifted t)) where
      abbrev u : Tables
      u = c.tables

      pub tree : u ≡ written (unshifted (built s.tokens)) (unshifted t)
      unfolding filled
      tree = ap (λ c. c.tables) (f s.tokens s.read)

      pub many : c.count ≡ length (nodes (all_words s.tokens))
      unfolding filled
      many = ap (λ c. c.count) (f s.tokens s.read)

      pub lists : (t' : Tables) → t' ≡ written (unshifted (built s.tokens)) (unshifted t)
          → Lent (tables t'.parent t'.label t'.token t'.first t'.next t.shift) (unshifted (built s.tokens))
      lists t' e = rw e (written-lent (unshifted (built s.tokens)) (tables t.parent t.label t.token t.first t.next t.shift))

      pub shiftable : Shiftable book (tables u.parent u.label [] u.first u.next t.shift) c.count totals.shortest
      shiftable = record {
        given = record { tokens = s.tokens; read = s.read; short = ap (λ a. a.shortest) s.sums };
        token = u.token;
        tree = lists u tree;
        size = many;
        room = omega (arith, many, nodes-few s.tokens, bodies, shortest-shift);
      }
        where
          shortest-shift : short ≤ length t.shift
          shortest-shift = omega arith

      -- and the shifts
      pub answer-made : (shift : List ℕ) → ((ts : List (List ℕ)) → read_book book ≡ accepted ts → shift ≡ over (built ts).shift t.shift)
          → record {
            answer = accepted (record { nodes = c.count; shortest = totals.shortest; longest = totals.longest });
            tables = tables u.parent u.label u.token u.first u.next shift;
          } ≡ build book t
      answer-made shift g =
          rw (s.sums, many, tree, g s.tokens s.read)
          (to-long s.tokens (le-ltb (shortest_table t) (1 + body_bytes s.tokens) (omega (arith, bodies))) ∙ ap (answer_to t) (sym s.read))
