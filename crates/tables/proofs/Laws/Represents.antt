-- The built tables stand for exactly the endings of the tokens' words (`Represents`), whatever follows them in the lists that are lent.
use Rattle.std.specs.Prelude.{ℕ, ◌+◌, ◌-◌, ◌≤◌, ◌<◌, min, ◌≡◌, refl, List, ◌++◌, map, get_or}
use native.Mathlib.Omega.{arith}
use Rattle.std.proofs.Math.Path.{ap}
use Rattle.std.proofs.Common.{sym, subst, ◌∙◌, length-append}
use Rattle.std.proofs.Math.ListN.{length, get_or-append}
use Rattle.std.proofs.lemmas.List.{length-map}
use Rattle.std.proofs.Math.Seq.{take-length}
use Rattle.rules.specs.Lists.{any_of}
use Rattle.rules.specs.Words.{all_words, number_of}
use Rattle.rules.specs.Tokens.{fits, node_shift, shift_of, body_bytes, shortest_of, longest_of}
use Rattle.rules.proofs.Laws.Lengths.{longest-ge, shortest-is}
use Rattle.rules.proofs.Laws.Tests.{least-ge, least-upto}
use Rattle.rules.proofs.Laws.Exact.Shift.{shift-upto}
use Rattle.rules.proofs.Laws.Words.{length-of}
use Rattle.book.specs.Book.{max_body}
use Rattle.book.proofs.Laws.Accepted.{Fit}
use Rattle.tables.specs.Tables.{Tables, nodes, built, Lent, shortest_table}
use Rattle.tables.specs.Inserted.{inserted_words, unshifted, root_only}
use Rattle.tables.specs.Walks.{ending, depth, words}
use Rattle.tables.proofs.Laws.Shape.{ending-step, ending-apart}
use Rattle.tables.proofs.Laws.WordsAdded.{Facts, facts-agree, built-facts}
use Rattle.tables.proofs.Laws.Numbering.{words-numbered}
use Rattle.tables.proofs.Laws.Nodes.{real, deep, stands, child, leaf, bytes, lifts, shift_same, token, words-pass}
use Rattle.tables.proofs.Laws.Sound.{fine}
use Rattle.tables.proofs.Laws.Same.{map_at, siblings-length, words-built}
use Rattle.tables.specs.Represents.{Represents}

lent_at : (l l' more : List ℕ) (n v : ℕ) → l' ≡ l ++ more → length l ≡ n → v < n → get_or l' v 0 ≡ get_or l v 0
lent_at l l' more n v e h k = ap (λ l. get_or l v 0) e ∙ get_or-append l more 0 v (omega arith)

lent_length : (l l' more : List ℕ) (n : ℕ) → l' ≡ l ++ more → length l ≡ n → n ≤ length l'
lent_length l l' more n e h = omega (arith, ap length e ∙ length-append l more)

-- There are at most as many nodes as body bytes, and the root.
pub nodes-few : (tokens : List (List ℕ)) → length (nodes (all_words tokens)) ≤ 1 + body_bytes tokens
nodes-few tokens = let b = built-facts (all_words tokens) (number_of tokens) in omega (arith, b.few, rw take-length at b.facts.listed.size)

-- the tree alone
lent-tree : {t u : Tables} → Lent t u → Lent t (unshifted u)
lent-tree {t} l = record { parents = l.parents; labels = l.labels; tokens = l.tokens; firsts = l.firsts; nexts = l.nexts; shifts = (t.shift, refl) }

module _ (tokens : List (List ℕ)) (fit : Fit tokens) where
  abbrev ws : List (List ℕ)
  ws = all_words tokens

  abbrev number : List ℕ → ℕ
  number = number_of tokens

  -- what was inserted, in front of what is lent
  inserted-facts : (t : Tables) → Lent t (inserted_words root_only number ws) → Facts ws number (length ws) t (length (nodes ws))
  inserted-facts t l =
      let u = inserted_words root_only number ws in
      let b = built-facts ws number in
      let n = b.size in
      let z = b.sized in
      let count : length (nodes ws) ≡ n = rw take-length at b.facts.listed.size in
      rw count (facts-agree u t n b.facts.shape
      (record {
        up_same = λ v h. lent_at u.parent t.parent l.parents.0 n v l.parents.1 z.parents h;
        tag_same = λ v h. lent_at u.label t.label l.labels.0 n v l.labels.1 z.labels h;
      })
      (record {
        head-same = λ v h. lent_at u.first t.first l.firsts.0 n v l.firsts.1 z.firsts h;
        sib-same = λ v h. lent_at u.next t.next l.nexts.0 n v l.nexts.1 z.nexts h;
      })
      (λ v h. lent_at u.token t.token l.tokens.0 n v l.tokens.1 z.tokens h)
      ws number (length ws) b.facts)

  -- The built tables, whatever stands in the list of shifts.
  pub tree-facts : (t : Tables) → Lent t (unshifted (built tokens)) → Facts ws number (length ws) t (length (nodes ws))
  tree-facts t l = inserted-facts t (subst (Lent t) (sym (words-built tokens fit)) l)

  -- as many entries as nodes, in every list
  held : (t : Tables) → Lent t (built tokens) → length (nodes ws) ≤ shortest_table t
  unfolding built
  held t l =
      let u = built tokens in
      let n = length (nodes ws) in
      omega (
        arith,
        lent_length u.parent t.parent l.parents.0 n l.parents.1 (length-map (nodes ws) _),
        lent_length u.label t.label l.labels.0 n l.labels.1 (length-map (nodes ws) _),
        lent_length u.token t.token l.tokens.0 n l.tokens.1 (length-map (nodes ws) _),
        lent_length u.first t.first l.firsts.0 n l.firsts.1 (length-map (nodes ws) _),
        lent_length u.next t.next l.nexts.0 n l.nexts.1 (siblings-length 1 (nodes ws)),
        lent_length u.shift t.shift l.shifts.0 n l.shifts.1 (length-map (nodes ws) _),
      )

  shift-at : (t : Tables) → Lent t (built tokens) → Facts ws number (length ws) t (length (nodes ws)) → (v : ℕ) → v < length (nodes ws)
      → get_or t.shift v 0 ≡ node_shift ws (shortest_of tokens) (ending t v)
  unfolding built
  shift-at t l fs v h =
      let us = nodes ws in
      let f = node_shift ws (shortest_of tokens) in
      lent_at (map f us) t.shift l.shifts.0 (length us) v l.shifts.1 (length-map us f) h
      ∙ map_at f us v h ∙ ap f (rw take-length at (fs.listed.at v h))

  module _ (some : 1 ≤ length tokens) where
    -- S is the length of a token
    short : (1 ≤ shortest_of tokens) × (shortest_of tokens ≤ max_body)
    short = let r = shortest-is tokens some in omega (arith, fit.each r.0 r.1, r.2)

    -- what the facts say, in the rules' words
    represents : (t : Tables) (n : ℕ) → Facts ws number (length ws) t n → n ≤ shortest_table t → n ≤ 1 + body_bytes tokens
        → ((v : ℕ) → v < n → get_or t.shift v 0 ≡ node_shift ws (shortest_of tokens) (ending t v)) → Represents t n tokens
    represents t n fs h k shifts =
        let ns = words-numbered tokens fit in
        record {
          some-node = fs.shape.size;
          few = k;
          held = h;
          fine = fine ws number t n fs ns (λ v v<. near v v<) h;
          root = refl;
          root-up = fs.shape.root-up;
          up = fs.shape.ups;
          step = ending-step t n fs.shape;
          real = real ws number t n fs;
          deep = deep ws number t n fs (longest_of tokens) (λ j h. let q = length-of tokens j h in omega (arith, q.2, longest-ge tokens q.0 q.1));
          stands = stands ws number t n fs;
          apart = ending-apart t n fs.shape;
          child = child ws number t n fs;
          leaf = leaf ws number t n fs;
          token = token ws number t n fs ns;
          words-pass = words-pass ws number t n fs ns;
          node-shift = shifts;
          shift = λ v o v<.
              cc (shifts v v<, shift_same (words t n) ws (words-pass ws number t n fs ns) (shortest_of tokens) (depth t v) o)
              ∙ cut (shift_of ws (shortest_of tokens) (ending t v) o) (shift-upto ws (shortest_of tokens) short.0 (ending t v) o);
          byte_at = λ S v k v< k<. bytes ws number t n fs (depth t v - 1 - k) v v< (omega arith);
          ancestor = λ S v k v< k≤. lifts ws number t n fs (depth t v - k) v v<;
        }
      where
        near : (v : ℕ) → v < n → (1 ≤ get_or t.shift v 0) × (get_or t.shift v 0 ≤ max_body)
        near v h = omega (arith, shifts v h, least-ge (λ s. any_of (λ w. fits (ending t v) w s) ws) 1 (shortest_of tokens - 1), least-upto (λ s. any_of (λ w. fits (ending t v) w s) ws) 1 (shortest_of tokens - 1), short)

        cut : (m : ℕ) → m ≤ shortest_of tokens → min (shortest_of tokens) m ≡ m
        cut m l = omega arith

    pub built-represents : (t : Tables) → Lent t (built tokens) → Represents t (length (nodes (all_words tokens))) tokens
    built-represents t l =
        let fs = tree-facts t (lent-tree l) in
        represents t (length (nodes ws)) fs (held t l) (nodes-few tokens) (shift-at t l fs)
