-- The tree of an accepted book's words stands in the tables: its nodes can be walked, and filling gives each its shift.
use Rattle.std.specs.Prelude.{ℕ, ◌+◌, ◌-◌, ◌≤◌, ◌<◌, ◌≡◌, List, [], map, get_or, set, replicate}
use Rattle.std.proofs.Common.{arith, subst, ◌∙◌}
use Rattle.std.proofs.Math.Path.{ap, sym}
use Rattle.std.proofs.Math.Option.{Option, some}
use Rattle.std.proofs.Math.ListN.{length, length-append, length-map, get_or-replicate}
use Rattle.rules.specs.Lists.{same, number_where, over}
use Rattle.rules.specs.Words.{all_words, number_of}
use Rattle.rules.specs.Tokens.{shortest_of, node_shift}
use Rattle.rules.proofs.Laws.Words.{place_of}
use Rattle.rules.proofs.Laws.Endings.{same_refl}
use Rattle.book.specs.Book.{read_book, accepted, max_body, max_bodies}
use Rattle.book.proofs.Laws.Accepted.{Fit, accepted-some, accepted-fit, accepted-shortest}
use Rattle.tables.specs.Tables.{Tables, nodes, above, built}
use Rattle.tables.specs.Walks.{child_by}
use Rattle.tables.proofs.Laws.Shape.{Found, child-found}
use Rattle.tables.proofs.Laws.WordsAdded.{Facts}
use Rattle.tables.proofs.Laws.Represents.{nodes-few, tree-facts}
use Rattle.trie.specs.Chain.{Kids}
use Rattle.trie.specs.Filling.{Lows, lows, words_walked, handed_down, Walkable, Shiftable}
use Rattle.trie.proofs.Laws.Chain.{child-alike}
use Rattle.trie.proofs.Laws.Filling.{filled-shifts}

module _ {book : List ℕ} {t₀ : Tables} {count S : ℕ} (s : Shiftable book t₀ count S) where
  abbrev ts : List (List ℕ)
  ts = s.given.tokens

  abbrev ws : List (List ℕ)
  ws = all_words ts

  abbrev t : Tables
  t = record t₀ { token = s.token }

  fit : Fit ts
  fit = accepted-fit book ts s.given.read

  facts : Facts ws (number_of ts) (length ws) t count
  facts = subst (Facts ws (number_of ts) (length ws) t) (sym s.size) (tree-facts ts fit t s.tree)

  pub shortest-near : (1 ≤ S) × (S ≤ max_body)
  shortest-near = omega (arith, s.given.short, accepted-shortest book ts s.given.read)

  pub nodes-within : (0 < count) × (count ≤ 1 + max_bodies) × (count ≤ length t₀.parent)
  unfolding built
  nodes-within = (
    facts.shape.size,
    omega (arith, s.size, nodes-few ts, fit.bodies),
    omega (arith, s.size, ap length s.tree.parents.1 ∙ length-append (built ts).parent s.tree.parents.0, length-map (nodes ws) (λ u. number_where (same (above u)) 0 (nodes ws))),
  )

  pub parents-fall : (v : ℕ) → 0 < v → v < count → get_or t₀.parent v 0 < v
  parents-fall = facts.shape.ups

  words-some : 1 ≤ length ws
  words-some =
      let u = get_or ts 0 [] in
      let p = place_of ts 0 u (accepted-some book ts s.given.read) (cc (same_refl u)) in
      omega (arith, p.1)

  -- The walks read the labels, the first children and the siblings.
  module _ (tree : Tables) (l : tree.label ≡ t₀.label) (f : tree.first ≡ t₀.first) (n : tree.next ≡ t₀.next) where
    same-child : (v x : ℕ) → child_by tree count v x ≡ child_by t count v x
    same-child = child-alike tree t l f n count

    pub shifts-walk : (kids met whole : List ℕ) → Kids tree.label tree.first tree.next count kids → count ≤ length met → count ≤ length whole
        → Walkable tree count kids met whole
    shifts-walk kids met whole k m w = record {
      some-node = facts.shape.size;
      below = λ v x c h e. below v x c (child_by t count v x) (sym (same-child v x) ∙ e) (child-found t count facts.shape v x h);
      heads = k;
      mets = m;
      wholes = w;
    }
      where
        below : (v x c : ℕ) (o : Option ℕ) → o ≡ some c → Found t count v 0 x o → c < count
        below v x c o e f = (subst (Found t count v 0 x) e f).1

    -- From entries S, and the root's 1, all words are walked, and the nodes below whole walks are lowered.
    module _ (met : List ℕ) (begun : met ≡ set (over (replicate count S) t₀.shift) 0 1) (walked : Lows)
        (walks : (ts : List (List ℕ)) → read_book book ≡ accepted ts
        → walked ≡ words_walked (child_by tree count) S (all_words ts) (lows met (replicate (1 + max_bodies) S))) where
      alike : child_by tree count ≡ child_by t count
      alike = λ i v x. same-child v x i

      walked_all : walked ≡ words_walked (child_by t count) S ws (lows (set (over (replicate count S) t₀.shift) 0 1) (replicate (1 + max_bodies) S))
      walked_all =
          walks ts s.given.read ∙ ap (λ m. words_walked (child_by tree count) S ws (lows m (replicate (1 + max_bodies) S))) begun
          ∙ ap (λ f. words_walked f S ws (lows (set (over (replicate count S) t₀.shift) 0 1) (replicate (1 + max_bodies) S))) alike

      pub shifts-filled : (down : Lows) → down ≡ handed_down t₀.parent (count - 1) 1 walked
          → (us : List (List ℕ)) → read_book book ≡ accepted us → down.met ≡ over (built us).shift t₀.shift
      unfolding built
      shifts-filled down d us read =
          let q : accepted ts ≡ accepted us = sym s.given.read ∙ read in
          let z : ts ≡ us = cc in
          ap (λ l. l.met) (d ∙ ap (handed_down t₀.parent (count - 1) 1) walked_all)
          ∙ filled-shifts ws (number_of ts) t count facts S words-some shortest-near.0 t₀.shift (replicate (1 + max_bodies) S)
          (λ v h. get_or-replicate (1 + max_bodies) v S 0 (omega (arith, nodes-within.1)))
          ∙ ap (λ S. over (map (node_shift ws S) (nodes ws)) t₀.shift) s.given.short
          ∙ ap (λ ts. over (map (node_shift (all_words ts) (shortest_of ts)) (nodes (all_words ts))) t₀.shift) z
