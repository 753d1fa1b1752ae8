-- The tables made by inserting the words are the built ones but for their shifts: their nodes are listed alike (`Listed`), so each entry is
-- what `built` says of that list.
use Rattle.std.specs.Prelude.{ℕ, zero, suc, ◌+◌, ◌-◌, ◌<◌, ◌≡◌, refl, List, [], ◌∷◌, map, length, get_or, drop}
use Rattle.std.proofs.Common.{arith, sym, ◌∙◌, drop_of_length-le, drop-cons, ext_get_or}
use Rattle.std.proofs.lemmas.List.{length-map}
use Rattle.std.proofs.Math.Seq.{take-length}
use Rattle.rules.specs.Lists.{same, number_where}
use Rattle.rules.specs.Words.{number_of, all_words}
use Rattle.rules.proofs.Laws.Tests.{decide, clash, false-test, split}
use Rattle.rules.proofs.Laws.Endings.{same_refl, same→eq}
use Rattle.book.proofs.Laws.Accepted.{Fit}
use Rattle.tables.specs.Tables.{Tables, nodes, label_of, above, is_child, child_from, sibling_from, siblings, built}
use Rattle.tables.specs.Walks.{ending}
use Rattle.tables.specs.Inserted.{inserted_words, unshifted, root_only, inserted_all}
use Rattle.tables.specs.Shape.{up, tag, head, sib, Link, Shape}
use Rattle.tables.proofs.Laws.Shape.{alike, ending-step, ending-apart}
use Rattle.tables.proofs.Laws.Order.{Listed}
use Rattle.tables.proofs.Laws.WordsAdded.{built-facts}
use Rattle.tables.proofs.Laws.Numbering.{words-numbered, by-words}
use Rattle.tables.proofs.Laws.Nodes.{token}

number_at : (u : List ℕ) (i : ℕ) (ts : List (List ℕ)) (j : ℕ) → j < length ts → get_or ts j [] ≡ u
    → ((k : ℕ) → k < j → get_or ts k [] ≡ u → ⊥) → number_where (same u) i ts ≡ i + j
number_at u i [] j h e d = absurd (omega arith)
number_at u i (t ∷ ts) zero h e d = let z : i ≡ i + 0 = omega arith in cc (same_refl u)
number_at u i (t ∷ ts) (suc j) h e d =
    let z : i + 1 + j ≡ i + suc j = omega arith in
    cc (
      false-test (same u t) (λ e. d 0 (omega arith) (sym (same→eq u t e))),
      number_at u (i + 1) ts j (omega arith) e (λ k h q. d (suc k) (omega arith) q),
    )

pub map_at : (f : List ℕ → ℕ) (us : List (List ℕ)) (v : ℕ) → v < length us → get_or (map f us) v 0 ≡ f (get_or us v [])
map_at f [] v h = absurd (omega arith)
map_at f (u ∷ us) zero h = refl
map_at f (u ∷ us) (suc v) h = map_at f us v (omega arith)

pub siblings-length : (i : ℕ) (us : List (List ℕ)) → length (siblings i us) ≡ length us
siblings-length i [] = refl
siblings-length i (u ∷ us) = cc (siblings-length (i + 1) us)

siblings-at : (i : ℕ) (us : List (List ℕ)) (v : ℕ) → v < length us
    → get_or (siblings i us) v 0 ≡ sibling_from (i + v) (get_or us v []) (drop (suc v) us)
siblings-at i [] v h = absurd (omega arith)
siblings-at i (u ∷ us) zero h = let e : i + 0 ≡ i = omega arith in rw e refl
siblings-at i (u ∷ us) (suc v) h = let e : i + suc v ≡ i + 1 + v = omega arith in rw e (siblings-at (i + 1) us v (omega arith))

module _ (t : Tables) (n : ℕ) (s : Shape t n) (us : List (List ℕ)) (l : Listed t n us) where
  -- a list that says f of each node
  pub mapped : (f : List ℕ → ℕ) (m : List ℕ) → length m ≡ n → ((v : ℕ) → v < n → get_or m v 0 ≡ f (ending t v)) → m ≡ map f us
  mapped f m h e = ext_get_or 0 m (map f us) (h ∙ sym l.size ∙ sym (length-map us f)) (λ v v<.
      let k : v < n = omega arith in
      e v k ∙ sym (rw (map_at f us v (omega (arith, l.size)), l.at v k)))

  -- the nodes from v on
  from : (v : ℕ) → v < n → drop v us ≡ ending t v ∷ drop (suc v) us
  from v h = rw (← l.at v h) (drop-cons us v [] (omega (arith, l.size)))

  parent_is : (v : ℕ) → v < n → up t v ≡ number_where (same (above (ending t v))) 0 us
  parent_is v h = split v 0
      (λ e. rw (e, s.root-up) (at 0 s.size))
      (λ e. let k = s.ups v (omega arith) h in rw (ending-step t n s v (omega arith) h) (at (up t v) (omega arith)))
    where
      at : (w : ℕ) → w < n → w ≡ number_where (same (ending t w)) 0 us
      at w k = sym (number_at (ending t w) 0 us w (omega (arith, l.size)) (l.at w k)
          (λ v v< e. omega (arith, ending-apart t n s v w (omega arith) k (sym (l.at v (omega arith)) ∙ e))) ∙ omega arith)

  label_is : (v : ℕ) → v < n → tag t v ≡ label_of (ending t v)
  label_is v h = split v 0 (λ e. rw e s.root-tag) (λ e. rw (ending-step t n s v (omega arith) h))

  -- the least node after w with parent p is the first child after w
  linked : (fuel p w r : ℕ) → p < n → suc w + fuel ≡ n → Link t n p w r → r ≡ child_from (w + 1) (ending t p) (drop (suc w) us)
  linked zero p w r p< h k =
      rw (drop_of_length-le us {i = suc w} (omega (arith, l.size))) (split r 0 (λ e. e) (λ e. absurd (omega (arith, k.node (omega arith)))))
  linked (suc fuel) p w r p< h k =
      let a : suc w < n = omega arith in
      let q = ending-step t n s (suc w) (omega arith) a in
      rw (from (suc w) a) (decide (λ c. r ≡ c) (is_child (ending t p) (ending t (suc w))) _ _
      (λ e. let d = ending-apart t n s p (up t (suc w)) p< (omega (arith, s.ups (suc w) (omega arith) a)) (same→eq _ _ (rw q at e)) in
      let m = k.least (suc w) (omega arith) a (sym d) in
      omega (arith, k.node m.0))
      (λ e. let d : up t (suc w) ≡ p → ⊥ = λ f. clash _ (rw f (same_refl (ending t p))) (rw q at e) in
      let i : w + 1 + 1 ≡ suc w + 1 = omega arith in
      rw i (linked fuel p (suc w) r p< (omega arith) (record {
        node = λ o. let b = k.node o in (split r (suc w) (λ f. absurd (d (rw f at b.2))) (λ f. omega (arith, b.0)), b.1, b.2);
        least = λ u b c f. k.least u (omega arith) c f;
      }))))

  first-is : (v : ℕ) → v < n → head t v ≡ child_from 0 (ending t v) us
  first-is v h = linked (n - 1) v 0 (head t v) h (omega (arith, s.size)) (s.heads v h) ∙ sym (rw (from 0 s.size))

  next-is : (v : ℕ) → v < n → sib t v ≡ sibling_from (1 + v) (ending t v) (drop (suc v) us)
  next-is v h = split v 0
      (λ e. rw e s.root-sib)
      (λ e. let a = s.ups v (omega arith) h in
      let i : 1 + v ≡ v + 1 = omega arith in
      rw (ending-step t n s v (omega arith) h, i) (linked (n - suc v) (up t v) v (sib t v) (omega arith) (omega arith) (s.sibs v (omega arith) h)))

  nexts-are : length t.next ≡ n → t.next ≡ siblings 1 us
  nexts-are h = ext_get_or 0 t.next (siblings 1 us) (h ∙ sym l.size ∙ sym (siblings-length 1 us)) (λ v v<.
      let k : v < n = omega arith in
      next-is v k ∙ sym (rw (siblings-at 1 us v (omega (arith, l.size)), l.at v k)))

module _ (tokens : List (List ℕ)) (fit : Fit tokens) where
  pub words-built : inserted_words root_only (number_of tokens) (all_words tokens) ≡ unshifted (built tokens)
  unfolding built
  words-built =
      let words = all_words tokens in
      let number = number_of tokens in
      let b = built-facts words number in
      let t = inserted_words root_only number words in
      let n = b.size in
      let s = b.facts.shape in
      let us = nodes words in
      let l : Listed t n us = rw take-length at b.facts.listed in
      alike t (unshifted (built tokens))
      (mapped t n s us l (λ u. number_where (same (above u)) 0 us) t.parent b.sized.parents (parent_is t n s us l))
      (mapped t n s us l label_of t.label b.sized.labels (label_is t n s us l))
      (mapped t n s us l number t.token b.sized.tokens (token words number t n b.facts (words-numbered tokens fit)))
      (mapped t n s us l (λ u. child_from 0 u us) t.first b.sized.firsts (first-is t n s us l))
      (nexts-are t n s us l b.sized.nexts)
      b.sized.shifts

  pub inserted-built : inserted_all tokens ≡ unshifted (built tokens)
  inserted-built = by-words tokens fit ∙ words-built
