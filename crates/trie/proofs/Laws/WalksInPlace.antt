-- The walks of a word at its shifts, of the words of a body, and of those of a book, record by record.
use Rattle.std.specs.Prelude.{ℕ, zero, suc, ◌+◌, ◌-◌, ◌≤◌, ◌<◌, ◌≡◌, refl, true, false, List, [], ◌∷◌, ◌++◌, reverse, length, get_or}
use Rattle.std.proofs.Common.{arith, ap, sym, ◌∙◌}
use Rattle.std.proofs.Math.Option.{Option}
use Rattle.std.proofs.lemmas.List.{get_or_default}
use Rattle.rules.specs.Words.{has_reverse, words_of, all_words}
use Rattle.rules.specs.Tokens.{shortened}
use Rattle.rules.proofs.Laws.Words.{words-both, words-own, words_snoc}
use Rattle.rules.proofs.Laws.Lengths.{shortest-le}
use Rattle.book.specs.Book.{read_book, accepted, bodies_in}
use Rattle.book.proofs.Laws.Accepted.{accepted-shortest}
use Rattle.book.proofs.Laws.Bodies.{accepted-bodies}
use Rattle.tables.specs.Tables.{Tables}
use Rattle.tables.specs.Walks.{child_by}
use Rattle.trie.specs.Filling.{Lows, lows, walked_at, word_walked, words_walked, Walkable, head_at, NextMet, Shortest}
use Rattle.trie.proofs.Laws.FillingInPlace.{walk-still}

-- Lists of the same lengths serve as well.
pub walkable-same : {tree : Tables} {count : ℕ} {kids met whole : List ℕ} → Walkable tree count kids met whole
    → (met' whole' : List ℕ) → length met' ≡ length met → length whole' ≡ length whole → Walkable tree count kids met' whole'
walkable-same t met' whole' m w = record {
  some-node = t.some-node;
  below = t.below;
  heads = t.heads;
  mets = omega (arith, t.mets);
  wholes = omega (arith, t.wholes);
}

-- A word's walks from s on are still to come.
pub record Shifting (tree : Tables) (count : ℕ) (kids word : List ℕ) (S : ℕ) (l₀ : Lows) (met whole : List ℕ) (s : ℕ) : Type 0 where
  pub walks : Walkable tree count kids met whole
  pub upto : s ≤ S
  pub rest : word_walked (child_by tree count) word s (S - s) (lows met whole)
      ≡ word_walked (child_by tree count) word 1 (S - 1) l₀

module _ {tree : Tables} {count : ℕ} {kids word : List ℕ} {S : ℕ} {l₀ : Lows} {met whole : List ℕ} {s : ℕ}
    (i : Shifting tree count kids word S l₀ met whole s) where
  abbrev child : ℕ → ℕ → Option ℕ
  child = child_by tree count

  pub shifting-end : S ≤ s → lows met whole ≡ word_walked child word 1 (S - 1) l₀
  shifting-end h = let z : S - s ≡ 0 = omega arith in rw z at i.rest

  module _ (short : S ≤ length word) (bytes : (j : ℕ) → j < length word → get_or word j 0 < 256) where
    -- Shifts without a first node change nothing.
    skip : (n from : ℕ) → from + n ≤ S → ((j : ℕ) → from ≤ j → j < from + n → head_at kids word j ≡ 0)
        → word_walked child word from (S - from) (lows met whole) ≡ word_walked child word (from + n) (S - (from + n)) (lows met whole)
    skip zero from h none = let z : from + 0 ≡ from = omega arith in rw z
    skip (suc n) from h none =
        let a : S - from ≡ suc (S - (from + 1)) = omega arith in
        let b : from + suc n ≡ from + 1 + n = omega arith in
        let last = length word - 1 - from in
        let still = walk-still i.walks word from last (omega arith) refl (get_or word last 0) refl (bytes last (omega arith)) (none from (omega arith) (omega arith)) (lows met whole) in
        rw (a, b) (ap (word_walked child word (from + 1) (S - (from + 1))) still ∙ skip n (from + 1) (omega arith) (λ j h k. none j (omega arith) (omega arith)))

    -- The next shift with a first node, or the end.
    module _ (r : ℕ) (m : NextMet kids word s S r) where
      from-there : word_walked child word r (S - r) (lows met whole) ≡ word_walked child word 1 (S - 1) l₀
      from-there =
          let z : s + (r - s) ≡ r = omega (arith, m.order) in
          rw z at (sym (skip (r - s) s (omega (arith, m.order, m.upto)) (λ j h k. m.none_before j h (omega (arith, m.order))))) ∙ i.rest

      pub shifting-none : r ≡ S → lows met whole ≡ word_walked child word 1 (S - 1) l₀
      shifting-none e = let z : S - r ≡ 0 = omega arith in rw z at from-there

      pub shifting-on : r < S → (met' whole' : List ℕ) → lows met' whole' ≡ walked_at child r (reverse (shortened word r)) 0 (lows met whole)
          → length met' ≡ length met → length whole' ≡ length whole
          → Shifting tree count kids word S l₀ met' whole' (r + 1)
      shifting-on h met' whole' e f g =
          let z : S - r ≡ suc (S - (r + 1)) = omega arith in
          record {
            walks = walkable-same i.walks met' whole' f g;
            upto = omega arith;
            rest = rw e (rw z at from-there);
          }

-- The words of a body: its bytes in book order make l₁ of l.
module _ (child : ℕ → ℕ → Option ℕ) (S : ℕ) (body : List ℕ) (l : Lows) {l₁ : Lows} (e : l₁ ≡ word_walked child body 1 (S - 1) l) where
  pub words-one : has_reverse body ≡ false → l₁ ≡ words_walked child S (words_of body) l
  words-one h = e ∙ ap (λ ws. words_walked child S ws l) (sym (words-own body h))

  pub words-two : has_reverse body ≡ true → (l₂ : Lows) → l₂ ≡ word_walked child (reverse body) 1 (S - 1) l₁ → l₂ ≡ words_walked child S (words_of body) l
  words-two h l₂ q = q ∙ ap (word_walked child (reverse body) 1 (S - 1)) e ∙ ap (λ ws. words_walked child S ws l) (sym (words-both body h))

pub words_append : (child : ℕ → ℕ → Option ℕ) (S : ℕ) (us vs : List (List ℕ)) (l : Lows)
    → words_walked child S (us ++ vs) l ≡ words_walked child S vs (words_walked child S us l)
words_append child S [] vs l = refl
words_append child S (u ∷ us) vs l = words_append child S us vs (word_walked child u 1 (S - 1) l)

-- The words of the bodies `done` are walked.
pub record Walked (tree : Tables) (count : ℕ) (kids book : List ℕ) (S : ℕ) (l₀ : Lows) (met whole : List ℕ) (done : List (List ℕ)) : Type 0 where
  pub walks : Walkable tree count kids met whole
  pub given : Shortest book S
  pub walked : lows met whole ≡ words_walked (child_by tree count) S (all_words done) l₀

pub walked_none : {tree : Tables} {count : ℕ} {kids met whole : List ℕ} → Walkable tree count kids met whole
    → {book : List ℕ} {S : ℕ} → Shortest book S → Walked tree count kids book S (lows met whole) met whole []
walked_none t g = record { walks = t; given = g; walked = refl }

module _ {tree : Tables} {count : ℕ} {kids book : List ℕ} {S : ℕ} {l₀ : Lows} {met whole : List ℕ} {done : List (List ℕ)}
    (i : Walked tree count kids book S l₀ met whole done) where
  tokens : bodies_in book ≡ i.given.tokens
  tokens = accepted-bodies book i.given.tokens i.given.read

  -- A body of the book is at least S long.
  pub walked-short : (n : ℕ) (part other : List ℕ) → (n < length (bodies_in book)) × (part ≡ get_or (bodies_in book) n other) → (1 ≤ S) × (S ≤ length part) × (S < 65536)
  walked-short n part other h =
      let inside : n < length i.given.tokens = rw tokens at h.0 in
      let same : part ≡ get_or i.given.tokens n [] = h.1 ∙ ap (λ ts. get_or ts n other) tokens ∙ get_or_default i.given.tokens n other [] inside in
      omega (arith, i.given.short, accepted-shortest book i.given.tokens i.given.read, shortest-le i.given.tokens n inside, ap length same)

  pub walked_on : (part met' whole' : List ℕ) → lows met' whole' ≡ words_walked (child_by tree count) S (words_of part) (lows met whole)
      → length met' ≡ length met → length whole' ≡ length whole → Walked tree count kids book S l₀ met' whole' (done ++ (part ∷ []))
  walked_on part met' whole' e f g =
      let child = child_by tree count in
      record {
        walks = walkable-same i.walks met' whole' f g;
        given = i.given;
        walked = e ∙ ap (words_walked child S (words_of part)) i.walked ∙ sym (words_append child S (all_words done) (words_of part) l₀)
            ∙ ap (λ ws. words_walked child S ws l₀) (sym (words_snoc done part));
      }

  -- All are.
  pub walked_all : done ≡ bodies_in book → (ts : List (List ℕ)) → read_book book ≡ accepted ts
      → lows met whole ≡ words_walked (child_by tree count) S (all_words ts) l₀
  walked_all h ts e = i.walked ∙ ap (λ ts. words_walked (child_by tree count) S (all_words ts) l₀) (h ∙ accepted-bodies book ts e)
