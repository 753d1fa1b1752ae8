-- The numbers of the words: from 1 to 256, and of the words alone. Inserting tokens, the words of each with its number, is inserting all
-- words, each with the number found for it.
use Rattle.std.specs.Prelude.{ℕ, zero, suc, ◌+◌, ◌-◌, ◌≤◌, ◌<◌, ◌≡◌, refl, true, List, [], ◌∷◌, ◌++◌, length, get_or}
use Rattle.std.proofs.Common.{arith, ◌∙◌}
use Rattle.rules.specs.Words.{is_word, number_of, words_of, all_words}
use Rattle.rules.proofs.Laws.Words.{word-shared, word_of, token-of, length-of, place_of, Numbered, numbered}
use Rattle.book.specs.Book.{max_tokens, max_body}
use Rattle.book.proofs.Laws.Accepted.{Fit}
use Rattle.tables.specs.Tables.{Tables}
use Rattle.tables.specs.Inserted.{with_word, inserted_words, root_only, built_from, inserted_all}

-- Words that may be a book's, and their numbers: each has one, and an ending that has one is a word.
pub record Numbering (words : List (List ℕ)) (number : List ℕ → ℕ) : Type 0 where
  pub each : (j : ℕ) → j < length words → (1 ≤ length (get_or words j [])) × (length (get_or words j []) ≤ max_body)
  pub least : (j : ℕ) → j < length words → 1 ≤ number (get_or words j [])
  pub most : (u : List ℕ) → number u ≤ max_tokens
  pub only : (u : List ℕ) → 1 ≤ number u → (j : ℕ) × (j < length words) × (get_or words j [] ≡ u)

-- numbers that are the same for the words
numbers-same : (t : Tables) (f g : List ℕ → ℕ) (ws : List (List ℕ)) → ((j : ℕ) → j < length ws → f (get_or ws j []) ≡ g (get_or ws j []))
    → inserted_words t f ws ≡ inserted_words t g ws
numbers-same t f g [] e = refl
numbers-same t f g (w ∷ ws) e = rw (e 0 (omega arith)) (numbers-same (with_word t (g w) w) f g ws (λ j h. e (suc j) (omega arith)))

inserted-append : (t : Tables) (number : List ℕ → ℕ) (ws us : List (List ℕ))
    → inserted_words t number (ws ++ us) ≡ inserted_words (inserted_words t number ws) number us
inserted-append t number [] us = refl
inserted-append t number (w ∷ ws) us = inserted-append (with_word t (number w) w) number ws us

-- tokens from number i on, whose words have their numbers
word-by-word : (number : List ℕ → ℕ) (t : Tables) (i : ℕ) (ts : List (List ℕ))
    → ((j : ℕ) (u : List ℕ) → j < length ts → is_word u (get_or ts j []) ≡ true → i + j ≡ number u)
    → built_from t i ts ≡ inserted_words t number (all_words ts)
word-by-word number t i [] e = refl
word-by-word number t i (body ∷ ts) e =
    let z : i ≡ i + 0 = omega arith in
    let q : (j : ℕ) → j < length (words_of body) → i ≡ number (get_or (words_of body) j [])
    = λ j h. z ∙ e 0 (get_or (words_of body) j []) (omega arith) (word_of body j h) in
    rw (numbers-same t (λ _. i) number (words_of body) q, inserted-append)
    (word-by-word number (inserted_words t number (words_of body)) (i + 1) ts (λ j u h k. omega (arith, e (suc j) u (omega arith) k)))

module _ (tokens : List (List ℕ)) (fit : Fit tokens) where
  -- a word's number is its token's, as no other token has the word
  number_is : (i : ℕ) (u : List ℕ) → i < length tokens → is_word u (get_or tokens i []) ≡ true → 1 + i ≡ number_of tokens u
  number_is i u h e = go (number_of tokens u) (numbered u 1 tokens (omega arith))
    where
      go : (m : ℕ) → Numbered tokens u 1 m → 1 + i ≡ m
      go zero f = absurd (f i h e)
      go (suc m) f =
          let q = word-shared u (get_or tokens i []) (get_or tokens (suc m - 1) []) e f.2 in
          omega (arith, fit.distinct i (suc m - 1) h f.1 q)

  pub words-numbered : Numbering (all_words tokens) (number_of tokens)
  words-numbered = record {
    each = λ j h. let q = length-of tokens j h in omega (arith, q.2, fit.each q.0 q.1);
    least = λ j h. let q = token-of tokens j h in omega (arith, number_is q.0 (get_or (all_words tokens) j []) q.1 q.2);
    most = λ u. most (number_of tokens u) u (numbered u 1 tokens (omega arith));
    only = λ u. only (number_of tokens u) u (numbered u 1 tokens (omega arith));
  }
    where
      most : (m : ℕ) (u : List ℕ) → Numbered tokens u 1 m → m ≤ max_tokens
      most zero u f = omega arith
      most (suc m) u f = omega (arith, f.1, fit.count)

      only : (m : ℕ) (u : List ℕ) → Numbered tokens u 1 m → 1 ≤ m → (j : ℕ) × (j < length (all_words tokens)) × (get_or (all_words tokens) j [] ≡ u)
      only zero u f h = absurd (omega arith)
      only (suc m) u f h = place_of tokens (suc m - 1) u f.1 f.2

  pub by-words : inserted_all tokens ≡ inserted_words root_only (number_of tokens) (all_words tokens)
  by-words = word-by-word (number_of tokens) root_only 1 tokens number_is
