-- What words are, without how they are made: a token is a word of itself, its words have its length, and tokens that share a word are words of
-- each other. And the tests over all words, and the numbers of their tokens.
use Rattle.std.specs.Prelude.{ℕ, zero, suc, ◌+◌, ◌-◌, ◌≤◌, ◌<◌, ◌≡◌, refl, Bool, true, false, ◌&&◌, ◌||◌, ◌⊎◌, eqb, length, get_or}
use Rattle.std.proofs.Common.{arith, ap, sym, ◌∙◌, inl, inr, eqb-true}
use mathlib.Core.List.{List, [], ◌∷◌, ◌++◌, append_assoc, append-nil, reverse, reverse-cons, reverse-reverse}
use Rattle.std.proofs.lemmas.Bool.{not-false}
use Rattle.std.proofs.lemmas.List.{length-reverse, get_or_at}
use Rattle.std.proofs.Math.ListN.{get_or-append}
use Rattle.rules.specs.Lists.{any_of, same, number_where}
use Rattle.rules.specs.Words.{is_card, is_word, has_reverse, words_of, all_words}
use Rattle.rules.specs.Tokens.{total, body_bytes}
use Rattle.rules.proofs.Laws.Tests.{decide, clash, and_l, and_r, and-n, or_r, below_suc, any_of-in, any_of-out}
use Rattle.rules.proofs.Laws.Endings.{same_refl, same→eq}
use Rattle.rules.proofs.Laws.Lengths.{LengthOfSome}

-- u is t, or t is a card number and u its reverse
abbrev pub EitherOrder : List ℕ → List ℕ → Type 0
EitherOrder u t = (u ≡ t) ⊎ ((is_card (length t) ≡ true) × (u ≡ reverse t))

or_cases : (a b : Bool) → (a || b) ≡ true → (a ≡ true) ⊎ (b ≡ true)
or_cases true b e = inl refl
or_cases false b e = inr e

pub word-cases : (u t : List ℕ) → is_word u t ≡ true → EitherOrder u t
word-cases u t e = elim (or_cases (same u t) (is_card (length u) && same u (reverse t)) e) [
  | inl p ↦ inl (same→eq u t p)
  | inr p ↦ (let q = same→eq u (reverse t) (and_r (is_card (length u)) _ p) in
      inr (ap is_card (sym (ap length q ∙ length-reverse t)) ∙ and_l (is_card (length u)) _ p, q))
]

is_word_lem : (u t : List ℕ) → EitherOrder u t → is_word u t ≡ true
is_word_lem u t (inl e) = rw e (cc (same_refl t))
is_word_lem u t (inr e) = rw (e.1, length-reverse t, e.0) (or_r (same (reverse t) t) _ (λ _. same_refl (reverse t)))

pub own-word : (t : List ℕ) → is_word t t ≡ true
own-word t = is_word_lem t t (inl refl)

-- the bytes of a reverse
pub reverse-at : (l : List ℕ) (i : ℕ) → i < length l → get_or (reverse l) i 0 ≡ get_or l (length l - 1 - i) 0
reverse-at [] i h = absurd (omega arith)
reverse-at (x ∷ l) i h =
    ap (λ m. get_or m i 0) (reverse-cons x l) ∙ below_suc i (length l) h
    (λ k.
    let z : suc (length l) - 1 - i ≡ suc (length l - 1 - i) = omega arith in
    get_or-append (reverse l) (x ∷ []) 0 i (omega (arith, length-reverse l)) ∙ reverse-at l i k ∙ rw z)
    (λ e.
    let z : suc (length l) - 1 - i ≡ 0 = omega arith in
    get_or_at (reverse l) x [] 0 i (length-reverse l ∙ sym e) ∙ rw z)

pub word-length : (u t : List ℕ) → is_word u t ≡ true → length u ≡ length t
word-length u t e = elim (word-cases u t e) [ inl q ↦ ap length q | inr q ↦ ap length q.1 ∙ length-reverse t ]

-- Tokens that share a word are words of each other.
pub word-shared : (w t u : List ℕ) → is_word w t ≡ true → is_word w u ≡ true → is_word t u ≡ true
word-shared w t u e f = is_word_lem t u (go (word-cases w t e) (word-cases w u f))
  where
    long : length t ≡ length u
    long = sym (word-length w t e) ∙ word-length w u f

    go : EitherOrder w t → EitherOrder w u → EitherOrder t u
    go (inl p) (inl q) = inl (sym p ∙ q)
    go (inl p) (inr q) = inr (q.0, sym p ∙ q.1)
    go (inr p) (inl q) = inr (rw long at p.0, sym (reverse-reverse t) ∙ ap reverse (sym p.1 ∙ q))
    go (inr p) (inr q) = inl (sym (reverse-reverse t) ∙ ap reverse (sym p.1 ∙ q.1) ∙ reverse-reverse u)

pub word-sym : (u t : List ℕ) → is_word u t ≡ true → is_word t u ≡ true
word-sym u t e = word-shared u t u e (own-word u)

-- Each entry of a token's words is one.
pub word_of : (t : List ℕ) (j : ℕ) → j < length (words_of t) → is_word (get_or (words_of t) j []) t ≡ true
word_of t =
    decide (λ ws. (j : ℕ) → j < length ws → is_word (get_or ws j []) t ≡ true) (has_reverse t) _ _
    (λ c j h. second (and_l (is_card (length t)) _ c) j h) (λ _ j h. first j h)
  where
    first : (j : ℕ) → j < 1 → is_word (get_or (t ∷ []) j []) t ≡ true
    first zero h = own-word t
    first (suc j) h = absurd (omega arith)

    second : is_card (length t) ≡ true → (j : ℕ) → j < 2 → is_word (get_or (t ∷ reverse t ∷ []) j []) t ≡ true
    second c zero h = own-word t
    second c (suc zero) h = is_word_lem (reverse t) t (inr (c, refl))
    second c (suc (suc j)) h = absurd (omega arith)

-- A test over all words.
pub any_of-append : (p : List ℕ → Bool) (l m : List (List ℕ)) → any_of p (l ++ m) ≡ (any_of p l || any_of p m)
any_of-append p [] m = refl
any_of-append p (a ∷ l) m = rw (any_of-append p l m) (go (p a))
  where
    go : (b : Bool) → (b || (any_of p l || any_of p m)) ≡ (b || any_of p l || any_of p m)
    go true = refl
    go false = refl

module _ (p : List ℕ → Bool) where
  -- some word of t
  pub word-passes : (u t : List ℕ) → is_word u t ≡ true → p u ≡ true → any_of p (words_of t) ≡ true
  word-passes u t e h = elim (word-cases u t e) [
    | inl q ↦ decide (λ ws. any_of p ws ≡ true) (has_reverse t) _ _ (λ _. cc (q, h)) (λ _. cc (q, h))
    | inr q ↦ decide (λ ws. any_of p ws ≡ true) (has_reverse t) _ _
        (λ _. or_r (p t) _ (λ _. cc (q.1, h)))
        (λ f. and-n (is_card (length t)) _ _ f (λ c. absurd (clash _ q.0 c))
        (λ r. let z : t ≡ reverse t = same→eq t (reverse t) (not-false (same t (reverse t)) r) in cc (q.1, h)))
  ]

  pub word_in : (tokens : List (List ℕ)) (i : ℕ) (u : List ℕ) → i < length tokens → is_word u (get_or tokens i []) ≡ true → p u ≡ true
      → any_of p (all_words tokens) ≡ true
  word_in [] i u h e f = absurd (omega arith)
  word_in (t ∷ ts) zero u h e f = rw (any_of-append p (words_of t) (all_words ts), word-passes u t e f)
  word_in (t ∷ ts) (suc i) u h e f =
      rw (any_of-append p (words_of t) (all_words ts)) (or_r (any_of p (words_of t)) _ (λ _. word_in ts i u (omega arith) e f))

  -- a token and a word of it that passes
  pub record Passing (tokens : List (List ℕ)) : Type 0 where
    pub number : ℕ
    pub word : List ℕ
    pub inside : number < length tokens
    pub of : is_word word (get_or tokens number []) ≡ true
    pub passes : p word ≡ true

  pub word_out : (tokens : List (List ℕ)) → any_of p (all_words tokens) ≡ true → Passing tokens
  word_out [] e = absurd (clash false e refl)
  word_out (t ∷ ts) e = elim (or_cases (any_of p (words_of t)) _ (sym (any_of-append p (words_of t) (all_words ts)) ∙ e)) [
    | inl q ↦ (let r = any_of-out p (words_of t) [] q in record {
      number = 0;
      word = get_or (words_of t) r.0 [];
      inside = omega arith;
      of = word_of t r.0 r.1;
      passes = r.2;
    })
    | inr q ↦ (let r = word_out ts q in record { number = suc r.number; word = r.word; inside = omega (arith, r.inside); of = r.of; passes = r.passes })
  ]

-- The words by their places: each is a word of some token, whose length it has, and each word of a token has a place among all words.
module _ (tokens : List (List ℕ)) where
  pub token-of : (j : ℕ) → j < length (all_words tokens)
      → (i : ℕ) × (i < length tokens) × (is_word (get_or (all_words tokens) j []) (get_or tokens i []) ≡ true)
  token-of j h =
      let w = get_or (all_words tokens) j [] in
      let r = word_out (same w) tokens (any_of-in (same w) (all_words tokens) [] j h (same_refl w)) in
      (r.number, r.inside, rw (← same→eq w r.word r.passes) at r.of)

  pub length-of : (j : ℕ) → j < length (all_words tokens) → LengthOfSome tokens (length (get_or (all_words tokens) j []))
  length-of j h = let q = token-of j h in (q.0, q.1, word-length (get_or (all_words tokens) j []) (get_or tokens q.0 []) q.2)

  pub place_of : (i : ℕ) (u : List ℕ) → i < length tokens → is_word u (get_or tokens i []) ≡ true
      → (j : ℕ) × (j < length (all_words tokens)) × (get_or (all_words tokens) j [] ≡ u)
  place_of i u h e =
      let r = any_of-out (same u) (all_words tokens) [] (word_in (same u) tokens i u h e (same_refl u)) in
      (r.0, r.1, sym (same→eq u (get_or (all_words tokens) r.0 []) r.2))

-- The words, and their bytes, of two lists of tokens; and the tokens' own bytes are among them.
pub words_append : (ts us : List (List ℕ)) → all_words (ts ++ us) ≡ all_words ts ++ all_words us
words_append [] us = refl
words_append (t ∷ ts) us = rw (words_append ts us, append_assoc)

pub words_snoc : (ts : List (List ℕ)) (t : List ℕ) → all_words (ts ++ (t ∷ [])) ≡ all_words ts ++ words_of t
words_snoc ts t = words_append ts (t ∷ []) ∙ ap (λ ws. all_words ts ++ ws) (append-nil (words_of t))

pub total-append : (ts us : List (List ℕ)) → total (ts ++ us) ≡ total ts + total us
total-append [] us = omega arith
total-append (t ∷ ts) us = omega (arith, total-append ts us)

pub bytes-append : (ts us : List (List ℕ)) → body_bytes (ts ++ us) ≡ body_bytes ts + body_bytes us
bytes-append ts us = rw (words_append ts us) (total-append (all_words ts) (all_words us))

pub bytes-snoc : (ts : List (List ℕ)) (t : List ℕ) → body_bytes (ts ++ (t ∷ [])) ≡ body_bytes ts + total (words_of t)
bytes-snoc ts t = ap total (words_snoc ts t) ∙ total-append (all_words ts) (words_of t)

-- A token's words, and their bytes, by whether its reverse is one; no long token has one.
pub words-both : (t : List ℕ) → has_reverse t ≡ true → words_of t ≡ t ∷ reverse t ∷ []
words-both t e = decide (λ ws. ws ≡ t ∷ reverse t ∷ []) (has_reverse t) _ _ (λ _. refl) (λ f. absurd (clash (has_reverse t) e f))

pub words-own : (t : List ℕ) → has_reverse t ≡ false → words_of t ≡ t ∷ []
words-own t e = decide (λ ws. ws ≡ t ∷ []) (has_reverse t) _ _ (λ f. absurd (clash (has_reverse t) f e)) (λ _. refl)

pub turned-bytes : (t : List ℕ) → has_reverse t ≡ true → (total (words_of t) ≡ length t + length t) × (length t ≤ 10)
turned-bytes t e = (ap total (words-both t e) ∙ rw length-reverse (omega arith), short (length t) (and_l (is_card (length t)) _ e))
  where
    short : (n : ℕ) → is_card n ≡ true → n ≤ 10
    short n h = elim (or_cases (eqb n 4 || eqb n 7) (eqb n 10) h) [
      | inl p ↦ elim (or_cases (eqb n 4) (eqb n 7) p) [ inl q ↦ omega (arith, eqb-true n 4 q) | inr q ↦ omega (arith, eqb-true n 7 q) ]
      | inr p ↦ omega (arith, eqb-true n 10 p)
    ]

pub own-bytes : (t : List ℕ) → has_reverse t ≡ false → total (words_of t) ≡ length t
own-bytes t e = ap total (words-own t e) ∙ omega arith

pub words-bytes : (t : List ℕ) → (length t ≤ total (words_of t)) × (total (words_of t) ≤ length t + length t)
words-bytes t =
    decide (λ ws. (length t ≤ total ws) × (total ws ≤ length t + length t)) (has_reverse t) _ _
    (λ _. rw length-reverse (omega arith)) (λ _. omega arith)

pub total-bytes : (ts : List (List ℕ)) → total ts ≤ body_bytes ts
total-bytes [] = omega arith
total-bytes (t ∷ ts) = rw (total-append (words_of t) (all_words ts)) (omega (arith, words-bytes t, total-bytes ts))

-- What the number found says: it is that of a token which u is a word of, or it is 0 and there is none.
abbrev pub Numbered : List (List ℕ) → List ℕ → ℕ → ℕ → Type 0
Numbered ts u i zero = (j : ℕ) → j < length ts → is_word u (get_or ts j []) ≡ true → ⊥
Numbered ts u i (suc m) = (i ≤ suc m) × (suc m - i < length ts) × (is_word u (get_or ts (suc m - i) []) ≡ true)

numbered-here : (t : List ℕ) (ts : List (List ℕ)) (u : List ℕ) (i : ℕ) → 1 ≤ i → is_word u t ≡ true → Numbered (t ∷ ts) u i i
numbered-here t ts u zero h e = absurd (omega arith)
numbered-here t ts u (suc m) h e = let z : suc m - suc m ≡ 0 = omega arith in (omega arith, omega arith, rw z e)

numbered-there : (t : List ℕ) (ts : List (List ℕ)) (u : List ℕ) (i r : ℕ) → is_word u t ≡ false → Numbered ts u (i + 1) r → Numbered (t ∷ ts) u i r
numbered-there t ts u i zero d f = λ j. elim j as (λ j. j < length (t ∷ ts) → is_word u (get_or (t ∷ ts) j []) ≡ true → ⊥) [ zero ↦ λ h e. clash (is_word u t) e d | suc j ↦ λ h e. f j (omega arith) e ]
numbered-there t ts u i (suc m) d f =
    let a = f.0 in
    let z : suc m - i ≡ suc (suc m - (i + 1)) = omega arith in
    (omega arith, omega (arith, f.1), rw z f.2)

pub numbered : (u : List ℕ) (i : ℕ) (ts : List (List ℕ)) → 1 ≤ i → Numbered ts u i (number_where (is_word u) i ts)
numbered u i [] h = λ j h e. omega arith
numbered u i (t ∷ ts) h =
    decide (Numbered (t ∷ ts) u i) (is_word u t) _ _ (λ e. numbered-here t ts u i h e)
    (λ e. numbered-there t ts u i (number_where (is_word u) (i + 1) ts) e (numbered u (i + 1) ts (omega arith)))
