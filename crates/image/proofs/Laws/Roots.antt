-- A round at the root: the root is no leaf, and the round ends there where no word ends with its first byte.
use Rattle.std.specs.Prelude.{ℕ, zero, suc, ◌+◌, ◌-◌, ◌≤◌, ◌<◌, ◌≡◌, refl, true, false, ◌&&◌, List, [], ◌∷◌, ◌++◌, ltb, length, get_or}
use Rattle.std.proofs.Common.{arith, ap, ◌∙◌, lt-ltb, ne_eqb}
use Rattle.std.proofs.Math.Option.{some, none}
use Rattle.std.proofs.lemmas.Bool.{eqb-false}
use Rattle.rules.specs.Lists.{any_of}
use Rattle.rules.specs.Words.{number_of, all_words}
use Rattle.rules.specs.Rules.{Tree}
use Rattle.rules.specs.Tokens.{of_words, of_tokens, ends, grown}
use Rattle.rules.proofs.Laws.Tests.{decide, or-nl, or-nr}
use Rattle.rules.proofs.Laws.Endings.{front→ends}
use Rattle.rules.proofs.Laws.Words.{own-word, word_in}
use Rattle.book.proofs.Laws.Accepted.{Fit}
use Rattle.image.specs.Rounds.{Reached, meeting, down, reached}
use Rattle.image.proofs.Laws.Down.{down-cases}

-- A walk only gets deeper.
pub down-deeper : {E : Type 0} (tree : Tree E) (image : List ℕ) (b fuel : ℕ) (v : E) (d : ℕ) (m : List ℕ)
    → d ≤ (down tree image b fuel v d m).depth
down-deeper tree image b zero v d m = omega arith
down-deeper tree image b (suc fuel) v d m =
    down-cases tree image b fuel v d m (λ r. d ≤ r.depth) (λ _. omega arith) (λ _ _. omega arith)
    (λ _ w _. omega (arith, down-deeper tree image b fuel w (d + 1) (meeting m (tree.token w))))

some-injective : {x y : ℕ} → some x ≡ some y → x ≡ y
some-injective {x} e = ap (λ o. elim o [ none ↦ x | some z ↦ z ]) e

-- A byte that closes a walk is the one at its depth, which is not the boundary.
pub down-closes : {E : Type 0} (tree : Tree E) (image : List ℕ) (b fuel : ℕ) (v : E) (d : ℕ) (m : List ℕ) (y : ℕ)
    → (down tree image b fuel v d m).closing ≡ some y
    → let k = (down tree image b fuel v d m).depth in (get_or image (b - 1 - k) 0 ≡ y) × (k ≡ b → ⊥)
down-closes tree image b zero v d m y = λ e. absurd (let z : ◌≡◌ {A = ℕ} 0 1 = cc in omega arith)
down-closes tree image b (suc fuel) v d m y =
    down-cases tree image b fuel v d m (λ r. r.closing ≡ some y → (get_or image (b - 1 - r.depth) 0 ≡ y) × (r.depth ≡ b → ⊥))
    (λ _ e. absurd (let z : ◌≡◌ {A = ℕ} 0 1 = cc in omega arith))
    (λ t _ e. (some-injective e, eqb-false d b (or-nr (tree.leaf v) _ t)))
    (λ _ w _ e. down-closes tree image b fuel w (d + 1) (meeting m (tree.token w)) y e)

-- Where it ends is told by the bytes that it looked at.
pub down-local : {E : Type 0} (tree : Tree E) (image : List ℕ) (b c k y : ℕ) → k < c
    → ((j : ℕ) → j ≤ k → get_or image (c - 1 - j) 0 ≡ get_or image (b - 1 - j) 0)
    → (fuel more : ℕ) (v : E) (d : ℕ) (m : List ℕ) → k < d + more
    → (down tree image b fuel v d m).depth ≡ k → (down tree image b fuel v d m).closing ≡ some y
    → down tree image c more v d m ≡ down tree image b fuel v d m
down-local tree image b c k y h same zero more v d m l = λ p q. absurd (let z : ◌≡◌ {A = ℕ} 0 1 = cc in omega arith)
down-local tree image b c k y h same (suc fuel) zero v d m l = λ p q. absurd (omega (arith, down-deeper tree image b (suc fuel) v d m))
down-local tree image b c k y h same (suc fuel) (suc more) v d m l =
    down-cases tree image b fuel v d m (λ r. r.depth ≡ k → r.closing ≡ some y → down tree image c (suc more) v d m ≡ r)
    (λ _ p q. absurd (let z : ◌≡◌ {A = ℕ} 0 1 = cc in omega arith))
    (λ t e p q. cc (or-nl (tree.leaf v) _ t, ne_eqb d c (λ z. omega arith), same d (omega arith), e))
    (λ t w e p q.
    let deep = down-deeper tree image b fuel w (d + 1) (meeting m (tree.token w)) in
    let again = down-local tree image b c k y h same fuel more w (d + 1) (meeting m (tree.token w)) (omega arith) p q in
    let step : down tree image c (suc more) v d m ≡ down tree image c more w (d + 1) (meeting m (tree.token w)) =
    cc (or-nl (tree.leaf v) _ t, ne_eqb d c (λ z. omega (arith, deep)), same d (omega (arith, deep)), e) in
    step ∙ again)

-- The root grows, but not by the first byte: the round ends there.
ends-first : (words : List (List ℕ)) (number : List ℕ → ℕ) (S : ℕ) (image : List ℕ) (b : ℕ) → any_of (λ u. ltb 0 (length u) && ends [] u) words ≡ true
    → 1 ≤ b → (x : ℕ) → x ≡ get_or image (b - 1) 0 → any_of (ends (x ∷ [])) words ≡ false
    → reached (of_words words number S) image b ≡ record { node = []; depth = 0; closing = some x; tokens = [] }
ends-first words number S image b g h x e f =
    let z : b - 1 - 0 ≡ b - 1 = omega arith in
    cc (g, ne_eqb 0 b (λ e. omega arith), z)

module _ (tokens : List (List ℕ)) where
  -- Some word is longer than the root's ending, and each has that ending.
  pub root-grows : Fit tokens → 1 ≤ length tokens → any_of (λ u. ltb 0 (length u) && ends [] u) (all_words tokens) ≡ true
  root-grows fit h =
      let u = get_or tokens 0 [] in
      word_in (λ u. ltb 0 (length u) && ends [] u) tokens 0 u h (own-word u) (cc (lt-ltb 0 (length u) (fit.each 0 h).0, ends-bare u))
    where
      bare : (u : List ℕ) → u ≡ u ++ []
      bare [] = refl
      bare (x ∷ u) = cc (bare u)

      ends-bare : (u : List ℕ) → ends [] u ≡ true
      ends-bare u = front→ends u [] u (bare u)

  -- Where an ending does not grow by x, no word ends so.
  ungrown : (u : List ℕ) (x : ℕ) → grown (all_words tokens) u x ≡ none → any_of (ends (x ∷ u)) (all_words tokens) ≡ false
  ungrown u x =
      decide (λ o. o ≡ none → any_of (ends (x ∷ u)) (all_words tokens) ≡ false) (any_of (ends (x ∷ u)) (all_words tokens)) _ _
      (λ _ e. absurd (let z : ◌≡◌ {A = ℕ} 0 1 = cc in omega arith)) (λ f _. f)

  module _ (S : ℕ) (image : List ℕ) (b : ℕ) where
    abbrev ending : Reached (List ℕ)
    ending = reached (of_tokens tokens S) image b

    -- No word ends with the first byte: the round ends there.
    pub first_ends : Fit tokens → 1 ≤ length tokens → 1 ≤ b → (x : ℕ) → x ≡ get_or image (b - 1) 0 → any_of (ends (x ∷ [])) (all_words tokens) ≡ false
        → ending ≡ record { node = []; depth = 0; closing = some x; tokens = [] }
    first_ends fit some-token = ends-first (all_words tokens) (number_of tokens) S image b (root-grows fit some-token)

    -- It ended there with the byte x: no word ends with x.
    pub first-shut : (x : ℕ) → ending.depth ≡ 0 → ending.closing ≡ some x → any_of (ends (x ∷ [])) (all_words tokens) ≡ false
    first-shut x =
        let tree = of_tokens tokens S in
        down-cases tree image b b [] 0 [] (λ r. r.depth ≡ 0 → r.closing ≡ some x → any_of (ends (x ∷ [])) (all_words tokens) ≡ false)
        (λ _ _ e. absurd (let z : ◌≡◌ {A = ℕ} 0 1 = cc in omega arith))
        (λ _ k _ e. let z : get_or image (b - 1 - 0) 0 ≡ x = cc in ungrown [] x (rw z at k))
        (λ _ w _ z _. absurd (omega (arith, down-deeper tree image b b w (0 + 1) (meeting [] (tree.token w)))))
