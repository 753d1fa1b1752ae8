-- What is remembered after a round, found one stretch after the other: where the new stretch begins (rule 4), and which stretches
-- stay (rules 4 and 6). The sweep by bytes and that of a whole image both do it so, each with its own nodes.
use Rattle.std.specs.Prelude.{ℕ, ◌^◌, ◌≤◌, ◌<◌, max, ◌≡◌, refl, Bool, true, false, ◌&&◌, List, [], ◌∷◌, ◌++◌, ltb}
use Rattle.std.proofs.Common.{arith, ap, sym, ◌∙◌, append-nil, append_assoc}
use Rattle.rules.specs.Lists.{select, All}
use Rattle.rules.specs.Rules.{Stretch, left_over, cut, kept}
use Rattle.rules.proofs.Laws.All.{all_map, all-select, select-append}
use Rattle.rules.proofs.Laws.Limit.Span.{cut-ge, cut-upto}
use Rattle.rules.specs.Stretches.{Lies, farther_of, stays, staying}

module _ {E : Type 0} where
  -- Stretches that lie before a boundary b lie before a later one, and so does the new one behind them.
  module _ (b next : ℕ) (moves : b ≤ next) (small : next < 2 ^ 32) (ss : List (Stretch E)) (lie : All (Lies b) ss) where
    pub lie-later : All (Lies next) ss
    lie-later = all_map (Lies b) (Lies next) (λ s l. record { some-length = l.some-length; before = omega (arith, l.before); small = small }) ss lie

    pub edge-upto : (from : ℕ) → from ≤ b → cut from (left_over from ss) ≤ b
    edge-upto from h =
        cut-upto from b (left_over from ss) h
        (all-select (λ s. s.right ≤ b) _ ss (all_map (Lies b) (λ s. s.right ≤ b) (λ s l. l.before) ss lie))

    pub new-lies : (from left : ℕ) (v : E) → from ≤ b → left ≡ cut from (left_over from ss) → Lies next (record { left = left; right = b; node = v })
    new-lies from left v h e = record { some-length = omega (arith, e, edge-upto from h); before = moves; small = small }

  -- Where the new stretch begins, as far as some stretches of `all` say, when `rest` are left to look at.
  pub record Edge (from : ℕ) (all : List (Stretch E)) (far : ℕ) (rest : List (Stretch E)) : Type 0 where
    pub above : from ≤ far
    pub whole : max far (cut from (left_over from rest)) ≡ cut from (left_over from all)

  pub edge-begins : (from : ℕ) (all : List (Stretch E)) → Edge from all from all
  edge-begins from all = record { above = omega arith; whole = omega (arith, cut-ge from (left_over from all)) }

  pub edge-done : {from : ℕ} {all : List (Stretch E)} {far : ℕ} → Edge from all far [] → far ≡ cut from (left_over from all)
  edge-done e = omega (arith, e.above, e.whole)

  pub edge-again : {from : ℕ} {all : List (Stretch E)} {far : ℕ} {s : Stretch E} {rest : List (Stretch E)} → Edge from all far (s ∷ rest)
      → (next : ℕ) → next ≡ farther_of from far s → Edge from all next rest
  edge-again {from} {all} {far} {s} {rest} e next q = go (ltb s.left from) q e.whole
    where
      go : (b : Bool) → next ≡ elim b [ true ↦ max far s.right | false ↦ far ]
          → max far (cut {E = E} from (elim b [ true ↦ s ∷ left_over from rest | false ↦ left_over from rest ])) ≡ cut from (left_over from all)
          → Edge from all next rest
      go true q w = record { above = omega (arith, e.above); whole = omega (arith, q, w) }
      go false q w = record { above = omega (arith, e.above); whole = omega (arith, q, w) }

  -- Which stretches of one stay.
  pub staying-one : (from b : ℕ) (s : Stretch E) → staying from b (s ∷ []) ≡ elim (stays from b s) [ true ↦ s ∷ [] | false ↦ [] ]
  staying-one from b s = go (ltb s.left from)
    where
      go : (x : Bool) → select (kept {E = E} b) (elim x [ true ↦ s ∷ [] | false ↦ [] ]) ≡ elim (x && kept b s) [ true ↦ s ∷ [] | false ↦ [] ]
      go true = refl
      go false = refl

  -- Those that stay of some stretches of `all`, when `rest` are left to look at.
  pub record Stay (from b : ℕ) (all held rest : List (Stretch E)) : Type 0 where
    pub whole : held ++ staying from b rest ≡ staying from b all

  module _ {from b : ℕ} {all held : List (Stretch E)} where
    pub stay-done : Stay from b all held [] → held ≡ staying from b all
    stay-done w = sym (append-nil held) ∙ w.whole

    pub stay-again : {s : Stretch E} {rest : List (Stretch E)} → Stay from b all held (s ∷ rest)
        → (next : List (Stretch E)) → next ≡ held ++ staying from b (s ∷ []) → Stay from b all next rest
    stay-again {s} {rest} w next e = record {
      whole = ap (λ l. l ++ staying from b rest) e
          ∙ append_assoc held (staying from b (s ∷ [])) (staying from b rest)
          ∙ ap (λ l. held ++ l) (sym more)
          ∙ w.whole;
    }
      where
        more : staying from b (s ∷ rest) ≡ staying from b (s ∷ []) ++ staying from b rest
        more =
            ap (select (kept b)) (select-append (λ s. ltb s.left from) (s ∷ []) rest)
            ∙ select-append (kept b) (left_over from (s ∷ [])) (left_over from rest)
