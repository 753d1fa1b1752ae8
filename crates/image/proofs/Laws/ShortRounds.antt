-- A round that ends at its first or second byte, where nothing is remembered: it fetches what it looks at, finds nothing, and remembers nothing.
use Rattle.std.specs.Prelude.{ℕ, zero, suc, ◌+◌, ◌-◌, ◌≤◌, ◌<◌, ◌≡◌, refl, List, [], ◌++◌, map, length, get_or}
use Rattle.std.proofs.Common.{arith, ap, sym, subst, ◌∙◌, append-nil}
use Rattle.std.proofs.Math.Option.{some}
use Rattle.rules.specs.Words.{all_words}
use Rattle.rules.specs.Tokens.{of_tokens, shift_of, shortest_of}
use Rattle.rules.specs.Stretches.{loose}
use Rattle.book.proofs.Laws.Accepted.{accepted-fit, accepted-some}
use Rattle.image.specs.Rounds.{Reached, reached, met, lowest}
use Rattle.image.specs.declared.spans.Spans.{Spans}
use Rattle.image.specs.Spans.{in_use, renewed}
use Rattle.image.specs.Rule5.{tokens_of, BySkip}
use Rattle.image.specs.Sweeping.{Standing, Stands, Seen, on_at}
use Rattle.image.proofs.Laws.Roots.{down-local, first_ends}
use Rattle.image.proofs.Laws.Places.{none-renewed, none-loose}
use Rattle.image.proofs.Laws.RoundByRound.{turns, raised}

-- What it fetches and remembers, if it ends so at boundary b, d deep.
module _ (f : Spans) (bare : f.used ≡ 0) (b d y : ℕ) (r : Reached (List ℕ)) (deep : r.depth ≡ d) (closing : r.closing ≡ some y)
    (h : d < b) where
  nothing-kept : (by : ℕ) → 1 ≤ by → d < 4 → in_use f ≡ renewed (b - r.depth) b (b + by) (in_use f)
  nothing-kept by i l = none-renewed f bare b r.depth by (omega arith) i (omega arith)

  all-loose : (lowest b r + loose b (lowest b r) (in_use f) ≡ b) × (d + 1 ≡ loose b (lowest b r) (in_use f))
  all-loose = rw (none-loose f bare b (lowest b r), closing) (omega arith, omega arith)

module _ (book image : List ℕ) (at : Standing) (found : List (ℕ × ℕ)) (s : Stands book image at found) (h : at.boundary ≤ length image) where
  abbrev ts : List (List ℕ)
  ts = tokens_of book

  abbrev S : ℕ
  S = shortest_of ts

  abbrev b : ℕ
  b = at.boundary

  abbrev r : Reached (List ℕ)
  r = reached (of_tokens ts S) image b

  abbrev by : ℕ
  by = shift_of (all_words ts) S r.node r.closing

  module _ (bare : at.spans.used ≡ 0) where
    -- Where nothing is remembered, a round that ends soon and meets no token fetches all it looks at, and leaves nothing.
    pub passes : (d y : ℕ) → r.depth ≡ d → r.closing ≡ some y → r.tokens ≡ [] → d < 4 → d < b
        → Stands book image (on_at at (b + by) (d + 1)) found
    passes d y deep closing free l i =
        let no_hit : met (of_tokens ts S) image b ≡ [] = ap (map (λ i. (b, i))) free in
        let z : at.hits ≡ at.hits + 0 = omega arith in
        let all = all-loose at.spans bare b d y r deep closing i in
        subst (Stands book image (on_at at (b + by) (d + 1))) (ap (λ l. found ++ l) no_hit ∙ append-nil found)
        (turns book image at found s h (on_at at (b + by) (d + 1)) refl
        (nothing-kept at.spans bare b d y r deep closing i by (raised book image at found s h).0 l) s.few
        (ap (λ n. at.fetched + n) all.1) (ap (λ n. n + at.spared) all.0)
        (z ∙ ap (λ l. at.hits + length l) (sym no_hit)))

    module _ (skip : List ℕ) (right : BySkip book S skip) (x : ℕ) (is : x ≡ get_or image (b - 1) 0) (byte : x < 256)
        (some-shift : get_or skip x 0 ≡ 0 → ⊥) where
      ends_so : r ≡ record { node = []; depth = 0; closing = some x; tokens = [] }
      ends_so =
          first_ends ts S image b (accepted-fit book ts s.read) (accepted-some book ts s.read) s.positive x is (right.right x byte some-shift).0

      by-is : by ≡ get_or skip x 0
      by-is = ap (λ r. shift_of (all_words ts) S r.node r.closing) ends_so ∙ sym (right.right x byte some-shift).1

      pub skims : Stands book image (on_at at (b + get_or skip x 0) 1) found
      skims =
          subst (λ n. Stands book image (on_at at (b + n) 1) found) by-is
          (passes 0 x (ap (λ r. r.depth) ends_so) (ap (λ r. r.closing) ends_so) (ap (λ r. r.tokens) ends_so) (omega arith) (omega (arith, s.positive)))

    -- By a round that was seen to end at its second byte.
    module _ (y x n : ℕ) (seen : Seen book image y x n) (i : 2 ≤ b) (first : get_or image (b - 1) 0 ≡ x) (second : get_or image (b - 2) 0 ≡ y) where
      alike : r ≡ reached (of_tokens ts S) image seen.b
      alike =
          down-local (of_tokens ts S) image seen.b b 1 y (omega arith) (λ j. byte_at j) (suc seen.b) (suc b) [] 0 [] (omega arith)
          seen.deep seen.closing
        where
          byte_at : (j : ℕ) → j ≤ 1 → get_or image (b - 1 - j) 0 ≡ get_or image (seen.b - 1 - j) 0
          byte_at zero l =
              let p : b - 1 - 0 ≡ b - 1 = omega arith in
              let q : seen.b - 1 - 0 ≡ seen.b - 1 = omega arith in
              rw (p, q) (first ∙ sym seen.first)
          byte_at (suc zero) l =
              let p : b - 1 - 1 ≡ b - 2 = omega arith in
              let q : seen.b - 1 - 1 ≡ seen.b - 2 = omega arith in
              rw (p, q) (second ∙ sym seen.second)
          byte_at (suc (suc j)) l = absurd (omega arith)

      pub skims-two : Stands book image (on_at at (b + n) 2) found
      skims-two =
          let e : by ≡ n = ap (λ r. shift_of (all_words ts) S r.node r.closing) alike ∙ sym seen.shift in
          subst (λ n. Stands book image (on_at at (b + n) 2) found) e
          (passes 1 y (ap (λ r. r.depth) alike ∙ seen.deep) (ap (λ r. r.closing) alike ∙ seen.closing)
          (ap (λ r. r.tokens) alike ∙ seen.unmet) (omega arith) (omega arith))
