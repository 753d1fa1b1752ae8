-- The test of one word, and the loop that searches its shift.
use Prim.Native.Nat.{ℕ, suc, ◌+◌, ◌-◌, ◌≤◌, ◌<◌}
use native.Mathlib.Omega.{arith}
use mathlib.Core.Path.{◌≡◌, ap, sym, ◌∙◌}
use mathlib.Core.Bool.{Bool, true, false, not}
use mathlib.Core.List.{List, [], ◌∷◌}
use mathlib.Core.Option.{some, none}
use borrow.Author.Count.{below_more}
use borrow.Author.Tests.{leb-true, leb-false, ltb-true, ltb-false}
use lib.Dec.{leb, ltb, eqb}
use lib.ListN.{length, get_or, take}
use lib.Seq.{length-take-le, get_or-take}
use Rattle.rules.specs.Lists.{least}
use Rattle.rules.specs.Tokens.{from_right, agrees, mismatch, fits}
use Rattle.rules.proofs.Laws.Tests.{decide, least-ge, least-le}
use Rattle.rules.proofs.Laws.Fits.{agrees-past, agrees-over, first-none, first-is, fits_byte}
use Rattle.agree.specs.Tests.{byte_test}

-- A word that does not reach so far agrees, and one that does if its byte is the same.
module _ (w : List ℕ) (s k x : ℕ) where
  pub over-agrees : k + s < length w → eqb (get_or w (length w - s - 1 - k) 0) x ≡ agrees w s k x
  over-agrees l =
      let z : length w - s - 1 - k ≡ length w - 1 - (k + s) = omega arith in
      ap (λ i. eqb (get_or w i 0) x) z ∙ sym (agrees-over w s k x l)

-- The known bytes u, of which k agree with the word w so far, moved s to the right.
module _ (u w : List ℕ) (s : ℕ) where
  abbrev pub Agreed : ℕ → Type 0
  Agreed k = (j : ℕ) → j < k → agrees w s j (from_right u j) ≡ true

  pub agreed-none : Agreed 0
  agreed-none j l = absurd (omega arith)

  module _ (k : ℕ) (a : Agreed k) where
    pub agreed-all : length u ≤ k → none ≡ mismatch u w s
    agreed-all l = sym (first-none (length u) _ (λ j h. ap not (a j (omega arith))))

    -- the word does not reach further
    pub agreed-past : length w ≤ k + s → none ≡ mismatch u w s
    agreed-past l = sym (first-none (length u) _ (λ j h. ap not (each j)))
      where
        each : (j : ℕ) → agrees w s j (from_right u j) ≡ true
        each j =
            decide (λ _. agrees w s j (from_right u j) ≡ true) (ltb j k) true false (λ t. a j (ltb-true j k t))
            (λ t. let past = ltb-false j k t in agrees-past w s j (from_right u j) (omega arith))

    -- The answer r for the byte with k known ones to its right.
    module _ (r : Bool) (q : r ≡ agrees w s k (from_right u k)) where
      pub agreed-stops : k < length u → r ≡ false → some k ≡ mismatch u w s
      agreed-stops h e = sym (first-is (length u) _ k h (λ j b. ap not (a j b)) (ap not (sym q ∙ e)))

      pub agreed-more : r ≡ true → Agreed (k + 1)
      agreed-more e = below_more (λ j. agrees w s j (from_right u j) ≡ true) k a (sym q ∙ e)

-- One known byte: the word's last d bytes lie right of it, so it is tested against those left of them.
module _ (w : List ℕ) (d x : ℕ) where
  pub byte_past : length w ≤ d → (best : ℕ) → 1 ≡ least (byte_test d x w) 1 (best - 1)
  byte_past l best =
      let p = byte_test d x w in
      omega (arith, least-ge p 1 (best - 1), least-le p 1 (best - 1) 1 (omega arith) (fits_byte x w d 1 ∙ agrees-past w 1 d x (omega arith)))

  module _ (l : d < length w) (s : ℕ) where
    abbrev cut : List ℕ
    cut = take (length w - d) w

    cut-size : length cut ≡ length w - d
    cut-size = length-take-le (length w - d) w (omega arith)

    agrees-cut : agrees cut s 0 x ≡ agrees w s d x
    agrees-cut = decide (λ _. agrees cut s 0 x ≡ agrees w s d x) (leb (length w) (d + s)) true false past over
      where
        past : leb (length w) (d + s) ≡ true → agrees cut s 0 x ≡ agrees w s d x
        past e =
            let h = leb-true (length w) (d + s) e in
            agrees-past cut s 0 x (omega (arith, cut-size)) ∙ sym (agrees-past w s d x h)

        over : leb (length w) (d + s) ≡ false → agrees cut s 0 x ≡ agrees w s d x
        over e =
            let h = leb-false (length w) (d + s) e in
            let z : length w - d - 1 - (0 + s) ≡ length w - 1 - (d + s) = omega arith in
            agrees-over cut s 0 x (omega (arith, cut-size))
            ∙ ap (λ n. eqb (get_or cut (n - 1 - (0 + s)) 0) x) cut-size
            ∙ ap (λ y. eqb y x) (get_or-take (length w - d) w (length w - d - 1 - (0 + s)) 0 (omega arith))
            ∙ ap (λ i. eqb (get_or w i 0) x) z ∙ sym (agrees-over w s d x h)

    pub byte_cut : fits (x ∷ []) (take (length w - d) w) s ≡ byte_test d x w s
    byte_cut =
        let z : 0 + s ≡ s = omega arith in
        ap (fits (x ∷ []) cut) (sym z) ∙ fits_byte x cut 0 s ∙ agrees-cut ∙ sym (fits_byte x w d s)

-- A search from 1 below `best` that has come to s.
pub record Searching (p : ℕ → Bool) (best s : ℕ) : Type 0 where
  pub rest : least p s (best - s) ≡ least p 1 (best - 1)

module _ {p : ℕ → Bool} {best s : ℕ} (h : Searching p best s) where
  module _ (l : s < best) where
    step : elim (p s) [ true ↦ s | false ↦ least p (s + 1) (best - (s + 1)) ] ≡ least p 1 (best - 1)
    step = let e : best - s ≡ suc (best - (s + 1)) = omega arith in rw e at h.rest

    pub search-found : p s ≡ true → s ≡ least p 1 (best - 1)
    search-found e = rw e at step

    pub search-again : p s ≡ false → Searching p best (s + 1)
    search-again e = record { rest = rw e at step }

  pub search-done : best ≤ s → s ≡ least p 1 (best - 1)
  search-done l = let e : best - s ≡ 0 = omega arith in rw e at h.rest
