-- Rule 5 skips no occurrence: the shift is at least 1, at most S, and no more than the way to the end of any word that stands further right.
use Rattle.std.specs.Prelude.{ℕ, ◌+◌, ◌-◌, ◌≤◌, ◌<◌, ◌≡◌, Bool, true, List, leb, length}
use Rattle.std.proofs.Common.{arith, le_trans, ap, sym, ◌∙◌, leb-false, eq-eqb}
use Rattle.std.proofs.Math.Option.{Option, some, none}
use Rattle.rules.specs.Lists.{any_of}
use Rattle.rules.specs.Tokens.{agrees, fits, from_right, node_shift, byte_shift, shift_of}
use Rattle.rules.specs.Configs.{Reads}
use Rattle.rules.proofs.Laws.Tests.{every-all, or_r, least-le, least-ge, least-upto}
use Rattle.rules.proofs.Laws.Fits.{fits-every, fits_byte}

pub shift-ge : (words : List (List ℕ)) (S : ℕ) (u : List ℕ) (o : Option ℕ) → 1 ≤ shift_of words S u o
shift-ge words S u o = omega (arith, least-ge (λ s. any_of (λ t. fits u t s) words) 1 (S - 1))

pub shift-upto : (words : List (List ℕ)) (S : ℕ) → 1 ≤ S → (u : List ℕ) (o : Option ℕ) → shift_of words S u o ≤ S
shift-upto words S h u o = omega (arith, node, byte o)
  where
    node : node_shift words S u ≤ S
    node = le_trans (least-upto _ 1 (S - 1)) (omega arith)

    byte : (o : Option ℕ) → byte_shift words S (length u) o ≤ S
    byte none = h
    byte (some x) = le_trans (least-upto _ 1 (S - 1)) (omega arith)

module _ (img : ℕ → ℕ) where
  -- A byte that is known, where one is, is that of its place.
  abbrev pub Known : ℕ → Option ℕ → Type 0
  Known at none = Unit {0}
  Known at (some x) = x ≡ img at

  agrees-read : (t : List ℕ) (b e k x : ℕ) → Reads img t e → b < e → x ≡ img (b - 1 - k) → agrees t (e - b) k x ≡ true
  agrees-read t b e k x r h q =
      or_r (leb (length t) (k + (e - b))) _ λ f.
      let l : k + (e - b) < length t = leb-false (length t) (k + (e - b)) f in
      let z : e - 1 - (k + (e - b)) ≡ b - 1 - k = omega arith in
      eq-eqb _ _ (r (k + (e - b)) l ∙ ap img z ∙ sym q)

  -- w is one of the words, and stands before e
  module _ (words : List (List ℕ)) (S b e : ℕ) (h : b < e) (w : List ℕ) (among : (p : List ℕ → Bool) → p w ≡ true → any_of p words ≡ true)
      (r : Reads img w e) where
    node-le : (u : List ℕ) → Reads img u b → node_shift words S u ≤ e - b
    node-le u q =
        least-le _ 1 (S - 1) (e - b) (omega arith)
        (among _ (fits-every u w (e - b) ∙ every-all (length u) _ λ k k<. agrees-read w b e k (from_right u k) r h (q k k<)))

    byte_le : (d : ℕ) (o : Option ℕ) → Known (b - 1 - d) o → byte_shift words S d o ≤ e - b
    byte_le d none q = omega arith
    byte_le d (some x) q = least-le _ 1 (S - 1) (e - b) (omega arith) (among _ (fits_byte x w d (e - b) ∙ agrees-read w b e d x r h q))

    pub shift_le : (u : List ℕ) (o : Option ℕ) → Reads img u b → Known (b - 1 - length u) o → shift_of words S u o ≤ e - b
    shift_le u o q k = omega (arith, node-le u q, byte_le (length u) o k)
