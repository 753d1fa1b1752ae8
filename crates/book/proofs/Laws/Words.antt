-- Two bodies compared byte by byte.
use Prim.Native.Nat.{ℕ, ◌+◌, ◌<◌}
use native.Mathlib.Numerals.{add-one}
use mathlib.Core.Bool.{false}
use mathlib.Core.List.{List}
use mathlib.Core.Path.{◌≡◌}
use borrow.Author.Tests.{eq-eqb, ne_eqb}
use lib.ListN.{length, get_or, drop}
use lib.Seq.{drop-cons}
use Rattle.rules.specs.Lists.{same}

-- one byte of each
module _ (a b : List ℕ) (i : ℕ) (h : i < length a) (k : i < length b) where
  pub differs : (get_or a i 0 ≡ get_or b i 0 → ⊥) → same (drop i a) (drop i b) ≡ false
  differs n = rw (drop-cons a i 0, drop-cons b i 0) (cc (ne_eqb (get_or a i 0) (get_or b i 0) n))

  pub agrees : get_or a i 0 ≡ get_or b i 0 → same (drop i a) (drop i b) ≡ same (drop (i + 1) a) (drop (i + 1) b)
  agrees e = rw (add-one, drop-cons a i 0, drop-cons b i 0) (cc (eq-eqb (get_or a i 0) (get_or b i 0) e))
