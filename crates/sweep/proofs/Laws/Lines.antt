-- A number's fewest digits are its decimal ones.
use Prim.Native.Nat.{ℕ, zero, suc, ◌-◌, ◌/◌, ◌%◌, ◌^◌, ◌≤◌, ◌<◌}
use native.Mathlib.Nat.{pow-suc, one-le-pow}
use native.Mathlib.Omega.{arith}
use mathlib.Core.Path.{◌≡◌}
use borrow.Author.Tests.{lt-ltb, le-ltb}
use Rattle.io.specs.Digits.{last_digits, IsDigitCount}
use Rattle.sweep.specs.Lines.{decimal_by, decimal}

digits-by : (fuel k n : ℕ) → n < fuel → IsDigitCount 10 1 n k → last_digits 10 k n ≡ decimal_by fuel n
digits-by zero k n h f = absurd (omega arith)
digits-by (suc fuel) zero n h f = absurd (omega (arith, f.0))
digits-by (suc fuel) (suc zero) n h f =
    let l : n < 10 = omega (arith, f.1) in
    let m : n % 10 ≡ n = omega arith in
    rw (m, lt-ltb n 10 l, decimal_by)
digits-by (suc fuel) (suc (suc k)) n h f =
    let y : suc (suc k) - 1 ≡ suc k = omega arith in
    let g : 10 ^ suc k ≤ n = rw y at (f.2 (omega arith)) in
    let z : suc k - 1 ≡ k = omega arith in
    let p = pow-suc 10 (suc k) in
    let q = pow-suc 10 k in
    let o : 1 ≤ 10 ^ k = one-le-pow k 10 (omega arith) in
    let l : 10 ≤ n = omega arith in
    let d : n % 10 < 10 = omega arith in
    let e = digits-by fuel (suc k) (n / 10) (omega arith) (omega arith, omega (arith, f.1), λ _. rw z (omega arith)) in
    rw (le-ltb n 10 l, lt-ltb (n % 10) 10 d, e, decimal_by)

-- Whoever has the fewest digits of a number has it in decimal.
pub digits_decimal : (n k : ℕ) → IsDigitCount 10 1 n k → last_digits 10 k n ≡ decimal n
digits_decimal n k f = digits-by (suc n) k n (omega arith) f
