-- The number of base-4 digits by powers of 4, and the limit on fetches for a longer image.
use Rattle.std.specs.Prelude.{ℕ, zero, suc, ◌-◌, ◌*◌, ◌/◌, ◌^◌, ◌≤◌, ◌<◌, max}
use Rattle.std.proofs.Common.{pow-suc, lt_of_not-le, mul-le-mul_right, sub-one, arith}
use Rattle.std.proofs.Math.Nat.{pow-le-pow_right}
use Rattle.rules.specs.Sweep.{digits_in, digits4, limit}

pub limit-mono : (a b d : ℕ) → a ≤ b → limit a d ≤ limit b d
limit-mono a b d i = omega (arith, mul-le-mul_right (digits4 d) i)

below : (fuel m : ℕ) → m ≤ fuel → m < 4 ^ digits_in fuel m
below zero m i = omega arith
below (suc fuel) zero i = omega arith
below (suc fuel) (suc m) i =
    omega (arith, pow-suc 4 (digits_in fuel (suc m / 4)), below fuel (suc m / 4) (omega arith))

reached : (fuel m : ℕ) → 4 ^ digits_in fuel m ≤ max 1 (4 * m)
reached zero m = omega arith
reached (suc fuel) zero = omega arith
reached (suc fuel) (suc m) = omega (arith, pow-suc 4 (digits_in fuel (suc m / 4)), reached fuel (suc m / 4))

one_less : (k m : ℕ) → 1 ≤ m → 4 ^ k ≤ 4 * m → 4 ^ (k - 1) ≤ m
one_less zero m i h = i
one_less (suc k) m i h = rw (sub-one (suc k)) (omega (arith, pow-suc 4 k))

-- The two bounds that make `digits4 m` the number of digits.
pub below4 : (m : ℕ) → m < 4 ^ digits4 m
below4 m = below m m (omega arith)

pub reached4 : (m : ℕ) → 1 ≤ m → 4 ^ (digits4 m - 1) ≤ m
reached4 m i = one_less (digits_in m m) m i (omega (arith, reached m m))

-- A power of 4 that is at most m has an exponent below the number of digits.
pub fewer : (k m : ℕ) → 4 ^ k ≤ m → k < digits4 m
fewer k m i = lt_of_not-le (λ h. omega (arith, below4 m, pow-le-pow_right {n = 4} (omega arith) h))
