-- What a sweep starts with: caches that hold nothing yet.
use Prim.Native.Nat.{ℕ, zero, suc, ◌+◌, ◌*◌, ◌<◌}
use native.Mathlib.Omega.{arith}
use mathlib.Core.Path.{◌≡◌, refl}
use mathlib.Core.Bool.{false}
use mathlib.Core.List.{List}
use lib.ListN.{length, get_or, replicate, length-replicate}
use Rattle.rules.proofs.Laws.Tests.{clash}
use Rattle.tables.specs.Tables.{Tables}
use Rattle.image.specs.Runs.{Powers}
use Rattle.image.specs.Sweeping.{CachesRight}

-- an array of zeros
abbrev none : ℕ → List ℕ
none n = replicate n 0

none-at : (n i : ℕ) → get_or (none n) i 0 ≡ 0
none-at zero i = refl
none-at (suc n) zero = refl
none-at (suc n) (suc i) = none-at n i

none-long : (n : ℕ) → length (none n) ≡ n
none-long n = length-replicate {A = ℕ} n 0

pub no-shifts : (book image : List ℕ) (shortest : ℕ)
    → CachesRight book image shortest (record { bytes = replicate 16384 0; skip = replicate 256 0; pairs = replicate 65536 0 })
no-shifts book image shortest = record {
  by_byte = record { size = none-long 16384; right = λ d x _ _ f. absurd (f (none-at 16384 (256 * d + x))) };
  by-skip = record { size = none-long 256; right = λ x _ f. absurd (f (none-at 256 x)) };
  by-pair = record { size = none-long 65536; right = λ y x _ _ f. absurd (f (none-at 65536 (256 * y + x))) };
}

-- and no powers.
pub no-powers : (tables : Tables) (count : ℕ) → 0 < count
    → Powers tables count 0 0 false (replicate 1025 0) (replicate 1025 0) (replicate 1024 0)
no-powers tables count h =
    let at : (k : ℕ) → get_or (none 1025) k 0 ≡ 0 = none-at 1025 in
    record {
      nodes = none-long 1025;
      counts = none-long 1025;
      room = none-long 1024;
      near = omega arith;
      root = at 0;
      empty = at 0;
      child = λ k l. absurd (omega arith);
      met = λ k l. absurd (omega arith);
      rising = λ k l. (omega (arith, at k), omega (arith, at k));
      held = λ k l. omega (arith, at k);
      last = λ e. absurd (clash false e refl);
    }
