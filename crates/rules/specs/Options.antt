-- What the code's options say: a value, or none.
use Rattle.std.specs.Prelude.{ℕ, Option, Some, None}
use Rattle.std.proofs.Math.Option as math

abbrev pub option_of : Option ℕ → math.Option ℕ
option_of None = math.none
option_of (Some v) = math.some v
