-- What a call that is not refused rests on.
use mathlib.Core.Path.{◌≡◌, refl, ap, sym, ◌∙◌}
use mathlib.Core.Bool.{Bool, true, false, beq}
use mathlib.Core.Option.{none}
use Prim.{Unit, tt}
use Rattle.std.specs.Prelude.{Result, Ok}
use Rattle.tables.specs.Tables.{Tables}
use Rattle.scan.specs.declared.Scan.{Scan}
use Rattle.scan.specs.declared.Refusal.{Refusal}
use Rattle.scan.specs.Calls.{agree, judged}
use Rattle.scan.specs.Results.{judged_of}
use Rattle.scan.specs.Within.{Goes}
use Rattle.scan.proofs.Laws.Kept.{admitted-goes}

-- The two say the same.
pub agree_is : (a b : Bool) → agree a b ≡ beq a b
agree_is true true = refl
agree_is true false = refl
agree_is false true = refl
agree_is false false = refl

-- A call that is not refused.
module _ (t : Tables) (s : Scan) (turn : Bool) (k : Result Unit Refusal) (e : k ≡ Ok tt) (is : judged_of k ≡ judged t s turn) where
  pub fine : judged t s turn ≡ none
  fine = sym is ∙ ap judged_of e

module _ (t : Tables) (s : Scan) (k : Result Unit Refusal) (e : k ≡ Ok tt) (is : judged_of k ≡ judged t s false) where
  pub carry-goes : Goes t s
  carry-goes = admitted-goes t s (fine t s false k e is)
