-- The byte that is due is counted and taken, and the call runs on.
use Prim.Native.Nat.{ℕ}
use mathlib.Core.Path.{◌≡◌, ap, sym, subst, ◌∙◌}
use mathlib.Core.Bool.{true}
use mathlib.Core.Option.{none}
use Rattle.rules.specs.Rules.{take_byte}
use Rattle.tables.specs.Tables.{Tables}
use Rattle.scan.specs.declared.Scan.{Scan}
use Rattle.scan.specs.declared.Stepped.{Stepped as Result}
use Rattle.scan.specs.State.{config_of, tree_of}
use Rattle.scan.specs.Calls.{counted, stepped, settle, enough, judged, fed, supply}
use Rattle.scan.specs.Results.{stepped_of}
use Rattle.scan.specs.Steps.{Stepping}
use Rattle.scan.specs.Within.{Goes}
use Rattle.scan.proofs.Laws.Settle.{on_judged}
use Rattle.scan.proofs.Laws.Kept.{none_left, counted-goes, supplied-goes}

module _ (t : Tables) (s : Scan) (x : ℕ) (fine : judged t s true ≡ none) (u : Scan) (p : u ≡ counted s) where
  pub counted-steps : Stepping t u
  counted-steps = subst (Stepping t) (sym p) (record { goes = counted-goes t s fine; none = none_left t s fine })

  module _ (r : Scan) (q : r ≡ stepped t u (take_byte (tree_of t u) (config_of u) x)) where
    took : r ≡ fed t s x
    took = q ∙ ap (λ u. stepped t u (take_byte (tree_of t u) (config_of u) x)) p

    pub taken-goes : Goes t r
    taken-goes = subst (Goes t) (sym took) (supplied-goes t s fine x)

    pub supply-settles : (a : Result) → stepped_of a ≡ settle t (enough r) r → stepped_of a ≡ supply t s x
    supply-settles a g = g ∙ ap (λ r. settle t (enough r) r) took ∙ ap (on_judged s (settle t (enough s) (fed t s x))) (sym fine)
