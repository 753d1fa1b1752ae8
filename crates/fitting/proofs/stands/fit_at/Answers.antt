-- The mismatch lies left of the end.
use native.Mathlib.Omega.{arith}
use mathlib.Core.Path.{ap, sym, ◌∙◌}
use Rattle.rules.specs.Options.{option_of}
use Rattle.fitting.proofs.Laws.Fitting.{differs-left}
use Rattle.fitting.proofs.stands.fit_at.Goals as goal

pub overflow_sub-result-in-Some : goal.overflow_sub-result-in-Some
overflow_sub-result-in-Some c =
    let left = differs-left c.args.body.now c.args.image.now c.args.end _ c.requires (ap option_of (sym c.in-Some.is) ∙ c.mismatch.ensures) in
    omega arith
