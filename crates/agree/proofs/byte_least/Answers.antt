use native.Mathlib.Omega.{arith}
use mathlib.Core.Path.{sym, ◌∙◌}
use Rattle.agree.proofs.Laws.Agree.{byte_cut, search-found, search-again}
use Rattle.agree.proofs.byte_least.Goals as goal

pub returns-then-fits : goal.returns-then-fits
returns-then-fits c =
    let a = c.args in
    let l = c.loop-s in
    search-found l.invariant c.loop-s-test.true
    (sym (byte_cut a.body.now a.depth a.x (omega arith) l.s) ∙ sym c.fits.ensures ∙ c.if-fits.true)

pub loop-s-preserved : goal.loop-s-preserved
loop-s-preserved c =
    let a = c.args in
    let l = c.loop-s in
    search-again l.invariant c.loop-s-test.true
    (sym (byte_cut a.body.now a.depth a.x (omega arith) l.s) ∙ sym c.fits.ensures ∙ c.if-fits.false)
