use mathlib.Core.Path.{refl}
use native.Mathlib.Omega.{arith}
use Rattle.scan.proofs.Laws.Spell.{spelling-again, spelling-runs, spelling-done}
use Rattle.scan.proofs.spell.spell.Goals as goal

pub loop-at-init : goal.loop-at-init
loop-at-init c = (c.requires, record { below = c.requires.below; sum = omega arith; rest = refl })

pub loop-at-preserved : goal.loop-at-preserved
loop-at-preserved c = let l = c.loop-at in
    let e = c.spell_run-run.ensures in (
      l.invariant.0,
      spelling-again l.invariant.0.tree.falling (spelling-runs l.invariant.1 e) (λ z. omega (arith, e.up)) c.from-at.result c.from-at.ensures,
    )

pub returns : goal.returns
returns c = let l = c.loop-at in
    let s = l.invariant.0 in
    let done = spelling-done _ s.count c.args.node c.args.into.now l.into l.at l.n l.invariant.1 c.loop-at-test.false
    (omega (arith, s.tree.deep c.args.node s.below)) in
    record { length = done.0; bytes = done.1 }
