-- `along` meets its contract: the rest of the way from the run's power is the whole way.
use native.Mathlib.Omega.{arith}
use lib.ListN.{length}
use Rattle.image.proofs.Laws.WalkAlong.{along-begins, along-room, along-shut}
use Rattle.image.proofs.walk.along.Goals as goal

pub copy-requires : goal.copy-requires
copy-requires c =
    let a = c.args in
    omega (
      arith,
      (along-room c.requires.tables a.sweep.now.image.now a.b c.requires.followed c.requires.run c.min-depth.result c.min-depth.ensures
          (length a.kept.now) c.requires.room).0,
      c.requires.followed.powers.room,
    )

pub returns-then-sweep-node-ne0 : goal.returns-then-sweep-node-ne0
returns-then-sweep-node-ne0 c =
    let a = c.args in
    along-shut c.requires.tables a.sweep.now.image.now a.b c.requires.followed c.requires.run c.min-depth.result c.min-depth.ensures
    c.copy.new.kept c.copy.ensures c.if-runs.true c.if-depth-b.true c.if-sweep-node-ne0.true

pub walk-requires-clause-way : goal.walk-requires-clause-way
walk-requires-clause-way c =
    let a = c.args in
    along-begins c.requires.tables a.sweep.now.image.now a.b c.requires.followed c.requires.run c.min-depth.result c.min-depth.ensures
    c.copy.new.kept c.copy.ensures
