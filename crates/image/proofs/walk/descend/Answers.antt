use Prim.Native.Nat.{◌-◌}
use native.Mathlib.Omega.{arith}
use mathlib.Core.Path.{refl}
use borrow.Author.Rules.{rules}
use lib.ListN.{get_or}
use Rattle.image.proofs.Laws.WalkDescend.{child-held, descend-none, descend-begins}
use Rattle.image.proofs.walk.descend.Goals as goal

-- `descend` meets its contract: by the run that ends at the boundary, or by the root's child.
pub returns-then-node-eq0 : goal.returns-then-node-eq0
returns-then-node-eq0 c =
    let a = c.args in
    descend-none c.requires.tables a.sweep.now.image.now a.b c.requires.place.0 (get_or a.sweep.now.image.now (a.b - 1) 0) c.from-node.result refl
    (search rules) a.sweep.now.kids c.requires.kids c.from-node.ensures c.if-node-eq0.true a.kept.now

pub bounds-sweep-node : goal.bounds-sweep-node
bounds-sweep-node c =
    let a = c.args in
    let held = child-held c.requires.tables a.sweep.now.image.now a.b c.requires.place.0 (get_or a.sweep.now.image.now (a.b - 1) 0) c.from-node.result refl
    (search rules) a.sweep.now.kids c.requires.kids c.from-node.ensures c.if-node-eq0.false in
    omega (arith, held, c.requires.tables.tokens)

pub walk-requires : goal.walk-requires
walk-requires c =
    let a = c.args in
    let way = descend-begins c.requires.tables a.sweep.now.image.now a.b c.requires.place.0 (get_or a.sweep.now.image.now (a.b - 1) 0) c.from-node.result refl
    (search rules) a.sweep.now.kids c.requires.kids c.from-node.ensures c.if-node-eq0.false
    c.keep-met.new.kept c.keep-met.result c.keep-met.ensures.size c.keep-met.ensures.kept in
    record { place = c.requires.place; tables = c.requires.tables; way = way; room = omega (arith, c.requires.room) }
