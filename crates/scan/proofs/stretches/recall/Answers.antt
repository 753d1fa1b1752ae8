use Prim.Native.Nat.{◌-◌}
use native.Mathlib.Omega.{arith}
use Rattle.trie.specs.Lent.{tables_of}
use Rattle.scan.specs.State.{used}
use Rattle.scan.proofs.Laws.Stretches.{recalled-none, held-climbs, held-inside, lifted-below, recalled}
use Rattle.scan.proofs.stretches.recall.Goals as goal

-- `recall` meets its contract: the byte lies so far above the node of the stretch that has the place.
pub overflow_sub-at : goal.overflow_sub-at
overflow_sub-at c =
    let s = c.args.scan.now in
    let g = c.requires in
    omega (arith, (held-inside _ s.count s.shortest (used s.stretches) c.args.at c.seek.result c.seek.ensures c.in-Some.s c.in-Some.is g.ready.tree g.within.fits).0)

pub lift-v-requires : goal.lift-v-requires
lift-v-requires c =
    let s = c.args.scan.now in
    let g = c.requires in
    held-climbs _ s.count s.shortest (used s.stretches) c.args.at c.seek.result c.seek.ensures c.in-Some.s c.in-Some.is g.ready.tree g.within.fits

pub bounds-tables-v : goal.bounds-tables-v
bounds-tables-v c =
    let s = c.args.scan.now in
    let g = c.requires in
    lifted-below _ s.count s.shortest (used s.stretches) c.args.at c.seek.result c.seek.ensures c.in-Some.s c.in-Some.is g.ready.tree g.within.fits
    (c.args.at - c.in-Some.s.left) c.lift-v.result c.lift-v.ensures

pub returns-in-None : goal.returns-in-None
returns-in-None c =
    let s = c.args.scan.now in
    recalled-none (tables_of c.args.tables.now) s.count s.shortest (used s.stretches) c.args.at c.seek.result c.seek.ensures c.in-None.is

pub returns-in-Some : goal.returns-in-Some
returns-in-Some c =
    let s = c.args.scan.now in
    let g = c.requires in
    recalled _ s.count s.shortest (used s.stretches) c.args.at c.seek.result c.seek.ensures c.in-Some.s c.in-Some.is g.ready.tree g.within.fits
    c.lift-v.result c.lift-v.ensures
