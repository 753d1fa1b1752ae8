-- `attempt` meets its contract: over the tables it ends and meets what a round of the tokens does, and its shift is that of where it ended.
use Prim.Native.Nat.{◌≤◌}
use native.Mathlib.Omega.{arith}
use mathlib.Core.Path.{refl, ap}
use Rattle.image.proofs.Laws.Turn.{Arrives, arrives-deep, arrives-some, by_near, learns, sees, ended}
use Rattle.image.proofs.Laws.TurnAttempt.{begun_at, begun-known, tables-walk, round-place, round-numbers, round-arrives, round_room, round-met}
use Rattle.image.proofs.turn.attempt.Goals.{Start, After-descend-end}
use Rattle.image.proofs.turn.attempt.Goals as goal

arrives : (d : After-descend-end) → let a = d.args in
    Arrives a.sweep.now.book.now a.sweep.now.image.now a.sweep.now.tables.shift.now a.sweep.now.shortest (begun_at d.requires.begun) d.descend-end.result
arrives d =
    let p = d.requires in
    round-arrives p.given (begun-known p.begun) p.begun.inside d.descend-end.result d.descend-end.ensures.0

positive : (s : Start) → 1 ≤ s.args.b
positive s = (begun-known s.requires.begun).stands.positive

pub descend-end-requires : goal.descend-end-requires
descend-end-requires c =
    let p = c.requires in
    let k = begun-known p.begun in
    record {
      place = round-place p.given k p.begun.inside;
      tables = tables-walk p.given;
      kids = p.kids;
      followed = p.followed;
      room = omega (arith, c.well_formed, round_room p.given k p.begun.inside);
    }

pub shift-by-requires : goal.shift-by-requires
shift-by-requires c =
    let a = arrives (goal.at.shift-by-requires c).After-descend-end in
    record { book = a.read; entry = (a.held, arrives-some a); right = c.requires.caches }

pub learn-requires : goal.learn-requires
learn-requires c =
    let near = by_near (arrives (goal.at.learn-requires c).After-descend-end) c.shift-by.result c.shift-by.ensures.shift in
    near

pub overflow_sub-b : goal.overflow_sub-b
overflow_sub-b c = omega (arith, positive (goal.at.overflow_sub-b c).Start)

pub bounds-sweep-b : goal.bounds-sweep-b
bounds-sweep-b c = omega (arith, positive (goal.at.bounds-sweep-b c).Start, c.requires.begun.inside)

pub learn_pair-requires : goal.learn_pair-requires
learn_pair-requires c =
    let near = by_near (arrives (goal.at.learn_pair-requires c).After-descend-end) c.shift-by.result c.shift-by.ensures.shift in
    near

pub lowest-low-requires : goal.lowest-low-requires
lowest-low-requires c = arrives-deep (arrives (goal.at.lowest-low-requires c).After-descend-end)

pub mark-requires : goal.mark-requires
mark-requires c =
    let p = c.requires in
    let k = begun-known p.begun in
    let d = c.descend-end in
    let n = round-numbers p.given k p.begun.inside in
    let deep = ap (λ r. r.depth) d.ensures.0 in
    record { numbers = (n.0, n.1, omega (arith, d.ensures.1.1, deep, round_room p.given k p.begun.inside, c.well_formed, d.auto.kept)) }

pub returns : goal.returns
returns c =
    let a = arrives (goal.at.returns c).After-descend-end in
    let p = c.requires in
    let d = c.descend-end in
    let by = c.shift-by.result in
    let e = c.shift-by.ensures.shift in
    record {
      ended = ended a by e c.lowest-low.result c.mark.result c.lowest-low.ensures;
      hits = round-met p.given (begun-known p.begun) p.begun.inside d.result d.ensures.0 d.new.kept d.ensures.1.0 c.mark.ensures.noted;
      caches = c.learn_pair.ensures c.args.sweep.now.book.now c.args.sweep.now.image.now c.args.sweep.now.shortest (sees a by e _ refl)
          (c.learn.ensures c.args.sweep.now.book.now c.args.sweep.now.image.now c.args.sweep.now.shortest (learns a by e)
          c.shift-by.ensures.right);
      lent = c.mark.ensures.lent;
    }
