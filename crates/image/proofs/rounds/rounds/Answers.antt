use Prim.Native.Nat.{◌+◌, ◌-◌, ◌^◌, ◌≤◌}
use native.Mathlib.Omega.{arith}
use mathlib.Core.Path.{refl, sym, ◌∙◌}
use borrow.Author.Rules.{rules}
use Rattle.image.specs.Sweeping.{Standing}
use Rattle.image.proofs.Laws.Turn.{Turned, ended-numbers, ended-fits, ended-few, ended-loose, turned, turned-bare, turned_as}
use Rattle.image.proofs.Laws.TurnAttempt.{tables-walk, round-place, round-goes}
use Rattle.image.proofs.Laws.Rounds.{RoundingIn, caches-none, rounding-begins, followed-none, known, rounding-small, rounding-skimmable, rounding-skims, rounding-begun, rounding-again, rounding-done}
use Rattle.image.proofs.rounds.rounds.Goals.{After-attempt-a, After-loose-loose, Joined-forgets, then-forgets, else-forgets}
use Rattle.image.proofs.rounds.rounds.Goals as goal

numbers : (m : After-attempt-a) → let b = m.loop-b.b in
    let r = m.attempt-a.result in
    (r.depth ≤ b) × (r.low ≤ b) × (1 ≤ r.by) × (r.by ≤ 1024) × (b ≤ 16777216) × (m.loop-b.fetched + m.loop-b.spared ≤ 2 ^ 36)
numbers m = ended-numbers (known m.loop-b.invariant.0) m.loop-b-test.true m.requires.given.within m.attempt-a.ensures.ended

-- They are not more than those it looked at.
fresh : (c : After-loose-loose) → c.loose-loose.result ≤ c.loop-b.b - c.attempt-a.result.low
fresh c =
    omega (
      arith,
      c.loose-loose.ensures,
      ended-loose (known c.loop-b.invariant.0) c.loop-b-test.true c.requires.given.within c.attempt-a.ensures.ended,
    )

-- Where the sweep stood before the round, and where it stands then.
abbrev here : Joined-forgets → Standing
here j =
    let l = j.loop-b in
    record { boundary = l.b; spans = l.spans; fetched = l.fetched; spared = l.spared; hits = l.found }

abbrev after : Joined-forgets → Standing
after j =
    let s = j.if-forgets in
    let a = j.attempt-a.result in
    record { boundary = j.loop-b.b + a.by; spans = s.spans; fetched = s.fetched; spared = s.spared; hits = a.hits }

next : (j : Joined-forgets) → Turned j.args.sweep.now.book.now j.args.sweep.now.image.now (here j) (after j) j.attempt-a.result.hits
next j =
    let k = known j.loop-b.invariant.0 in
    let h = j.loop-b-test.true in
    let w = j.requires.given.within in
    let e = j.attempt-a.ensures.ended in
    let hits = j.attempt-a.result.hits in
    elim j.if-forgets.branch [
      | then-forgets r ↦
          turned_as r.spans-is r.fetched-is r.spared-is
          (turned-bare k h w e hits (sym j.forgets.ensures ∙ r.if-forgets.true))
      | else-forgets r ↦
          turned_as r.spans-is r.fetched-is r.spared-is
          (turned k h w e r.remember.new.self r.loose-loose.result hits r.remember.ensures r.loose-loose.ensures)
    ]

-- What then holds there: the buffers have what was found, and the caches are right.
again : (j : Joined-forgets) → let a = j.args in
    let n = j.attempt-a.new in
    RoundingIn a.sweep.now a.hits.now n.hits n.caches (after j)
again j =
    let i = j.loop-b.invariant in
    let f = j.attempt-a.ensures in
    rounding-again i.0 (round-goes j.requires.given (known i.0) j.loop-b-test.true (next j) f.hits) f.caches

pub loop-b-init : goal.loop-b-init
loop-b-init c =
    let p = c.requires in (
      rounding-begins c.args.hits.now.ends.now c.args.hits.now.tokens.now p.given (caches-none c.args.sweep.now c.none-caches.ensures) refl
          c.none-spans.ensures (refl, refl, refl),
      followed-none c.args.sweep.now.image.now (tables-walk p.given).some-node c.none-runs.ensures,
      (refl, refl),
    )

pub follow-requires : goal.follow-requires
follow-requires c =
    let g = c.requires.given in
    let i = c.loop-b.invariant in
    record { place = round-place g (known i.0) c.loop-b-test.true; tables = tables-walk g; before = i.1 }

pub attempt-a-requires : goal.attempt-a-requires
attempt-a-requires c =
    let p = c.requires in
    let i = c.loop-b.invariant in
    record {
      given = p.given;
      begun = rounding-begun i.0 c.loop-b-test.true;
      kids = p.kids;
      followed = c.follow.ensures;
      caches = i.0.right;
    }

pub forgets-requires : goal.forgets-requires
forgets-requires c = (numbers (goal.at.forgets-requires c).After-attempt-a).3

pub overflow_sub-fetched : goal.overflow_sub-fetched
overflow_sub-fetched c = omega (arith, numbers (goal.at.overflow_sub-fetched c).After-attempt-a)

pub overflow_add-fetched : goal.overflow_add-fetched
overflow_add-fetched c = omega (arith, numbers (goal.at.overflow_add-fetched c).After-attempt-a)

pub loose-loose-requires : goal.loose-loose-requires
loose-loose-requires c =
    let n = numbers (goal.at.loose-loose-requires c).After-attempt-a in
    let i = c.loop-b.invariant in
    record {
      fits = ended-fits (known i.0) c.loop-b-test.true c.requires.given.within c.attempt-a.ensures.ended;
      numbers = (n.1, omega (arith, n));
    }

pub overflow_add-fetched-else-forgets : goal.overflow_add-fetched-else-forgets
overflow_add-fetched-else-forgets c =
    let at = goal.at.overflow_add-fetched-else-forgets c in omega (arith, numbers at.After-attempt-a, fresh at.After-loose-loose)

pub overflow_sub-spared : goal.overflow_sub-spared
overflow_sub-spared c = omega (arith, numbers (goal.at.overflow_sub-spared c).After-attempt-a)

pub overflow_sub-spared-else-forgets : goal.overflow_sub-spared-else-forgets
overflow_sub-spared-else-forgets c = omega (arith, fresh (goal.at.overflow_sub-spared-else-forgets c).After-loose-loose)

pub overflow_add-spared : goal.overflow_add-spared
overflow_add-spared c = omega (arith, numbers (goal.at.overflow_add-spared c).After-attempt-a)

pub overflow_sub-b : goal.overflow_sub-b
overflow_sub-b c = omega (arith, numbers (goal.at.overflow_sub-b c).After-attempt-a)

pub overflow_add-b : goal.overflow_add-b
overflow_add-b c = omega (arith, numbers (goal.at.overflow_add-b c).After-attempt-a)

pub remember-requires : goal.remember-requires
remember-requires c =
    let n = numbers (goal.at.remember-requires c).After-attempt-a in
    let i = c.loop-b.invariant in
    let h = c.loop-b-test.true in
    let w = c.requires.given.within in
    let e = c.attempt-a.ensures.ended in
    record {
      fits = ended-fits (known i.0) h w e;
      numbers = (omega arith, omega arith, omega (arith, n));
      few = ended-few (known i.0) h w e;
    }

pub overflow_add-b-in-loop-b : goal.overflow_add-b-in-loop-b
overflow_add-b-in-loop-b c = omega (arith, numbers (goal.at.overflow_add-b-in-loop-b c).After-attempt-a)

pub ahead-on-requires : goal.ahead-on-requires
ahead-on-requires c = rounding-skimmable (again (goal.at.ahead-on-requires c).Joined-forgets) c.requires.given

pub overflow_add-fetched-in-loop-b : goal.overflow_add-fetched-in-loop-b
overflow_add-fetched-in-loop-b c =
    let g = c.requires.given in
    let on = rounding-skims (again (goal.at.overflow_add-fetched-in-loop-b c).Joined-forgets) g c.ahead-on.ensures.leads in
    omega (arith, (rounding-small on g.within).1)

pub loop-b-smaller : goal.loop-b-smaller
loop-b-smaller c =
    omega (arith, numbers (goal.at.loop-b-smaller c).After-attempt-a, c.loop-b-test.true, c.ahead-on.ensures.up)

pub loop-b-preserved : goal.loop-b-preserved
loop-b-preserved c =
    let i = c.loop-b.invariant in (
      rounding-skims (again (goal.at.loop-b-preserved c).Joined-forgets) c.requires.given c.ahead-on.ensures.leads,
      c.follow.ensures,
      search rules,
    )

pub returns : goal.returns
returns c =
    let d = rounding-done c.loop-b.invariant.0 c.loop-b-test.false in
    record { hits = d.0; fetched = d.1; spared = d.2; ends = d.3; tokens = d.4; lent = search rules }
