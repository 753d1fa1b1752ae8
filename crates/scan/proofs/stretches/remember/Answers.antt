use Prim.Native.Nat.{◌-◌}
use native.Mathlib.Omega.{arith}
use mathlib.Core.Path.{sym, ◌∙◌}
use Rattle.trie.specs.Lent.{tables_of}
use Rattle.rules.specs.Rules.{left_over}
use Rattle.rules.proofs.Laws.Limit.Span.{cut-ge}
use Rattle.scan.specs.State.{used}
use Rattle.scan.proofs.Laws.StretchesRemember.{Ended, new-before, ends-full, ends-dropped, ends-put}
use Rattle.scan.proofs.stretches.remember.Goals as goal
use Rattle.scan.proofs.stretches.remember.Goals.{After-lift, then-f-ge5-via-then-f-ge5, then-f-ge5-via-else-f-ge5+then-not-kept_at}

pub overflow_sub-left : goal.overflow_sub-left
overflow_sub-left c =
    let s = c.args.scan.now in
    omega (arith, c.edge-left.ensures, cut-ge (s.boundary - s.depth) (left_over (s.boundary - s.depth) (used s.stretches)))

-- how the round ended, as far as it is found
ended : (c : After-lift) → Ended (tables_of c.args.tables.now) c.args.scan.now c.args.next c.edge-left.result c.lift.result c.held-f.result
ended c = record { goes = c.requires.goes; moves = c.requires.moves; edge = c.edge-left.ensures; lift = c.lift.ensures; held = c.held-f.ensures }

pub returns-then-f-ge5 : goal.returns-then-f-ge5
returns-then-f-ge5 c =
    let e = ended (goal.at.returns-then-f-ge5 c).After-lift in
    elim c.then-f-ge5.branch [
      | then-f-ge5-via-then-f-ge5 w ↦ ends-full e w.if-f-ge5.true
      | then-f-ge5-via-else-f-ge5+then-not-kept_at w ↦ ends-dropped e (sym w.kept_at.ensures ∙ w.if-not-kept_at.true)
    ]

pub kept_at-requires : goal.kept_at-requires
kept_at-requires c = new-before (ended (goal.at.kept_at-requires c).After-lift)

pub returns : goal.returns
returns c = ends-put (ended (goal.at.returns c).After-lift) (sym c.kept_at.ensures ∙ c.if-not-kept_at.false) c.put.result c.put.ensures
