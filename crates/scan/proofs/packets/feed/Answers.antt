use native.Mathlib.Omega.{arith}
use mathlib.Core.Path.{refl, ap, sym, ◌∙◌}
use mathlib.Core.List.{[]}
use lib.ListN.{get_or, drop_of_length-le}
use Rattle.trie.specs.Lent.{tables_of}
use Rattle.scan.specs.Calls.{supply}
use Rattle.scan.proofs.Laws.Singly.{due-inside}
use Rattle.scan.proofs.Laws.Packets.{feeding-begins, feeding-on, feeding-ends, feeding-stops}
use Rattle.scan.proofs.packets.feed.Goals as goal
use Rattle.scan.proofs.packets.feed.Goals.{else-loop-byte-test, then-loop-byte-test+then-not-is_below}

pub overflow_sub-last : goal.overflow_sub-last
overflow_sub-last c = omega (arith, due-inside _ c.args.scan c.requires)

pub overflow_sub-step : goal.overflow_sub-step
overflow_sub-step c = omega (arith, due-inside _ c.args.scan c.requires)

pub loop-byte-init : goal.loop-byte-init
loop-byte-init c = (feeding-begins _ c.args.scan c.args.bytes.now c.requires, refl)

pub loop-byte-preserved : goal.loop-byte-preserved
loop-byte-preserved c =
    let l = c.loop-byte in
    let step = c.supply_due-step in (
      feeding-on _ _ _ l.invariant.0 (omega arith) (sym c.is_below.ensures ∙ c.if-not-is_below.false) step.result
          (step.ensures ∙ ap (λ k. supply (tables_of c.args.tables.now) l.step.state (get_or c.args.bytes.now k 0)) (sym l.invariant.1)),
      omega arith,
    )

pub returns : goal.returns
returns c =
    let l = c.loop-byte in
    elim c.loop-byte-test.branch [
      | else-loop-byte-test w ↦
          feeding-ends _ _ _ l.invariant.0 [] (drop_of_length-le c.args.bytes.now {i = l.used} (omega (arith, w.loop-byte-test.false))) refl
      | then-loop-byte-test+then-not-is_below w ↦
          feeding-stops _ _ _ l.invariant.0 (sym w.is_below.ensures ∙ w.if-not-is_below.true)
    ]
