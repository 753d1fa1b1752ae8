use borrow.Author.Rules.{rules}
use native.Mathlib.Omega.{arith}
use mathlib.Core.List.{reverse}
use mathlib.Core.Path.{refl, ap, sym, ◌∙◌}
use lib.ListN.{length, length-reverse, drop_of_length-le}
use Rattle.rules.proofs.Laws.Tests.{false-test}
use Rattle.rules.proofs.Laws.Endings.{same→eq}
use Rattle.rules.proofs.Laws.Words.{reverse-at}
use Rattle.book.proofs.Laws.Words.{differs, agrees}
use Rattle.book.proofs.words.mirrors.Goals as goal

pub returns-then-b-a : goal.returns-then-b-a
returns-then-b-a c =
    let a = c.args in
    let n = length-reverse a.b.now in
    sym (false-test _ (λ t. c.if-b-a.true (sym (ap length (same→eq a.a.now (reverse a.b.now) t) ∙ n))))

pub loop-k-init : goal.loop-k-init
loop-k-init c = (search rules, refl)

pub returns-then-a-k : goal.returns-then-a-k
returns-then-a-k c =
    let a = c.args in
    let l = c.loop-k in
    let x = reverse-at a.b.now l.k (omega arith) in
    sym (differs a.a.now (reverse a.b.now) l.k (omega arith) (omega (arith, length-reverse a.b.now)) (λ e. c.if-a-k.true (e ∙ x)))
    ∙ l.invariant.1

pub loop-k-preserved : goal.loop-k-preserved
loop-k-preserved c =
    let a = c.args in
    let l = c.loop-k in
    let x = reverse-at a.b.now l.k (omega arith) in (
      search rules,
      sym (agrees a.a.now (reverse a.b.now) l.k (omega arith) (omega (arith, length-reverse a.b.now)) (c.if-a-k.false ∙ sym x)) ∙ l.invariant.1,
    )

pub returns : goal.returns
returns c =
    let a = c.args in
    let l = c.loop-k in
    let n = length-reverse a.b.now in
    rw (← l.invariant.1, drop_of_length-le a.a.now {i = l.k} (omega arith), drop_of_length-le (reverse a.b.now) {i = l.k} (omega arith))
