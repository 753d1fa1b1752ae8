use Prim.Native.Nat.{ℕ, ◌+◌, ◌-◌, ◌<◌}
use native.Mathlib.Omega.{arith}
use native.Mathlib.Nat.{zero-add}
use native.Mathlib.Numerals.{add-one}
use mathlib.Core.List.{List, [], reverse}
use mathlib.Core.Path.{◌≡◌, ap, sym, ◌∙◌}
use borrow.Author.Rules.{rules}
use lib.ListN.{length, get_or, drop, set, length-reverse, drop_of_length-le}
use lib.Seq.{sets, sets-eq, drop-cons}
use Rattle.rules.proofs.Laws.Words.{reverse-at}
use Rattle.image.proofs.rule5.reverse_into.Goals as goal

-- one byte of it
written : (body into : List ℕ) (i : ℕ) → i < length body
    → sets (set into i (get_or body (length body - 1 - i) 0)) (i + 1) (drop (i + 1) (reverse body)) ≡ sets into i (drop i (reverse body))
written body into i h =
    rw (add-one, ← reverse-at body i h) (sym (ap (sets into i) (drop-cons (reverse body) i 0 (omega (arith, length-reverse body)))))

pub loop-i-preserved : goal.loop-i-preserved
loop-i-preserved c =
    let l = c.loop-i in
    let body = c.args.body.now in (
      search rules,
      written body l.into l.i c.loop-i-test.true ∙ l.invariant.1,
    )

pub returns : goal.returns
returns c =
    let a = c.args in
    let l = c.loop-i in
    let u = reverse a.body.now in
    let n = length-reverse a.body.now in
    let z : drop l.i u ≡ [] = drop_of_length-le u {i = l.i} (omega arith) in
    sym (ap (sets l.into l.i) z) ∙ l.invariant.1
    ∙ sets-eq u a.into.now 0 (omega (arith, n, c.requires.0, c.requires.1)) ∙ rw zero-add
