use borrow.Author.Rules.{rules}
use Prim.Native.Nat.{ℕ, suc, ◌+◌, ◌-◌, ◌*◌, ◌%◌, ◌<◌}
use native.Mathlib.Omega.{arith}
use native.Mathlib.Nat.{mod-lt}
use mathlib.Core.List.{List}
use mathlib.Core.Path.{◌≡◌, ap, sym, ◌∙◌}
use lib.ListN.{length, get_or}
use Rattle.book.specs.Filter.{marks, hash_from}
use Rattle.book.proofs.filter.hash.Goals as goal

-- One pair more.
onwards : (body : List ℕ) (pairs i sum : ℕ) → i < pairs → hash_from body (pairs - i) i sum
    ≡ hash_from body (pairs - (i + 1)) (i + 1) ((37 * sum + get_or body i 0 + get_or body (length body - 1 - i) 0) % marks)
onwards body pairs i sum h = let z : pairs - i ≡ suc (pairs - (i + 1)) = omega arith in ap (λ k. hash_from body k i sum) z

pub loop-i-preserved : goal.loop-i-preserved
loop-i-preserved c =
    let l = c.loop-i in
    let body = c.args.body.now in
    let pairs = c.min-pairs.result in (
      search rules,
      l.invariant.1,
      mod-lt _ (omega arith),
      rw (c.from.ensures, c.from-in-loop-i.ensures) (sym (onwards body pairs l.i l.sum (omega arith)) ∙ l.invariant.3),
    )
