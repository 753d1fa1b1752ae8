-- `full` meets its contract: four shifts of which none is above S make four times S only if each is S.
use Prim.Native.Nat.{◌+◌, ◌*◌}
use native.Mathlib.Omega.{arith}
use mathlib.Core.Path.{◌≡◌}
use borrow.Author.Tests.{eqb-true}
use Rattle.image.proofs.Laws.Skim.{cached-is}
use Rattle.image.proofs.caches.Caches.full.Goals as goal

pub returns : goal.returns
returns c e =
    let one = c.skip_at in
    let two = c.skip_at-2 in
    let three = c.skip_at-3 in
    let four = c.skip_at-4 in
    let sum : one.result + two.result + (three.result + four.result) ≡ 4 * c.args.shortest = eqb-true _ _ e in
    let upto = c.requires.upto in
    let u1 = upto _ _ one.ensures.0 in
    let u2 = upto _ _ two.ensures.0 in
    let u3 = upto _ _ three.ensures.0 in
    let u4 = upto _ _ four.ensures.0 in
    record {
      one = cached-is one.ensures.0 (omega (arith, sum, u1, u2, u3, u4));
      two = cached-is two.ensures.0 (omega (arith, sum, u1, u2, u3, u4));
      three = cached-is three.ensures.0 (omega (arith, sum, u1, u2, u3, u4));
      four = cached-is four.ensures.0 (omega (arith, sum, u1, u2, u3, u4));
    }
