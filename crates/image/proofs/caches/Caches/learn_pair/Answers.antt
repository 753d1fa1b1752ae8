-- `learn_pair` meets its contract: the cache is given the shift of a round that ended at its second byte, or stays.
use native.Mathlib.Omega.{arith}
use mathlib.Core.Path.{ap}
use Rattle.rules.specs.Options.{option_of}
use Rattle.image.proofs.Laws.Caches.{by-pair-set}
use Rattle.image.proofs.caches.Caches.learn_pair.Goals as goal

pub returns-in-Some : goal.returns-in-Some
returns-in-Some c =
    λ book image shortest l k.
    by-pair-set k _ c.in-Some.y _ (omega arith) c.ranges.first.fits (omega (arith, c.from.ensures, c.from-in-Some.ensures)) c.if-end-ne1.false
    c.if-end-ne0.false (ap option_of c.in-Some.is) l
