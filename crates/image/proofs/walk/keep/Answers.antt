use Rattle.image.proofs.Laws.WalkDescend.{keep-none, keep_some}
use Rattle.image.proofs.walk.keep.Goals as goal

-- `keep` meets its contract: by whether there is a number.
pub returns-then-number-eq0 : goal.returns-then-number-eq0
returns-then-number-eq0 c =
    let a = c.args in
    let e = keep-none a.kept.now a.n a.number c.if-number-eq0.true in
    record { size = e.0; kept = e.1 }

pub returns : goal.returns
returns c =
    let a = c.args in
    let e = keep_some a.kept.now a.n a.number c.if-number-eq0.false c.requires in
    record { size = e.0; kept = e.1 }
