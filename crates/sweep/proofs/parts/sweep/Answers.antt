-- `sweep::parts::sweep` meets its contract: the part begins and ends right, and its hits fit the buffers.
use Rattle.std.proofs.Common.{rules}
use Rattle.sweep.proofs.Laws.Parts.{longest-some, hits-fit, listing}
use Rattle.sweep.proofs.parts.sweep.Goals as goal

pub begin-from-requires : goal.begin-from-requires
begin-from-requires c = longest-some c.args.job.now.book.now c.args.job.now.image.now c.args.job.now.totals c.args.at c.args.job.now.known c.requires

pub shared_ref_as_front-passed : goal.shared_ref_as_front-passed
shared_ref_as_front-passed c = let j = c.args.job.now in
    let k = c.sweep in
    hits-fit j.book.now j.image.now j.totals c.args.at j.known c.requires _ _ c.begin-from.ensures c.end-to.ensures
    k.result _ _ _ _ (search rules) (search rules) k.ensures _ c.number-count.ensures

pub returns : goal.returns
returns c = let j = c.args.job.now in
    let k = c.sweep in
    let p = c.passed-before.ensures in
    listing j.book.now j.image.now j.totals c.args.at j.known c.requires _ _ c.begin-from.ensures c.end-to.ensures
    k.result _ _ _ _ (search rules) (search rules) k.ensures _ c.number-count.ensures
    _ p.0 p.1 p.2
