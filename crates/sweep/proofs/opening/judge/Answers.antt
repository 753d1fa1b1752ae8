-- `sweep::opening::judge` meets its contract, answer by answer.
use Rattle.std.proofs.Common.{refl}
use Rattle.std.proofs.lemmas.Result.{err_from_is_err_and}
use lib.ListN.{length}
use Rattle.book.specs.Answers.{totalled}
use Rattle.sweep.proofs.Laws.Opening.{judged, unread, over, within}
use Rattle.sweep.proofs.opening.judge.Goals as goal

pub returns-in_err-totals-clause-opens : goal.returns-in_err-totals-clause-opens
returns-in_err-totals-clause-opens c =
    let p = err_from_is_err_and c.from_residual.result c.from_residual.ensures.1 in
    rw (p.1, p.2) (unread c.args.book.now (length c.args.image.now) _ _ c.in_err-totals.ensures)

pub returns-in_err-totals-clause-starts : goal.returns-in_err-totals-clause-starts
returns-in_err-totals-clause-starts c = judged _ c.args.book.now c.args.image.now (returns-in_err-totals-clause-opens c)

pub returns-then-image-gt-LIMIT : goal.returns-then-image-gt-LIMIT
returns-then-image-gt-LIMIT c =
    let o = over c.args.book.now c.args.image.now (totalled c.in_ok-totals.totals) c.in_ok-totals.ensures c.if-image-gt-LIMIT.true in
    record { opens = o; starts = judged _ c.args.book.now c.args.image.now o; same = tt }

pub returns : goal.returns
returns c =
    let o = within c.args.book.now c.args.image.now (totalled c.in_ok-totals.totals) c.in_ok-totals.ensures c.if-image-gt-LIMIT.false in
    record { opens = o; starts = judged _ c.args.book.now c.args.image.now o; same = (refl, refl) }
