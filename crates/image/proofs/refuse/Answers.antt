-- `refuse` meets its contract, refusal by refusal.
use native.Mathlib.Omega.{arith}
use mathlib.Core.Path.{refl, ap, sym, ◌∙◌}
use Rattle.book.specs.Answers.{totalled, verdict_of}
use Rattle.book.proofs.Laws.Accepted.{Summed, summed, summed-small}
use Rattle.image.proofs.Laws.SweepImage.{refusal-short, refusal-long}
use Rattle.image.proofs.refuse.Goals.{In_ok-totals}
use Rattle.image.proofs.refuse.Goals as goal

-- the book's totals are its own
sums : (c : In_ok-totals) → Summed c.args.book.now (totalled c.in_ok-totals.totals)
sums c = summed c.args.book.now _ (ap verdict_of (sym c.in_ok-totals.was) ∙ c.read.ensures)

pub overflow_add-room : goal.overflow_add-room
overflow_add-room c = omega (arith, summed-small _ _ (sums (goal.at.overflow_add-room c).In_ok-totals))

pub returns-then-entries-room : goal.returns-then-entries-room
returns-then-entries-room c =
    let s = sums (goal.at.returns-then-entries-room c).In_ok-totals in
    (refl, refl, λ t e. refusal-short c.args.book.now t (totalled c.in_ok-totals.totals) s c.args.entries e c.if-entries-room.true)

pub returns : goal.returns
returns c =
    let s = sums (goal.at.returns c).In_ok-totals in
    (refl, refl, λ t e. refusal-long c.args.book.now t (totalled c.in_ok-totals.totals) s c.args.entries e c.if-entries-room.false)
