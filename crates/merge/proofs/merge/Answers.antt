-- `merge` meets its contract, by what reading the two books answered.
use Rattle.std.proofs.Common.{◌≡◌, Ok, ap, sym, ◌∙◌, arith}
use Rattle.std.proofs.lemmas.Grind.{common_steps}
use Rattle.book.specs.Answers.{totalled, verdict_of}
use Rattle.book.proofs.Laws.Accepted.{Summed, summed}
use Rattle.merge.proofs.Laws.Merge.{books, joined}
use Rattle.merge.proofs.merge.Goals as goal
use Rattle.merge.proofs.merge.Goals.{In_ok-map_err}

module _ (c : In_ok-map_err) where
  -- The first book is accepted.
  first-summed : Summed c.args.first.now (totalled c.in_ok-totals.totals)
  first-summed = summed _ _ c.in_ok-totals.ensures

  -- And so is the second.
  second-summed : Summed c.args.second.now (totalled c.in_ok-map_err.field-0)
  second-summed =
      let read : c.read-2.result ≡ Ok c.in_ok-map_err.field-0 = grind (arith, common_steps) in
      summed _ _ (ap verdict_of (sym read) ∙ c.read-2.ensures)

pub join-requires : goal.join-requires
join-requires c =
    let p = (goal.at.join-requires c).In_ok-map_err in
    books _ (first-summed p) (second-summed p)

pub returns : goal.returns
returns c =
    let a = c.args in
    let p = (goal.at.returns c).In_ok-map_err in
    joined a.first.now a.second.now a.out.now _ (first-summed p) _ (second-summed p) _ c.join.ensures
