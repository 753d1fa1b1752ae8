-- `join` meets its contract, by what the survey found.
use Rattle.std.proofs.lemmas.Result.{err_from_is_err_and}
use Rattle.book.specs.Book.{bodies_in}
use Rattle.merge.proofs.Laws.Valid.{within}
use Rattle.merge.proofs.Laws.Join.{refuses, too_short_lem, room, told, written}
use Rattle.merge.proofs.join.Goals as goal

pub returns-in_err-found : goal.returns-in_err-found
returns-in_err-found c =
    let p = err_from_is_err_and c.from_residual.result c.from_residual.ensures.1 in
    rw (p.1, p.2) (refuses _ c.in_err-found.ensures c.args.out.now)

pub returns-then-out-found : goal.returns-then-out-found
returns-then-out-found c = too_short_lem _ c.in_ok-found.ensures _ c.if-out-found.true

pub write-requires : goal.write-requires
write-requires c =
    let y = c.in_ok-found.ensures in
    record {
      first_value = c.requires.made;
      second_len_bound = ((within (bodies_in c.args.second.now) c.requires.second_fits).0, told _ y);
      second_in_bounds = room _ y c.args.out.now c.if-out-found.false;
    }

pub returns : goal.returns
returns c = written _ c.in_ok-found.ensures _ _ c.if-out-found.false c.write.ensures
