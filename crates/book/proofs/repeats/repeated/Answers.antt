-- `repeats::repeated` meets its contract: a body whose mark is not set is a word of none of the earlier ones.
use Rattle.std.proofs.Common.{sym, ◌∙◌}
use Rattle.book.specs.Book.{bodies_in}
use Rattle.book.proofs.Laws.Filter.{covers_more, unmarked-new}
use Rattle.book.proofs.repeats.repeated.Goals as goal

pub returns-then-mark : goal.returns-then-mark
returns-then-mark c k =
    let a = c.args in
    let h = c.hash.ensures in
    (c.contains.ensures, rw (c.mark.ensures.1, h.0) (covers_more a.filter.now a.body.now (bodies_in a.earlier.now) k (rw h.0 at h.1)))

pub returns-else-mark : goal.returns-else-mark
returns-else-mark c k =
    let a = c.args in
    let h = c.hash.ensures in
    let unset = sym c.mark.ensures.0 ∙ c.if-mark.false in (
      c.if-mark.false ∙ sym (unmarked-new a.filter.now a.body.now (bodies_in a.earlier.now) k (rw h.0 at unset)),
      rw (c.mark.ensures.1, h.0) (covers_more a.filter.now a.body.now (bodies_in a.earlier.now) k (rw h.0 at h.1)),
    )
