-- `contains` meets its contract: the search through the bodies.
use Rattle.std.proofs.Common.{rules, ◌∙◌}
use borrow.Author.Tests.{tests}
use Rattle.std.proofs.lemmas.Iterator.Consumers.{YieldsList-from_first}
use Rattle.std.proofs.lemmas.Iterator.Search.{any_from_yields_List}
use Rattle.rules.specs.Words.{is_word}
use Rattle.book.specs.Book.{bodies_in}
use Rattle.book.proofs.Laws.Bodies.{any_listed}
use Rattle.book.proofs.contains.Goals as goal

pub returns : goal.returns
returns c =
    let a = c.args in
    any_from_yields_List (is_word a.body.now) c.any.new.self _ c.any.result c.any.ensures.ran
    (YieldsList-from_first (λ x. x.now) (λ left. left) (bodies_in a.book.now) c.bodies.ensures) (λ x b q k. search (rules, tests))
    ∙ any_listed (is_word a.body.now) (bodies_in a.book.now)
