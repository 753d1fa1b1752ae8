-- `sweep_image` meets its contract: by what `refuse`, building and the sweep answer.
use mathlib.Core.Path.{ap, sym, ◌∙◌}
use Rattle.tables.specs.Tables.{Sizes, shortest_table}
use Rattle.trie.specs.Answers.{answer_of}
use Rattle.trie.specs.Lent.{tables_of, written_of}
use Rattle.image.specs.Results.{swept_of, fetched_of, spared_of}
use Rattle.image.proofs.Laws.SweepImage.{Built, answer-long, answer-unbuilt, is-built, built-given, answer-built}
use Rattle.image.proofs.sweep_image.Goals.{In_ok-sizes}
use Rattle.image.proofs.sweep_image.Goals as goal

abbrev sized : In_ok-sizes → Sizes
sized c = let s = c.in_ok-sizes.sizes in record { nodes = s.nodes; shortest = s.shortest; longest = s.longest }

-- the tables are built
stand : (c : In_ok-sizes) → Built c.args.book.now (written_of c.args.tables.now) (written_of c.build.new.tables) (sized c)
stand c =
    is-built c.args.book.now (written_of c.args.tables.now) (written_of c.build.new.tables) (sized c)
    (ap (λ r. record { answer = answer_of r; tables = written_of c.build.new.tables }) (sym c.in_ok-sizes.was) ∙ c.build.ensures.answer)

pub returns-then-image-gt-IMAGE-clause-answer : goal.returns-then-image-gt-IMAGE-clause-answer
returns-then-image-gt-IMAGE-clause-answer c =
    let a = c.args in
    let lent = written_of a.tables.now in
    answer-long a.book.now a.image.now lent a.hits.now.ends.now a.hits.now.tokens.now c.if-image-gt-IMAGE.true
    (swept_of c.refuse.result) (fetched_of c.refuse.result) (spared_of c.refuse.result)
    (c.refuse.ensures.2 lent (c.shortest.ensures ∙ ap shortest_table c.shared.ensures)) c.refuse.ensures.0 c.refuse.ensures.1

pub rounds-found-requires-clause-given : goal.rounds-found-requires-clause-given
rounds-found-requires-clause-given c =
    built-given c.args.image.now (stand (goal.at.rounds-found-requires-clause-given c).In_ok-sizes) c.if-image-gt-IMAGE.false
    (tables_of c.shared-built.result) c.shared-built.ensures

pub returns-in_err-sizes-clause-answer : goal.returns-in_err-sizes-clause-answer
returns-in_err-sizes-clause-answer c =
    let a = c.args in
    answer-unbuilt a.book.now a.image.now (written_of a.tables.now) a.hits.now.ends.now a.hits.now.tokens.now _ c.from_residual.result
    (written_of c.build.new.tables) c.from_residual.ensures
    (ap (λ r. record { answer = answer_of r; tables = written_of c.build.new.tables }) (sym c.in_err-sizes.was) ∙ c.build.ensures.answer)

pub returns-clause-answer : goal.returns-clause-answer
returns-clause-answer c =
    let a = c.args in
    let f = c.rounds-found.ensures in
    answer-built a.image.now (stand (goal.at.returns-clause-answer c).In_ok-sizes) c.if-image-gt-IMAGE.false a.hits.now.ends.now a.hits.now.tokens.now
    f.hits f.fetched f.spared f.ends f.tokens c.min.ensures
    (swept_of c.answer.result) (fetched_of c.answer.result) (spared_of c.answer.result)
    c.answer.ensures.0 c.answer.ensures.1 c.answer.ensures.2
