use Rattle.std.proofs.Common.{refl, rules, arith, ◌∙◌}
use Rattle.trie.specs.Lent.{written_of}
use Rattle.trie.proofs.Laws.TokensInPlace.{fill-room, fill-first, fill-ready, fill_on, fill_done}
use Rattle.trie.proofs.fill.fill.Goals as goal

pub loop-body-init : goal.loop-body-init
loop-body-init c = (fill-first _ _ c.requires _ (c.into_iter-body-iterator.ensures.into_iter_gives ∙ c.bodies-body-items.ensures), search rules)

pub insert_words-count-requires : goal.insert_words-count-requires
insert_words-count-requires c = fill-ready c.loop-body.invariant.0 _ _ c.in-Some.ensures.steps

pub overflow_add-number : goal.overflow_add-number
overflow_add-number c = omega (arith, (fill-ready c.loop-body.invariant.0 _ _ c.in-Some.ensures.steps).1)

pub loop-body-preserved : goal.loop-body-preserved
loop-body-preserved c = (
  fill_on c.loop-body.invariant.0 _ _ c.in-Some.ensures.steps
      (record { tables = written_of c.insert_words-count.new.tables; count = c.insert_words-count.result }) c.insert_words-count.ensures.tables,
  search rules,
)

pub returns-clause-tables : goal.returns-clause-tables
returns-clause-tables c =
    fill_done c.loop-body.invariant.0 c.in-None.ensures.steps.0 (written_of c.args.tables.now) refl (fill-room _ _ c.requires)
