use Rattle.std.proofs.Common.{◌∷◌, [], refl, sym, subst, ◌∙◌}
use Rattle.std.proofs.lemmas.List.{map-append}
use Rattle.std.proofs.lemmas.Iterator.Consumers.{YieldsList-from_first, YieldsList-turn, YieldsList-end}
use Rattle.book.specs.Book.{bodies_in}
use Rattle.trie.specs.Filling.{lows}
use Rattle.trie.specs.Lent.{tables_of}
use Rattle.trie.proofs.Laws.WalksInPlace.{Walked, walked_none, walked-short, walked_on, walked_all}
use Rattle.trie.proofs.walks.Walks.walk_book.Goals as goal

pub loop-body-init : goal.loop-body-init
loop-body-init c = (walked_none c.requires.walks c.requires.book, refl, refl)

pub walk_words-requires : goal.walk_words-requires
walk_words-requires c = record {
  walks = c.loop-body.invariant.0.walks;
  short = walked-short c.loop-body.invariant.0 _ _ _ (YieldsList-turn (YieldsList-from_first (λ x. x.now) (λ left. left) (bodies_in c.args.book.now) (c.into_iter-body-iterator.ensures.into_iter_gives ∙ c.bodies-body-items.ensures))
      c.loop-body.yielded _ c.loop-body.yielded_by _ _ c.in-Some.body c.in-Some.is c.next.ensures.steps);
}

pub loop-body-preserved : goal.loop-body-preserved
loop-body-preserved c =
    let a = c.args in
    let w = c.walk_words in
    let more = sym (map-append (λ x. x.now) c.loop-body.yielded (c.in-Some.body ∷ [])) in (
      subst (Walked (tables_of a.self.now.tree) a.self.now.count a.self.now.kids a.book.now a.self.now.shortest (lows a.met.now a.whole.now) w.new.met w.new.whole) more
          (walked_on c.loop-body.invariant.0 c.in-Some.body.now _ _ w.ensures w.auto.met w.auto.whole),
      w.auto.met ∙ c.loop-body.invariant.1,
      w.auto.whole ∙ c.loop-body.invariant.2,
    )

pub returns : goal.returns
returns c =
    walked_all c.loop-body.invariant.0 (YieldsList-end (YieldsList-from_first (λ x. x.now) (λ left. left) (bodies_in c.args.book.now) (c.into_iter-body-iterator.ensures.into_iter_gives ∙ c.bodies-body-items.ensures))
    c.loop-body.yielded _ c.loop-body.yielded_by _ _ c.in-None.is c.next.ensures.steps).0
