use mathlib.Core.Path.{sym, subst, ◌∙◌}
use lib.ListN.{length}
use Rattle.rules.proofs.Laws.Words.{turned-bytes}
use Rattle.trie.specs.Lent.{written_of}
use Rattle.trie.specs.InPlace.{Ready}
use Rattle.trie.proofs.insert.insert_words.Goals as goal

-- `insert::insert_words` meets its contract: one word, and then another where the body has one.
pub insert-requires : goal.insert-requires
insert-requires c =
    let a = c.args in
    let n = (turned-bytes a.body.now (sym c.has_reverse-both.ensures ∙ c.if-not-both.false)).0 in (
      c.insert-nodes.ensures.ready (length a.body.now)
          (subst (Ready (written_of a.tables.now) a.count 0) n c.requires.0),
      c.requires.1,
    )
