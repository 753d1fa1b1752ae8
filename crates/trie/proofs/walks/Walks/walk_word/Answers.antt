use Rattle.std.proofs.Common.{ℕ, ◌<◌, length, get_or, ◌∙◌, arith}
use Rattle.trie.specs.Lent.{word_of}
use Rattle.trie.proofs.Laws.WordInPlace.{either-length, either-byte}
use Rattle.trie.proofs.Laws.WalksInPlace.{shifting-none, shifting-on}
use Rattle.trie.proofs.walks.Walks.walk_word.Goals as goal
use Rattle.trie.proofs.walks.Walks.walk_word.Goals.{After-next_met-at}

-- The word's bytes are bytes.
bytes : (c : After-next_met-at) → (j : ℕ) → j < length (word_of c.args.word) → get_or (word_of c.args.word) j 0 < 256
bytes c j h = either-byte c.args.word.reversed c.args.word.body.now 256 j c.requires.bytes (omega (arith, either-length c.args.word.reversed c.args.word.body.now))

pub returns-then-at-self : goal.returns-then-at-self
returns-then-at-self c =
    let long = either-length c.args.word.reversed c.args.word.body.now in
    shifting-none c.loop-s.invariant.0 (omega arith) (bytes (goal.at.returns-then-at-self c).After-next_met-at) _ c.next_met-at.ensures c.if-at-self.true

pub loop-s-preserved : goal.loop-s-preserved
loop-s-preserved c =
    let long = either-length c.args.word.reversed c.args.word.body.now in
    let below : c.next_met-at.result < c.args.self.now.shortest = omega (arith, c.next_met-at.ensures.upto, c.if-at-self.false) in
    let w = c.walk_at in (
      shifting-on c.loop-s.invariant.0 (omega arith) (bytes (goal.at.loop-s-preserved c).After-next_met-at) _ c.next_met-at.ensures below _ _ w.ensures w.auto.met w.auto.whole,
      w.auto.met ∙ c.loop-s.invariant.1,
      w.auto.whole ∙ c.loop-s.invariant.2,
    )
