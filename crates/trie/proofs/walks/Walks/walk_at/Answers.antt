use Rattle.std.proofs.Common.{◌≡◌, ℕ, ◌-◌, ◌<◌, List, reverse, length, get_or, take, refl, sym, ◌∙◌, arith}
use Rattle.rules.specs.Tokens.{shortened}
use Rattle.trie.specs.Filling.{lows, lowered, walked_at}
use Rattle.trie.specs.Lent.{word_of, child_in}
use Rattle.trie.proofs.Laws.WordInPlace.{either-length}
use Rattle.trie.proofs.Laws.FillingInPlace.{head_read, walk-head, walk_first, walk-done, walk-stops, walk-on}
use Rattle.trie.proofs.walks.Walks.walk_at.Goals as goal
use Rattle.trie.proofs.walks.Walks.walk_at.Goals.{After-from-node, After-from_end-in-loop-left}

-- The first node, by the last byte that is left: it is there and below the count, and the walk from the root on is the one from it on.
module _ (c : After-from-node) where
  long : length (word_of c.args.word) ≡ length c.args.word.body.now
  long = either-length c.args.word.reversed c.args.word.body.now

  first : c.from.result ≡ get_or (word_of c.args.word) (length c.args.word.body.now - 1 - c.args.s) 0
  first = c.from.ensures ∙ c.from_end.ensures

  there : c.from-node.result ≡ 0 → ⊥
  there e = c.requires.head.2 (sym (head_read c.args.self.now.kids c.args.word.reversed c.args.word.body.now c.args.s c.from.result first) ∙ sym c.from-node.ensures ∙ e)

  first-below : c.from-node.result < c.args.self.now.count
  first-below =
      walk-head c.requires.walks (word_of c.args.word) c.args.s (length c.args.word.body.now - 1 - c.args.s) (omega (arith, long, c.requires.head.0)) (omega (arith, long)) c.from.result first (omega arith) c.from-node.result c.from-node.ensures there

  first-walk : (met : List ℕ) → met ≡ lowered c.args.met.now c.from-node.result c.args.s
      → walked_at (child_in c.args.self.now) c.args.s (reverse (take (length c.args.word.body.now - 1 - c.args.s) (word_of c.args.word))) c.from-node.result (lows met c.args.whole.now)
      ≡ walked_at (child_in c.args.self.now) c.args.s (reverse (shortened (word_of c.args.word) c.args.s)) 0 (lows c.args.met.now c.args.whole.now)
  first-walk =
      walk_first c.requires.walks (word_of c.args.word) c.args.s (length c.args.word.body.now - 1 - c.args.s) (omega (arith, long, c.requires.head.0)) (omega (arith, long)) c.from.result first (omega arith) c.from-node.result c.from-node.ensures there

-- The next byte is the last of those that are left.
next : (c : After-from_end-in-loop-left) → c.from_end-in-loop-left.result ≡ get_or (word_of c.args.word) (c.loop-left.left - 1) 0
next c =
    let long : length (word_of c.args.word) ≡ length c.args.word.body.now = either-length c.args.word.reversed c.args.word.body.now in
    let e : length c.args.word.body.now - 1 - (length c.args.word.body.now - 1 - (c.loop-left.left - 1)) ≡ c.loop-left.left - 1 = omega (arith, long, c.loop-left.invariant.0.within) in
    rw e at c.from_end-in-loop-left.ensures

pub lower-requires : goal.lower-requires
lower-requires c = (omega (arith, first-below (goal.at.lower-requires c).After-from-node, c.requires.walks.mets), c.requires.head.1)

pub loop-left-init : goal.loop-left-init
loop-left-init c = (
  record {
    held = first-below (goal.at.loop-left-init c).After-from-node;
    within = omega (arith, long (goal.at.loop-left-init c).After-from-node);
    rest = refl;
  },
  refl,
)

pub returns-in-None : goal.returns-in-None
returns-in-None c =
    walk-stops c.requires.walks c.loop-left.invariant.0 (λ e. omega arith) _ (next (goal.at.returns-in-None c).After-from_end-in-loop-left) _ c.child.ensures c.in-None.is
    ∙ first-walk (goal.at.returns-in-None c).After-from-node _ c.lower.ensures

pub loop-left-preserved : goal.loop-left-preserved
loop-left-preserved c = let i = c.loop-left.invariant in (
  walk-on c.requires.walks i.0 (λ e. omega arith) _ (next (goal.at.loop-left-preserved c).After-from_end-in-loop-left) _ c.child.ensures c.in-Some.v c.in-Some.is _ c.lower-in-Some.ensures,
  c.lower-in-Some.auto.table ∙ i.1,
)

pub returns : goal.returns
returns c =
    walk-done c.requires.walks c.loop-left.invariant.0 (omega arith) _ c.lower-2.ensures
    ∙ first-walk (goal.at.returns c).After-from-node _ c.lower.ensures
