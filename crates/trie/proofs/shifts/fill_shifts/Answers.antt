use Rattle.std.proofs.Common.{[], refl, arith}
use lib.ListN.{length-replicate}
use Rattle.trie.specs.Answers.{tree_only}
use Rattle.trie.proofs.Laws.Shifts.{shortest-near, nodes-within, parents-fall, shifts-walk, shifts-filled}
use Rattle.trie.proofs.shifts.fill_shifts.Goals as goal

-- `fill_shifts` meets its contract: the walks of all words, and handing down, from entries S and the root's 1.
pub overflow_cast-whole : goal.overflow_cast-whole
overflow_cast-whole c = omega (arith, shortest-near c.requires)

pub begin-requires : goal.begin-requires
begin-requires c = let g = c.requires in ((nodes-within g).0, g.room, omega (arith, shortest-near g))

pub walk_book-requires : goal.walk_book-requires
walk_book-requires c =
    let a = c.args in
    let g = c.requires in
    record {
      walks = shifts-walk g (tree_only a.parent.now a.label.now [] a.first.now a.next.now) refl refl refl _ _ _ c.root_children.ensures (omega (arith, g.room, c.begin.auto.shift)) (rw length-replicate (nodes-within g).1);
      book = g.given;
    }

pub hand_down-requires : goal.hand_down-requires
hand_down-requires c =
    let g = c.requires in
    let n = nodes-within g in
    record {
      size = (n.0, n.2, omega (arith, g.room, c.walk_book.auto.met, c.begin.auto.shift), omega (arith, n.1, c.walk_book.auto.whole));
      falls = parents-fall g;
    }

pub returns-clause-filled : goal.returns-clause-filled
returns-clause-filled c = let a = c.args in
    shifts-filled c.requires (tree_only a.parent.now a.label.now [] a.first.now a.next.now) refl refl refl _ c.begin.ensures _ c.walk_book.ensures _ c.hand_down.ensures
