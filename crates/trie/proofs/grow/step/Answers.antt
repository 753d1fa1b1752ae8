use Rattle.std.proofs.Common.{◌≡◌, arith, ap, sym, ◌∙◌, get_or}
use Rattle.trie.specs.Lent.{written_of}
use Rattle.trie.specs.Chain.{walked}
use Rattle.trie.proofs.Laws.InPlace.{step-found, step-ends}
use Rattle.trie.proofs.grow.step.Goals as goal
use Rattle.trie.proofs.grow.step.Goals.{After-walk}

-- `step` meets its contract: the walk finds the child, or the last one that a new child comes behind.
-- What is read is what has been written so far.
headed : (c : After-walk) → let a = c.args in c.entry.result ≡ get_or (written_of a.tables.now).first a.from.node 0
headed c = c.entry.ensures.0 ∙ ap (λ t. get_or t.first c.args.from.node 0) c.shared-so_far.ensures

walks : (c : After-walk) → let a = c.args in
    let t = written_of a.tables.now in
    c.walk.result ≡ walked t.label t.next a.byte a.from.count 0 c.entry.result
walks c = let a = c.args in c.walk.ensures ∙ ap (λ t. walked t.label t.next a.byte a.from.count 0 c.entry.result) c.shared-so_far.ensures

pub put_child-requires : goal.put_child-requires
put_child-requires c =
    let r = c.requires in
    let w = (goal.at.put_child-requires c).After-walk in
    let ends = step-ends _ _ _ _ r _ _ (headed w) (sym c.in-Err.is ∙ walks w) in
    (r.room, omega (arith, r.small), r.inside, ends.0)

pub returns-in-Ok-clause-placed : goal.returns-in-Ok-clause-placed
returns-in-Ok-clause-placed c = let w = (goal.at.returns-in-Ok-clause-placed c).After-walk in
    step-found _ _ _ _ c.requires _ _ (headed w) (sym c.in-Ok.is ∙ walks w)

pub returns-in-Err-clause-placed : goal.returns-in-Err-clause-placed
returns-in-Err-clause-placed c =
    let w = (goal.at.returns-in-Err-clause-placed c).After-walk in
    let ends = step-ends _ _ _ _ c.requires _ _ (headed w) (sym c.in-Err.is ∙ walks w) in
    rw c.put_child.ensures.put ends.1
