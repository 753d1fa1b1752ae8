-- `spell` meets its contract: each turn writes the labels of a run, and goes to the parent of its last node.
use Rattle.trie.specs.Lent.{tables_of}
use Rattle.scan.specs.Ways.{Climbs}
use Rattle.scan.proofs.Laws.Spell.{Spelling}
use Rattle.scan.proofs.spell.spell.Given as goal

abbrev pub invariant-loop-at : goal.invariant-loop-at
invariant-loop-at l = let t = tables_of l.tables in (s : Climbs t l.node) × Spelling t s.count l.node l.initial.into l.into l.at l.n

abbrev pub decreases-loop-at : goal.decreases-loop-at
decreases-loop-at l = l.at
