-- `spell_run` meets its contract: each turn writes the labels of two nodes, each the parent of the one after it.
use Rattle.trie.specs.Lent.{tables_of}
use Rattle.scan.specs.Ways.{Climbs, Along}
use Rattle.scan.proofs.spell.spell_run.Given as goal

abbrev pub invariant-loop-at : goal.invariant-loop-at
invariant-loop-at l = let t = tables_of l.tables in Climbs t l.node × Along t l.node l.n l.initial.into l.at l.to l.into

abbrev pub decreases-loop-at : goal.decreases-loop-at
decreases-loop-at l = l.at
