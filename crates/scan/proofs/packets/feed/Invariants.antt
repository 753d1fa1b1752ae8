-- `feed` meets its contract. The loop's invariant is `Feeding`: feeding the others from here on is feeding them all.
use mathlib.Core.Path.{◌≡◌}
use Rattle.trie.specs.Lent.{tables_of}
use Rattle.scan.proofs.Laws.Packets.{Feeding}
use Rattle.scan.proofs.packets.feed.Given as goal

abbrev pub invariant-loop-byte : goal.invariant-loop-byte
invariant-loop-byte l = Feeding (tables_of l.tables) l.initial.step.state l.bytes l.last l.step l.used × (l.used ≡ l.byte-index)
