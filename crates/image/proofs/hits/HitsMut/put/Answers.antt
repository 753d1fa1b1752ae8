-- `put` meets its contract.
use native.Mathlib.Omega.{arith}
use Rattle.image.proofs.Laws.Notes.{note-in, note-out}
use Rattle.image.proofs.hits.HitsMut.put.Goals as goal

pub returns-then-i-self-2-clause-noted : goal.returns-then-i-self-2-clause-noted
returns-then-i-self-2-clause-noted c = (note-in _ _ _ _ (omega arith), rw c.from.ensures (note-in _ _ _ _ (omega arith)))

pub returns-else-i-self-clause-noted : goal.returns-else-i-self-clause-noted
returns-else-i-self-clause-noted c = (note-out _ _ _ _ (omega arith), note-out _ _ _ _ (omega arith))
