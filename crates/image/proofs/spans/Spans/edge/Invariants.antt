-- `edge` meets its contract: the edge so far, and what the stretches left would make of it.
use mathlib.Core.List.{map}
use Rattle.rules.proofs.Laws.Remember.{Edge}
use Rattle.image.specs.Spans.{placed}
use Rattle.image.proofs.Laws.Spans.{rest_from}
use Rattle.image.proofs.spans.Spans.edge.Given as goal

abbrev pub invariant-loop-s : goal.invariant-loop-s
invariant-loop-s l = Edge l.from (map placed l.s-items) l.far (rest_from l.s-items l.s-index)
