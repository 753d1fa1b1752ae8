-- `loose` meets its contract: the n places counted up to `from`, and the stretches left.
use Prim.Native.Nat.{◌+◌, ◌≤◌}
use mathlib.Core.Path.{◌≡◌}
use mathlib.Core.List.{map}
use Rattle.rules.specs.Lists.{All}
use Rattle.rules.specs.Stretches.{Lies, loose}
use Rattle.image.specs.Spans.{placed}
use Rattle.image.proofs.Laws.Spans.{rest_from}
use Rattle.image.proofs.spans.Spans.loose.Given as goal

abbrev pub invariant-loop-s : goal.invariant-loop-s
invariant-loop-s l =
    let left = rest_from l.s-items l.s-index in record {
      counted : l.n + l.q ≤ l.from;
      inside : l.from ≤ l.b;
      each : All (Lies l.b) left;
      rest : l.n + loose l.b l.from left ≡ loose l.b l.q (map placed l.s-items);
    }
