-- `sweep::pen::Pen::hits` has told the lines of the hits so far.
use Rattle.std.specs.Prelude.{◌-◌, ◌≤◌}
use Rattle.std.specs.List.{range_with_len}
use Rattle.std.specs.Io.KnownBytes.{Appends}
use Rattle.sweep.specs.Lines.{hit_lines}
use Rattle.sweep.specs.Told.{told}
use Rattle.sweep.proofs.pen.Pen.hits.Given as goal

abbrev pub invariant-loop-i : goal.invariant-loop-i
invariant-loop-i g l =
    (l.i - l.part.before ≤ l.part.hits - l.part.before)
    × Appends (told g.W.Write.contents l.initial.self) (told g.W.Write.contents l.self) (hit_lines l.hits l.part.from (range_with_len l.part.before (l.i - l.part.before)))
