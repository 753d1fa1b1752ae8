-- What a pen has written, and what waits in its buffer.
use Rattle.std.specs.Prelude.{ℕ, List, Option}
use Rattle.std.specs.Io.KnownBytes.{append_known}
use Rattle.sweep.specs.declared.pen.Pen.{Pen}
use Rattle.sweep.specs.Lines.{waits}

-- The bytes that its writer holds, where they are known, and those that wait behind them.
abbrev pub told : {W : Type 0} → (W → Option (List ℕ)) → Pen W → Option (List ℕ)
told contents pen = append_known (contents pen.to) (waits pen.buffer)
