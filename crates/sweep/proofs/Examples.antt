-- Samples of what comes after a read, and of each line's bytes.
use Rattle.std.specs.Prelude.{◌≡◌, refl, true, false, [], ◌∷◌, Ok, Err}
use Rattle.std.specs.List.{range_with_len}
use Rattle.std.specs.declared.ops.ControlFlow.TheVariants.{Continue, Break}
use Rattle.sweep.specs.declared.lines.Line.TheVariants.{Image, Hit, End, Refused}
use Rattle.sweep.specs.Lines.{ascii, line_bytes, hit_lines}
use Rattle.sweep.specs.Program.{after_read}

-- The four lines.
image-line : line_bytes (Image 8 1) ≡ ascii "image 8 tokens 1\n"
image-line = refl

hit-line : line_bytes (Hit 8 1) ≡ ascii "hit 8 1\n"
hit-line = refl

end_line_lem : line_bytes (End (record { hits = 1; fetched = 7; spared = 0 })) ≡ ascii "end 1 7 0\n"
end_line_lem = refl

refused-line : line_bytes (Refused (record { number = 8; value = 65536 })) ≡ ascii "refused 8 65536\n"
refused-line = refl

-- Of three hits the last two, their ends moved by 10.
hit_lines_lem : hit_lines (record { ends = 3 ∷ 5 ∷ 8 ∷ []; tokens = 1 ∷ 2 ∷ 1 ∷ [] }) 10 (range_with_len 1 2) ≡ ascii "hit 15 2\nhit 18 1\n"
hit_lines_lem = refl

-- A folder's first read, which fails, is its end, and all others that fail are failures.
folder-empty : {E : Type 0} (e : E) → after_read (Err e) 0 true ≡ Break (Ok 0)
folder-empty e = refl

folder-late : {E : Type 0} (e : E) → after_read (Err e) 3 true ≡ Break (Err e)
folder-late e = refl

read-failed : {E : Type 0} (e : E) → after_read (Err e) 0 false ≡ Break (Err e)
read-failed e = refl

failed-late : {E : Type 0} (e : E) → after_read (Err e) 3 false ≡ Break (Err e)
failed-late e = refl

-- A read of no byte is the file's end, and one of a byte is not.
file-empty : {E : Type 0} → after_read {E = E} (Ok 0) 0 false ≡ Break (Ok 0)
file-empty = refl

file-ends : {E : Type 0} → after_read {E = E} (Ok 0) 3 false ≡ Break (Ok 3)
file-ends = refl

byte-read : {E : Type 0} → after_read {E = E} (Ok 1) 3 false ≡ Continue 1
byte-read = refl
