-- The bytes of the program's lines, and how they wait in its buffer.
use Rattle.std.specs.Prelude.{ℕ, ◌+◌, List, take, get_or, flat_map}
pub use Rattle.listing.specs.Lines.{ascii, decimal_by, decimal, line, end_line, longest_line, waiting}
use Rattle.listing.specs.Lines.{image_line, hit_line, refused_line}
use Rattle.sweep.specs.declared.lines.Line.{Line}
use Rattle.sweep.specs.declared.lines.Line.TheVariants.{Image, Hit, End, Refused}
use Rattle.sweep.specs.declared.lines.Buffer.{Buffer}
use Rattle.sweep.specs.declared.hits.Hits.{Hits}

-- The bytes of each of the four lines.
abbrev pub line_bytes : Line → List ℕ
line_bytes (Image n tokens) = image_line n tokens
line_bytes (Hit at token) = hit_line at token
line_bytes (End found) = end_line found.hits found.fetched found.spared
line_bytes (Refused why) = refused_line why.number why.value

-- The lines of these entries of the hit buffers, one after another, each end moved by `from`.
abbrev pub hit_lines : Hits → ℕ → List ℕ → List ℕ
hit_lines hits from entries = flat_map (λ i. hit_line (from + get_or hits.ends i 0) (get_or hits.tokens i 0)) entries

-- The bytes that wait in the buffer.
abbrev pub waits : Buffer → List ℕ
waits b = take b.used b.bytes
