-- Starting a sweep by single bytes (refusal 8).
use Rattle.std.specs.Prelude.{ℕ, true, false, []}
use Rattle.book.specs.Book.{Verdict, accepted, refused, max_image, too_long}
use Rattle.scan.specs.declared.Scan.{Scan}
use Rattle.scan.specs.State.{max_stretches, laid}

-- b is S, the node the root, all else 0.
abbrev pub started : ℕ → ℕ → ℕ → Scan
started n shortest count = record {
  image = n;
  shortest = shortest;
  count = count;
  boundary = shortest;
  node = 0;
  depth = 0;
  due = false;
  stretches = laid max_stretches [];
  supplied = 0;
  spared = 0;
  end = 0;
  hit = 0;
}

-- Starting takes N, S and the number of nodes, and tests N alone (8).
abbrev pub start : ℕ → ℕ → ℕ → Verdict Scan
start n shortest count = elim (too_long n) [ true ↦ refused 8 max_image | false ↦ accepted (started n shortest count) ]

-- The state that is handed back: of zeros where starting is refused, so that a step from it meets 10.
abbrev pub state_of : Verdict Scan → Scan
state_of (accepted s) = s
state_of (refused k v) = started 0 0 0
