-- Answers as numbers: refusal 0 means none, with value 0; on a refusal the numbers after its value are 0.
use Rattle.std.specs.Prelude.{ℕ}
use Rattle.book.specs.Book.{Verdict, accepted, refused}
use Rattle.tables.specs.Tables.{Sizes}
use Rattle.gateway.specs.declared.Built.{Built}
use Rattle.gateway.specs.declared.Swept.{Swept}

abbrev pub built_of : Verdict Sizes → Built
built_of (accepted s) = record { refusal = 0; value = 0; nodes = s.nodes; shortest = s.shortest; longest = s.longest }
built_of (refused k v) = record { refusal = k; value = v; nodes = 0; shortest = 0; longest = 0 }

-- also after 12: the number of all hits is then the value
abbrev pub swept_of : Verdict ℕ → ℕ → ℕ → Swept
swept_of (accepted hits) fetched spared = record { refusal = 0; value = 0; hits = hits; fetched = fetched; spared = spared }
swept_of (refused k v) fetched spared = record { refusal = k; value = v; hits = 0; fetched = 0; spared = 0 }
