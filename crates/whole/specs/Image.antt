-- The sweep of a whole image at hand: refusals 1 to 8 and 12, the hits, and the numbers of bytes fetched and taken from stretches, by the
-- rules over the tokens.
use Rattle.std.specs.Prelude.{ℕ, ◌+◌, min, true, false, List, map, ltb, length, take}
use Rattle.rules.specs.Tokens.{body_bytes}
use Rattle.rules.specs.Lists.{over}
pub use Rattle.rules.specs.Sweep.{hits_of, fetches_of, spares_of}
use Rattle.book.specs.Book.{Verdict, accepted, refused, max_image, too_long, read_book}
use Rattle.tables.specs.Tables.{Tables, built, written, too_short}

-- What the sweep answers, the number of hits or a refusal; how many bytes it fetched and took from stretches, none where nothing is swept;
-- and what the lent tables and hit buffers then hold.
pub record Swept : Type 0 where
  pub answer : Verdict ℕ
  pub fetched : ℕ
  pub spared : ℕ
  pub tables : Tables
  pub ends : List ℕ
  pub tokens : List ℕ

-- What the hit buffers hold: as many hits as the shorter one has entries.
abbrev pub room : List ℕ → List ℕ → ℕ
room ends tokens = min (length ends) (length tokens)

-- Refusal 12: there are more hits than the shorter buffer holds.
abbrev pub counted : ℕ → ℕ → Verdict ℕ
counted room all = elim (ltb room all) [ true ↦ refused 12 all | false ↦ accepted all ]

-- The hits' ends, or their token numbers, from a buffer's front on; what follows them stays.
abbrev pub noted : (ℕ × ℕ → ℕ) → ℕ → List (ℕ × ℕ) → List ℕ → List ℕ
noted part room found buffer = over (map part (take room found)) buffer

-- 1 to 6, 7, 8: nothing is touched. Then the tables are built, and the buffers hold the hits, also after 12.
abbrev pub sweep_image : List ℕ → List ℕ → Tables → List ℕ → List ℕ → Swept
sweep_image book image t ends numbers =
    elim (read_book book) [
      | refused k v ↦ record { answer = refused k v; fetched = 0; spared = 0; tables = t; ends = ends; tokens = numbers }
      | accepted tokens ↦ elim (too_short t tokens) [
        | true ↦ record { answer = refused 7 (1 + body_bytes tokens); fetched = 0; spared = 0; tables = t; ends = ends; tokens = numbers }
        | false ↦ elim (too_long (length image)) [
          | true ↦ record { answer = refused 8 max_image; fetched = 0; spared = 0; tables = t; ends = ends; tokens = numbers }
          | false ↦ (let found = hits_of tokens image in
              let r = room ends numbers in
              record {
                answer = counted r (length found);
                fetched = fetches_of tokens image;
                spared = spares_of tokens image;
                tables = written (built tokens) t;
                ends = noted (λ h. h.0) r found ends;
                tokens = noted (λ h. h.1) r found numbers;
              })
        ]
      ]
    ]
