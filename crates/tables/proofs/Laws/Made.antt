-- What building gives when it is not refused: the tokens' tables with what was behind them, the number of nodes, S and D.
use Rattle.std.specs.Prelude.{ℕ, ◌+◌, ◌≡◌, refl, true, false, List, length, drop}
use Rattle.std.proofs.Common.{arith}
use Rattle.rules.specs.Tokens.{body_bytes}
use Rattle.rules.proofs.Laws.Tests.{decide}
use Rattle.book.specs.Book.{Reading, accepted, refused, read_book}
use Rattle.tables.specs.Tables.{Tables, built, Lent, written, too_short, Sizes, sizes_of, Building, build}

pub written-lent : (u t : Tables) → Lent (written u t) u
written-lent u t = record {
  parents = (drop (length u.parent) t.parent, refl);
  labels = (drop (length u.label) t.label, refl);
  tokens = (drop (length u.token) t.token, refl);
  firsts = (drop (length u.first) t.first, refl);
  nexts = (drop (length u.next) t.next, refl);
  shifts = (drop (length u.shift) t.shift, refl);
}

-- The answer to a reading.
abbrev pub answer_to : Tables → Reading → Building
answer_to t r = elim r [
  | refused k v ↦ record { answer = refused k v; tables = t }
  | accepted tokens ↦ elim (too_short t tokens) [
    | true ↦ record { answer = refused 7 (1 + body_bytes tokens); tables = t }
    | false ↦ record { answer = accepted (sizes_of tokens); tables = written (built tokens) t }
  ]
]

-- The book is accepted, the lent tables are long enough, and the tables left are the built ones over them.
pub record Made (book : List ℕ) (lent : Tables) (sizes : Sizes) (t : Tables) : Type 0 where
  pub tokens : List (List ℕ)
  pub read : read_book book ≡ accepted tokens
  pub fits : too_short lent tokens ≡ false
  pub sized : sizes ≡ sizes_of tokens
  pub filled : t ≡ written (built tokens) lent

module _ (book : List ℕ) (lent : Tables) (sizes : Sizes) where
  abbrev Gives : Building → Type 0
  Gives b = b.answer ≡ accepted sizes → Made book lent sizes b.tables

  refuses : (k v : ℕ) → Gives (record { answer = refused k v; tables = lent })
  refuses k v e = absurd (let z : ◌≡◌ {A = ℕ} 0 1 = cc in omega arith)

  by-reading : (r : Reading) → read_book book ≡ r → Gives (answer_to lent r)
  by-reading (refused k v) e = refuses k v
  by-reading (accepted tokens) e =
      decide Gives (too_short lent tokens) _ _ (λ _. refuses 7 (1 + body_bytes tokens))
      (λ fits a. record { tokens = tokens; read = e; fits = fits; sized = cc; filled = refl })

  pub build-made : Gives (build book lent)
  build-made = by-reading (read_book book) refl
