-- Answers as a kind and four numbers. Kind 0 is a refusal, with its number and value; the others are given with each call. Numbers
-- that there are not are 0. Different answers to a call have different numbers, but for the two cases of 5 in a merge.
use Prim.{Unit}
use Rattle.std.specs.Prelude.{ℕ, Bool, true, false, Result, Ok, Err, List, [], ◌∷◌}
use Rattle.std.proofs.Math.Option.{Option, some, none}
use Rattle.book.specs.Book.{Verdict, accepted, refused, Totals, Place, found, missing, unread}
use Rattle.fitting.specs.Fitting.{Fit, fits, differs, cut_off}
use Rattle.merge.specs.Merge.{verdict, Merging}
use Rattle.tables.specs.Tables.{Tables, Sizes, Building}
use Rattle.scan.specs.declared.Scan.{Scan}
use Rattle.scan.specs.Calls.{Answer, fetch, found as hit, over, refused as denied}
use Rattle.probe.specs.declared.Told.{Told}

abbrev pub told : ℕ → ℕ → ℕ → ℕ → ℕ → Told
told kind a b c d = record { kind = kind; numbers = a ∷ b ∷ c ∷ d ∷ [] }

abbrev pub refusal : ℕ → ℕ → Told
refusal number value = told 0 number value 0 0

-- Reading: 1, the number of tokens, all body bytes, S and D.
abbrev pub reading_of : Verdict Totals → Told
reading_of (accepted t) = told 1 t.tokens t.bodies t.shortest t.longest
reading_of (refused k v) = refusal k v

-- A token: 1, place and length of its body; 2, it is not in the book.
abbrev pub place_of : Place → Told
place_of (found at size) = told 1 at size 0 0
place_of missing = told 2 0 0 0 0
place_of (unread k v) = refusal k v

-- Whether a book has a body: 1, it has; 2, it has not.
abbrev pub contains_of : Bool → Told
contains_of true = told 1 0 0 0 0
contains_of false = told 2 0 0 0 0

-- Where a token stops fitting: 1, it fits; 2, the place; 3, it is cut off.
abbrev pub fit_told : Verdict Fit → Told
fit_told (accepted fits) = told 1 0 0 0 0
fit_told (accepted (differs place)) = told 2 place 0 0 0
fit_told (accepted cut_off) = told 3 0 0 0 0
fit_told (refused k v) = refusal k v

-- Merging: 1, the length written; and the lent output.
abbrev pub length_told : Verdict ℕ → Told
length_told (accepted n) = told 1 n 0 0 0
length_told (refused k v) = refusal k v

pub record Merged : Type 0 where
  pub told : Told
  pub out : List ℕ

abbrev pub merging_of : Merging → Merged
merging_of m = record { told = length_told (verdict m.answer); out = m.out }

-- Building: 1, the number of nodes, S and D; and the lent tables.
abbrev pub sizes_told : Verdict Sizes → Told
sizes_told (accepted s) = told 1 s.nodes s.shortest s.longest 0
sizes_told (refused k v) = refusal k v

pub record Built : Type 0 where
  pub told : Told
  pub tables : Tables

abbrev pub building_of : Building → Built
building_of b = record { told = sizes_told b.answer; tables = b.tables }

-- The test of tables: 1, they are a tree; or refusal 9.
abbrev pub tested_of : Verdict Unit → Told
tested_of (accepted u) = told 1 0 0 0 0
tested_of (refused k v) = refusal k v

-- A child: 1, its node; 2, there is none.
abbrev pub child_of : Option ℕ → Told
child_of (some v) = told 1 v 0 0 0
child_of none = told 2 0 0 0 0

-- A walk along a chain: 1, the node with the label; 2, the chain's last node.
abbrev pub way_of : Result ℕ ℕ → Told
way_of (Ok v) = told 1 v 0 0 0
way_of (Err v) = told 2 v 0 0 0

-- Starting: 1. The state is lent besides.
abbrev pub opening_of : Verdict Scan → Told
opening_of (accepted s) = told 1 0 0 0 0
opening_of (refused k v) = refusal k v

-- A step: 1, the place to fetch; 2, a hit's end and token; 3, done; and, last, how many bytes of a packet were used.
abbrev pub step_of : Answer → ℕ → Told
step_of (fetch place) used = told 1 place 0 0 used
step_of (hit end token) used = told 2 end token 0 used
step_of over used = told 3 0 0 0 used
step_of (denied k v) used = told 0 k v 0 used
