-- Supplying a packet: a run of bytes for the wanted place, the one below it, and so on (refusal 15).
use Rattle.std.specs.Prelude.{ℕ, suc, ◌-◌, Bool, true, false, List, [], ◌∷◌, ltb, eqb, length}
use Rattle.std.proofs.Math.Option.{some, none}
use Rattle.rules.specs.Rules.{place}
use Rattle.tables.specs.Tables.{Tables}
use Rattle.scan.specs.declared.Scan.{Scan}
use Rattle.scan.specs.State.{config_of}
use Rattle.scan.specs.Calls.{Answer, fetch, found, over, refused, Stepped, judged, supply}

-- The next state and the answer, and how many bytes were used.
pub record Delivered : Type 0 where
  pub step : Stepped
  pub used : ℕ

-- The answer is to fetch the place just below `last`.
abbrev pub is_below : ℕ → Answer → Bool
is_below last (fetch p) = eqb (suc p) last
is_below last (found e i) = false
is_below last over = false
is_below last (refused k v) = false

-- no byte of a packet is used; and one more is
abbrev pub none_used : Stepped → Delivered
none_used r = record { step = r; used = 0 }

abbrev pub one_more : Delivered → Delivered
one_more d = record { step = d.step; used = suc d.used }

-- The bytes are supplied singly: from the answer so far on, the next one is used if that is to fetch the place just below `last`, the
-- place of the last used one.
abbrev pub feed : Tables → ℕ → Stepped → List ℕ → Delivered
feed t last r [] = none_used r
feed t last r (x ∷ xs) =
    elim (is_below last r.answer) [ true ↦ one_more (feed t (last - 1) (supply t r.state x) xs) | false ↦ none_used r ]

-- the longest packet
abbrev pub max_packet : ℕ
max_packet = 64

-- Refusal 15: more than 64 bytes.
abbrev pub overlong : List ℕ → Bool
overlong xs = ltb max_packet (length xs)

-- The bytes of a packet where one is due. Before the first the answer is to fetch its place, so it is used; an empty packet is answered
-- that place.
abbrev pub feed_due : Tables → Scan → List ℕ → Delivered
feed_due t s xs = let p = place (config_of s) in feed t (suc p) (record { state = s; answer = fetch p }) xs

-- Supplying a packet: 15, then a step's refusals, 9, 10 and 11.
abbrev pub supply_packet : Tables → Scan → List ℕ → Delivered
supply_packet t s xs =
    elim (overlong xs) [
      | true ↦ none_used (record { state = s; answer = refused 15 0 })
      | false ↦ elim (judged t s true) [
        | some a ↦ none_used (record { state = s; answer = a })
        | none ↦ feed_due t s xs
      ]
    ]

-- The bytes are supplied singly, all of them.
abbrev pub singly : Tables → Stepped → List ℕ → Stepped
singly t r [] = r
singly t r (x ∷ xs) = singly t (supply t r.state x) xs
