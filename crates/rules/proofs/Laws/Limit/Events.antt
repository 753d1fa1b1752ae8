-- What is said of the events: how many fetches there are at each moment, and so in all.
use Rattle.std.specs.Prelude.{ℕ, suc, ◌+◌, ◌≤◌, List, [], ◌∷◌, length}
use Rattle.std.proofs.Common.{arith}
use Rattle.rules.specs.Rules.{Event, fetched, recalled, hit, shifted, done}
use Rattle.rules.specs.Sweep.{places}

module _ {E : Type 0} where
  -- The boundary, and the number of fetches, after an event.
  abbrev pub edge : ℕ → Event E → ℕ
  edge b (fetched at) = b
  edge b (recalled at) = b
  edge b (hit e t) = b
  edge b (shifted b' ss) = b'
  edge b done = b

  abbrev pub more : ℕ → Event E → ℕ
  more c (fetched at) = suc c
  more c (recalled at) = c
  more c (hit e t) = c
  more c (shifted b ss) = c
  more c done = c

  -- `P` holds of the boundary and the number of fetches at each moment.
  abbrev pub Always : (ℕ → ℕ → Type 0) → ℕ → ℕ → List (Event E) → Type 0
  Always P b c [] = P b c
  Always P b c (e ∷ es) = P b c × Always P (edge b e) (more c e) es

  pub always-map : (P Q : ℕ → ℕ → Type 0) → ((b c : ℕ) → P b c → Q b c) → (b c : ℕ) (es : List (Event E)) → Always P b c es → Always Q b c es
  always-map P Q f b c [] h = f b c h
  always-map P Q f b c (e ∷ es) h = (f b c h.0, always-map P Q f (edge b e) (more c e) es h.1)

  -- The fetches in all are those at the last moment.
  pub always-last : (most b c : ℕ) (es : List (Event E)) → Always (λ b c. c ≤ most) b c es → c + length (places es) ≤ most
  always-last most b c [] h = omega arith
  always-last most b c (fetched at ∷ es) h = omega (arith, always-last most b (suc c) es h.1)
  always-last most b c (recalled at ∷ es) h = always-last most b c es h.1
  always-last most b c (hit e t ∷ es) h = always-last most b c es h.1
  always-last most b c (shifted b' ss ∷ es) h = always-last most b' c es h.1
  always-last most b c (done ∷ es) h = always-last most b c es h.1
