-- Stretches that are laid into slots and read again are the same.
use Rattle.std.specs.Prelude.{ℕ, zero, suc, ◌≤◌, ◌<◌, ◌≡◌, refl, Bool, true, false, ◌&&◌, not, List, [], ◌∷◌, eqb, length}
use Rattle.std.proofs.Common.{arith, ap, ◌∙◌, eq-eqb, eqb-true, ne_eqb}
use Rattle.rules.specs.Rules.{Stretch}
use Rattle.rules.specs.Lists.{All}
use Rattle.rules.proofs.Laws.Tests.{passed}
use Rattle.scan.specs.declared.Scan.{Scan}
use Rattle.scan.specs.declared.Stretch.{Stretch as Slot}
use Rattle.scan.specs.State.{slot_of, in_use, used, laid, max_stretches, same_slots, slots_ok}

pub laid-length : (k : ℕ) (ms : List (Stretch ℕ)) → length (laid k ms) ≡ k
laid-length zero ms = refl
laid-length (suc k) [] = cc (laid-length k [])
laid-length (suc k) (m ∷ ms) = cc (laid-length k ms)

-- not all zeros
abbrev pub Real : Stretch ℕ → Type 0
Real m = in_use (slot_of m) ≡ true

pub right-real : (m : Stretch ℕ) → 0 < m.right → Real m
right-real m h = rw (ne_eqb m.right 0 (λ e. omega arith)) (go (eqb m.left 0))
  where
    go : (a : Bool) → not (a && false && eqb m.node 0) ≡ true
    go true = refl
    go false = refl

pub used-laid : (k : ℕ) (ms : List (Stretch ℕ)) → All Real ms → length ms ≤ k → used (laid k ms) ≡ ms
used-laid zero [] h l = refl
used-laid zero (m ∷ ms) h l = absurd (omega arith)
used-laid (suc k) [] h l = refl
used-laid (suc k) (m ∷ ms) h l = cc (h.0, used-laid k ms h.1 (omega arith))

pub same-slots : (ps : List Slot) → same_slots ps ps ≡ true
same-slots [] = refl
same-slots (p ∷ ps) =
    cc (eq-eqb p.left p.left refl, eq-eqb p.right p.right refl, eq-eqb p.node p.node refl, same-slots ps)

abbrev stored : ℕ → ℕ → ℕ → Slot
stored l r n = record { left = l; right = r; node = n }

-- Slots that pass the test are the same.
pub slots_same : (ps qs : List Slot) → same_slots ps qs ≡ true → ps ≡ qs
slots_same [] [] h = refl
slots_same [] (q ∷ qs) h = cc
slots_same (p ∷ ps) [] h = cc
slots_same (p ∷ ps) (q ∷ qs) h =
    let t = passed (eqb p.left q.left ∷ eqb p.right q.right ∷ eqb p.node q.node ∷ same_slots ps qs ∷ []) h in
    let l = eqb-true p.left q.left (t 0) in
    let r = eqb-true p.right q.right (t 1) in
    let n = eqb-true p.node q.node (t 2) in
    let here : stored p.left p.right p.node ≡ stored q.left q.right q.node = cc in
    cc (slots_same ps qs (t 3))

-- The slots of a state are five, and hold what is in use.
module _ (s : Scan) (h : slots_ok s ≡ true) where
  pub slots-laid : s.stretches ≡ laid max_stretches (used s.stretches)
  slots-laid = slots_same s.stretches (laid max_stretches (used s.stretches)) h

  pub slots-five : length s.stretches ≡ max_stretches
  slots-five = ap length slots-laid ∙ laid-length max_stretches (used s.stretches)
