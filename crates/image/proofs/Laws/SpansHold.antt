-- The loop that moves the stretches that stay to the front, and the new stretch behind them.
use Prim.Native.Nat.{ℕ, ◌+◌, ◌≤◌, ◌<◌}
use native.Mathlib.Omega.{arith}
use mathlib.Core.Path.{◌≡◌, refl, ap, sym, subst, ◌∙◌}
use mathlib.Core.Bool.{Bool, true, false}
use mathlib.Core.List.{List, [], ◌∷◌, ◌++◌, append-nil, map}
use lib.ListN.{length, get_or, take, drop, set, length-take, length-set, length-append}
use lib.Seq.{get_or-take, take-set-lt, drop-set-lt}
use Rattle.rules.specs.Lists.{select, All}
use Rattle.rules.specs.Rules.{left_over, cut, kept}
use Rattle.rules.specs.Stretches.{Lies, stays, staying}
use Rattle.rules.proofs.Laws.All.{select-append}
use Rattle.rules.proofs.Laws.Remember.{staying-one, Stay, stay-again}
use Rattle.image.specs.declared.spans.Span.{Span}
use Rattle.image.specs.declared.spans.Spans.{Spans}
use Rattle.image.specs.Spans.{Places, placed, in_use, renewed}
use Rattle.image.proofs.Laws.Spans.{rest_from, more, counts, one_more_lem}

-- Of `all` those that stay were moved to the front up to i, where there are n, and the stretches from i on are left.
pub record Holding (all : List Places) (from next used : ℕ) (slots : List Span) (n i : ℕ) : Type 0 where
  pub few : n ≤ i
  pub size : used ≤ length slots
  pub each : All (Lies next) (rest_from (take used slots) i)
  pub stay : Stay from next all (map placed (take n slots)) (rest_from (take used slots) i)

module _ {all : List Places} {from next used : ℕ} {slots : List Span} {n i : ℕ} (c : Holding all from next used slots n i) where
  module _ (h : i < used) (d : Span) where
    abbrev s : Span
    s = get_or slots i d

    one : rest_from (take used slots) i ≡ placed s ∷ rest_from (take used slots) (i + 1)
    one = more (take used slots) i d (omega (arith, length-take used slots, c.size)) ∙ rw (get_or-take used slots i d h) refl

    -- the stretch if it stays
    abbrev held : Bool → List Places
    held x = elim x [ true ↦ placed s ∷ [] | false ↦ [] ]

    on : (x : Bool) → stays from next (placed s) ≡ x → (slots' : List Span) (n' : ℕ) → n' ≤ n + 1 → length slots' ≡ length slots
        → map placed (take n' slots') ≡ map placed (take n slots) ++ held x
        → rest_from (take used slots') (i + 1) ≡ rest_from (take used slots) (i + 1)
        → Holding all from next used slots' n' (i + 1)
    on x t slots' n' up long e same = record {
      few = omega (arith, c.few);
      size = omega (arith, c.size, long);
      each = subst (All (Lies next)) (sym same) (subst (All (Lies next)) one c.each).1;
      stay = subst (Stay from next all (map placed (take n' slots'))) (sym same)
          (stay-again (rw one at c.stay) (map placed (take n' slots'))
          (e ∙ ap (λ l. map placed (take n slots) ++ l) (sym (staying-one from next (placed s) ∙ ap held t))));
    }

    pub holding-dropped : stays from next (placed s) ≡ false → Holding all from next used slots n (i + 1)
    holding-dropped t = on false t slots n (omega arith) refl (sym (append-nil (map placed (take n slots)))) refl

    pub holding-put : stays from next (placed s) ≡ true → Holding all from next used (set slots n s) (n + 1) (i + 1)
    holding-put t =
        let low : n < used = omega (arith, c.few) in
        let upto : n < i + 1 = omega (arith, c.few) in
        on true t (set slots n s) (n + 1) (omega arith) (length-set slots n s) (one_more_lem slots n s (omega (arith, c.size)))
        (ap (λ l. map placed (drop (i + 1) l)) (take-set-lt used slots n s low) ∙ ap (map placed) (drop-set-lt (i + 1) (take used slots) n s upto))

-- The new stretch comes behind those of `all` that stay, if it is kept.
module _ (all : List Places) (from b next : ℕ) (new : Span) (e : new.left ≡ cut from (left_over from all)) (r : new.right ≡ b) where
  renews : renewed from b next all ≡ staying from next all ++ select (kept next) (placed new ∷ [])
  renews =
      ap (λ l. select (kept next) (left_over from all ++ (record { left = l; right = b; node = tt } ∷ []))) (sym e)
      ∙ ap (λ r. select (kept next) (left_over from all ++ (record { left = new.left; right = r; node = tt } ∷ []))) (sym r)
      ∙ select-append (kept next) (left_over from all) (placed new ∷ [])

  module _ (f : Spans) (is : in_use f ≡ staying from next all) where
    abbrev with-new : Bool → List Places
    with-new x = in_use f ++ elim x [ true ↦ placed new ∷ [] | false ↦ [] ]

    ends : (x : Bool) → kept next (placed new) ≡ x → with-new x ≡ renewed from b next all
    ends x k = sym (ap with-new k) ∙ ap (λ l. l ++ select (kept next) (placed new ∷ [])) is ∙ sym renews

    pub ends-dropped : kept next (placed new) ≡ false → in_use f ≡ renewed from b next all
    ends-dropped k = sym (append-nil (in_use f)) ∙ ends false k

    module _ (five : f.used ≤ 5) (size : length f.slots ≡ 5) (few : length (renewed from b next all) ≤ 5) (k : kept next (placed new) ≡ true) where
      pub has_room_lem : f.used < 5
      has_room_lem =
          let e = ends true k in
          omega (arith, counts f (omega arith), length-append (in_use f) (placed new ∷ []), ap length e)

      pub ends-put : map placed (take (f.used + 1) (set f.slots f.used new)) ≡ renewed from b next all
      ends-put = one_more_lem f.slots f.used new (omega (arith, has_room_lem)) ∙ ends true k
