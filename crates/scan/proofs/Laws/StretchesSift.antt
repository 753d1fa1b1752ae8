-- The loop that fills slots with the stretches that stay, and the new stretch after them.
use Prim.Native.Nat.{ℕ, zero, suc, ◌+◌, ◌≤◌, ◌<◌}
use native.Mathlib.Omega.{arith}
use mathlib.Core.Path.{◌≡◌, refl, ap, sym, subst, ◌∙◌}
use mathlib.Core.Bool.{Bool, true, false}
use mathlib.Core.List.{List, [], ◌∷◌, ◌++◌, append-nil}
use lib.ListN.{length, set, length-append}
use Rattle.rules.specs.Rules.{Stretch}
use Rattle.rules.specs.Lists.{All}
use Rattle.rules.specs.Stretches.{Lies, stays, staying}
use Rattle.rules.proofs.Laws.Remember.{staying-one, Stay, stay-again}
use Rattle.scan.specs.declared.Stretch.{Stretch as Slot}
use Rattle.scan.specs.declared.stretches.Filled.{Filled}
use Rattle.scan.specs.State.{stretch_of, slot_of, in_use, used, laid, max_stretches}
use Rattle.scan.specs.Memory.{put_in, sift_in, filled_with}
use Rattle.scan.proofs.Laws.Stretches.{slot_at, rest_from, more}

-- A stretch is laid behind others, or does not fit any more.
laid-put : (k : ℕ) (ms : List (Stretch ℕ)) (m : Stretch ℕ) → set (laid k ms) (length ms) (slot_of m) ≡ laid k (ms ++ (m ∷ []))
laid-put zero [] m = refl
laid-put zero (x ∷ ms) m = refl
laid-put (suc k) [] m = refl
laid-put (suc k) (x ∷ ms) m = cc (laid-put k ms m)

pub laid-full : (k : ℕ) (ms xs : List (Stretch ℕ)) → k ≤ length ms → laid k (ms ++ xs) ≡ laid k ms
laid-full zero ms xs h = refl
laid-full (suc k) [] xs h = absurd (omega arith)
laid-full (suc k) (m ∷ ms) xs h = cc (laid-full k ms xs (omega arith))

pub put-filled : (ms : List (Stretch ℕ)) (m : Stretch ℕ) → put_in (filled_with ms) (slot_of m) ≡ filled_with (ms ++ (m ∷ []))
put-filled ms m =
    let n : length ms + 1 ≡ length (ms ++ (m ∷ [])) = rw length-append in
    cc (laid-put max_stretches ms m)

-- Some slots are filled, and the others are left to look at.
pub record Sifting (slots : List Slot) (from b : ℕ) (f : Filled) (i : ℕ) : Type 0 where
  pub long : length slots ≡ 5
  pub upto : i ≤ 5
  pub few : f.n ≤ i
  pub lies : All (Lies b) (rest_from slots i)
  pub held : List (Stretch ℕ)
  pub is : f ≡ filled_with held
  pub stay : Stay from b (used slots) held (rest_from slots i)

module _ {slots : List Slot} {from b : ℕ} {f : Filled} {i : ℕ} (s : Sifting slots from b f i) where
  module _ (h : i < 5) (here : in_use (slot_at slots i) ≡ true) where
    abbrev m : Stretch ℕ
    m = stretch_of (slot_at slots i)

    all_lie : All (Lies b) (m ∷ rest_from slots (i + 1))
    all_lie = subst (All (Lies b)) (more slots s.long i h here) s.lies

    pub sifting-again : (g : Filled) → g ≡ sift_in (stays from b m) f (slot_at slots i) → Sifting slots from b g (i + 1)
    sifting-again g e =
        let r = go (stays from b m) (e ∙ ap (λ f. sift_in (stays from b m) f (slot_at slots i)) s.is) in
        record {
          long = s.long;
          upto = omega arith;
          few = omega (arith, r.1, ap (λ f. f.n) s.is, s.few);
          lies = all_lie.1;
          held = s.held ++ staying from b (m ∷ []);
          is = r.0 ∙ ap (λ l. filled_with (s.held ++ l)) (sym (staying-one from b m));
          stay = stay-again (rw (more slots s.long i h here) at s.stay) _ refl;
        }
      where
        go : (x : Bool) → g ≡ sift_in x (filled_with s.held) (slot_at slots i)
            → (g ≡ filled_with (s.held ++ elim x [ true ↦ m ∷ [] | false ↦ [] ])) × (g.n ≤ length s.held + 1)
        go true e = (e ∙ put-filled s.held m, omega (arith, ap (λ f. f.n) e))
        go false e = (e ∙ ap filled_with (sym (append-nil s.held)), omega (arith, ap (λ f. f.n) e))
