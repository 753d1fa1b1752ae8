-- The loop that puts a round's hits into the buffers: to put those left from here is to put all of them.
use Prim.Native.Nat.{ℕ, suc, ◌+◌, ◌≤◌}
use native.Mathlib.Omega.{arith}
use mathlib.Core.Path.{◌≡◌, refl, ap, subst, ◌∙◌}
use mathlib.Core.List.{List, ◌∷◌, map}
use lib.ListN.{length, get_or}
use Rattle.whole.specs.Image.{room}
use Rattle.image.specs.Hits.{note, notes, Noted}
use Rattle.image.specs.Walk.{newest}
use Rattle.image.proofs.Laws.Notes.{note-length}

-- To put the hits left from place n on is to put those found from place `hits` on.
pub record Noting (ends₀ tokens₀ : List ℕ) (hits : ℕ) (found : List (ℕ × ℕ)) (ends tokens : List ℕ) (n : ℕ) (left : List (ℕ × ℕ)) : Type 0 where
  pub ends-long : length ends ≡ length ends₀
  pub tokens-long : length tokens ≡ length tokens₀
  pub number : n + length left ≡ hits + length found
  pub ends-left : notes (room ends₀ tokens₀) n (map (λ h. h.0) left) ends ≡ notes (room ends₀ tokens₀) hits (map (λ h. h.0) found) ends₀
  pub tokens-left : notes (room ends₀ tokens₀) n (map (λ h. h.1) left) tokens ≡ notes (room ends₀ tokens₀) hits (map (λ h. h.1) found) tokens₀

noting-begins : (ends tokens : List ℕ) (hits : ℕ) (found : List (ℕ × ℕ)) → Noting ends tokens hits found ends tokens hits found
noting-begins ends tokens hits found = record { ends-long = refl; tokens-long = refl; number = refl; ends-left = refl; tokens-left = refl }

noting-on : {ends₀ tokens₀ : List ℕ} {hits : ℕ} {found : List (ℕ × ℕ)} {ends tokens : List ℕ} {n : ℕ} {left : List (ℕ × ℕ)} {end number : ℕ}
    → Noting ends₀ tokens₀ hits found ends tokens n ((end, number) ∷ left)
    → (ends' tokens' : List ℕ) → ends' ≡ note (room ends tokens) n end ends → tokens' ≡ note (room ends tokens) n number tokens
    → Noting ends₀ tokens₀ hits found ends' tokens' (n + 1) left
noting-on {ends₀} {tokens₀} {hits} {found} {ends} {tokens} {n} {left} {end} {number} l ends' tokens' e q =
    let r : room ends tokens ≡ room ends₀ tokens₀ = omega (arith, l.ends-long, l.tokens-long) in
    record {
      ends-long = ap length e ∙ note-length (room ends tokens) n end ends ∙ l.ends-long;
      tokens-long = ap length q ∙ note-length (room ends tokens) n number tokens ∙ l.tokens-long;
      number = omega (arith, l.number);
      ends-left = rw (e, r) l.ends-left;
      tokens-left = rw (q, r) l.tokens-left;
    }

-- Those left are the tokens kept below place `left`.
pub record Marking (kept : List ℕ) (met b hits : ℕ) (ends₀ tokens₀ ends tokens : List ℕ) (left n : ℕ) : Type 0 where
  pub upto : left ≤ met
  pub sum : n + left ≡ hits + met
  pub noting : Noting ends₀ tokens₀ hits (map (λ i. (b, i)) (newest kept met)) ends tokens n (map (λ i. (b, i)) (newest kept left))

module _ (kept : List ℕ) (met b hits : ℕ) where
  pub marking_begins : (ends tokens : List ℕ) → Marking kept met b hits ends tokens ends tokens met hits
  marking_begins ends tokens = record {
    upto = omega arith;
    sum = refl;
    noting = noting-begins ends tokens hits (map (λ i. (b, i)) (newest kept met));
  }

  module _ {ends₀ tokens₀ ends tokens : List ℕ} {left n : ℕ} (l : Marking kept met b hits ends₀ tokens₀ ends tokens left n) where
    pub marking-done : left ≡ 0 → Noted ends₀ tokens₀ hits (map (λ i. (b, i)) (newest kept met)) ends tokens n
    marking-done e =
        let z = subst (λ k. Noting ends₀ tokens₀ hits (map (λ i. (b, i)) (newest kept met)) ends tokens n (map (λ i. (b, i)) (newest kept k))) e l.noting in
        record { number = omega (arith, z.number); ends-hold = z.ends-left; tokens-hold = z.tokens-left }

    -- The next of them.
    pub marking-again : (k : ℕ) → left ≡ suc k → (ends' tokens' : List ℕ) → ends' ≡ note (room ends tokens) n b ends
        → tokens' ≡ note (room ends tokens) n (get_or kept k 0) tokens → Marking kept met b hits ends₀ tokens₀ ends' tokens' k (n + 1)
    marking-again k e ends' tokens' p q =
        let z = subst (λ k. Noting ends₀ tokens₀ hits (map (λ i. (b, i)) (newest kept met)) ends tokens n (map (λ i. (b, i)) (newest kept k))) e l.noting in
        record { upto = omega (arith, l.upto); sum = omega (arith, l.sum); noting = noting-on z ends' tokens' p q }
