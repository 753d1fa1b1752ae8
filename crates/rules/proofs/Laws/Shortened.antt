-- Rule 5's test by a shorter word: a word, moved s to the right, fits exactly if the word without its last s bytes and the known bytes agree
-- as far as the shorter of the two goes.
use Rattle.std.specs.Prelude.{ℕ, ◌+◌, ◌-◌, ◌<◌, ◌≡◌, refl, true, false, ◌||◌, List, leb, length, drop}
use Rattle.std.proofs.Common.{arith, sym, ◌∙◌, eq-eqb, eqb-true, leb-true, leb-false, length-take, get_or-take}
use Rattle.rules.specs.Tokens.{ends, from_right, fits, shortened}
use Rattle.rules.specs.Configs.{byte_of}
use Rattle.rules.proofs.Laws.Tests.{decide, clash, same_test, and_r, or_r, every-all, every-at}
use Rattle.rules.proofs.Laws.Endings.{same→eq}
use Rattle.rules.proofs.Laws.Fits.{agrees-over, fits-every}
use Rattle.rules.proofs.Laws.Exact.Reads.{reads-drop, reads-ends}

-- the bytes of an ending are those of the whole, from the right
ends-bytes : (u t : List ℕ) → ends u t ≡ true → (k : ℕ) → k < length u → from_right u k ≡ from_right t k
ends-bytes u t h =
    let e : drop (length t - length u) t ≡ u = sym (same→eq u _ (and_r (leb (length u) (length t)) _ h)) in
    rw e at (reads-drop (byte_of t) (length t - length u) t (length t) (λ k l. refl))

module _ (u w : List ℕ) (s : ℕ) where
  abbrev z : List ℕ
  z = shortened w s

  long : length z ≡ length w - s
  long = length-take (length w - s) w ∙ omega arith

  -- its bytes, from the right, are the word's
  bytes : (k : ℕ) → k + s < length w → from_right z k ≡ from_right w (k + s)
  bytes k h =
      let e : length z - 1 - k ≡ length w - 1 - (k + s) = omega (arith, long) in
      rw e (get_or-take (length w - s) w (length w - 1 - (k + s)) 0 (omega arith))

  -- where it fits, the bytes that both have are the same
  both : fits u w s ≡ true → (k : ℕ) → k < length u → k < length z → from_right u k ≡ from_right z k
  both h k a b =
      let l : k + s < length w = omega (arith, long) in
      sym (bytes k l ∙ eqb-true _ _ (sym (agrees-over w s k (from_right u k) l) ∙ every-at (length u) _ (sym (fits-every u w s) ∙ h) k a))

  fits→ends : fits u w s ≡ true → (ends u z || ends z u) ≡ true
  fits→ends h = or_r (ends u z) (ends z u) (λ f. decide (λ _. ends z u ≡ true) (leb (length u) (length z)) true false
      (λ l. let q = leb-true (length u) (length z) l in
      absurd (clash _ (reads-ends (byte_of z) u z (length z) (λ k a. both h k a (omega arith)) (λ k a. refl) q) f))
      (λ l. let q = leb-false (length u) (length z) l in
      reads-ends (byte_of u) z u (length u) (λ k a. sym (both h k (omega arith) a)) (λ k a. refl) (omega arith)))

  ends→fits : (ends u z || ends z u) ≡ true → fits u w s ≡ true
  ends→fits h = fits-every u w s ∙ every-all (length u) _ (λ k a. or_r (leb (length w) (k + s)) _ (λ f.
      let l : k + s < length w = leb-false (length w) (k + s) f in
      eq-eqb _ _ (sym (bytes k l) ∙ decide (λ _. from_right z k ≡ from_right u k) (ends u z) true false
      (λ e. sym (ends-bytes u z e k a)) (λ e. ends-bytes z u (rw e at h) k (omega (arith, long))))))

  pub fits-shortened : fits u w s ≡ (ends u (shortened w s) || ends (shortened w s) u)
  fits-shortened = same_test (fits u w s) (ends u z || ends z u) fits→ends ends→fits
