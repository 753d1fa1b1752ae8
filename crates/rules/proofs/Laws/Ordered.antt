-- Hits in their order: two lists in it that have the same members are equal. Of the order only this is used: of two hits not each comes
-- before the other, and moving both by as much changes nothing.
use Rattle.std.specs.Prelude.{ℕ, ◌≡◌, refl, Bool, ◌⊎◌}
use Rattle.std.proofs.Common.{arith, sym, subst, ◌∙◌, inl, inr}
use mathlib.Core.List.Memᴰ
use mathlib.Core.List.{List, [], ◌∷◌, map, Memᴰ}
use Rattle.rules.specs.Lists.{select}
use Rattle.rules.specs.Sweep.{further, Before, Ordered}
use Rattle.rules.proofs.Laws.Tests.{decide}
use Rattle.rules.proofs.Laws.Members.{select-out}

module _ (tokens : List (List ℕ)) where
  not-both : (g h : ℕ × ℕ) → Before tokens g h → Before tokens h g → ⊥
  not-both g h a b = omega (arith, a.0, b.0, a.1 b.0, b.1 a.0)

  before-moved : (n : ℕ) (g h : ℕ × ℕ) → Before tokens g h → Before tokens (further n g) (further n h)
  before-moved n g h b = (omega (arith, b.0), λ k. b.1 (omega arith))

  pub ordered-moved : (n : ℕ) (l : List (ℕ × ℕ)) → Ordered tokens l → Ordered tokens (map (further n) l)
  ordered-moved n [] o = tt
  ordered-moved n (g ∷ l) o = (
    λ h m.
        let r = Memᴰ.of_map (further n) l m in
        subst (Before tokens (further n g)) r.2 (before-moved n g r.0 (o.0 r.0 r.1)),
    ordered-moved n l o.1,
  )

  pub ordered-select : (p : ℕ × ℕ → Bool) (l : List (ℕ × ℕ)) → Ordered tokens l → Ordered tokens (select p l)
  ordered-select p [] o = tt
  ordered-select p (g ∷ l) o =
      decide (Ordered tokens) (p g) _ _ (λ _. (λ h m. o.0 h (select-out p h l m).0, ordered-select p l o.1)) (λ _. ordered-select p l o.1)

  abbrev Within : List (ℕ × ℕ) → List (ℕ × ℕ) → Type 0
  Within l m = (h : ℕ × ℕ) → Memᴰ h l → Memᴰ h m

  -- what stands behind the head is not the head
  behind : (a b : ℕ × ℕ) (l m : List (ℕ × ℕ)) → a ≡ b → ((h : ℕ × ℕ) → Memᴰ h l → Before tokens a h) → Within (a ∷ l) (b ∷ m) → Within l m
  behind a b l m e o f h k = go (Memᴰ.cases_cons (f h (Memᴰ.tail k)))
    where
      go : (h ≡ b) ⊎ Memᴰ h m → Memᴰ h m
      go (inl q) = let x = subst (Before tokens a) (q ∙ sym e) (o h k) in absurd (not-both a a x x)
      go (inr k) = k

  pub same-members : (l m : List (ℕ × ℕ)) → Ordered tokens l → Ordered tokens m → Within l m → Within m l → l ≡ m
  same-members [] [] o p f g = refl
  same-members [] (b ∷ m) o p f g = absurd (Memᴰ.not-nil (g b (Memᴰ.head refl)))
  same-members (a ∷ l) [] o p f g = absurd (Memᴰ.not-nil (f a (Memᴰ.head refl)))
  same-members (a ∷ l) (b ∷ m) o p f g =
      let e = heads (Memᴰ.cases_cons (f a (Memᴰ.head refl))) (Memᴰ.cases_cons (g b (Memᴰ.head refl))) in
      let t = same-members l m o.1 p.1 (behind a b l m e o.0 f) (behind b a m l (sym e) p.0 g) in
      cc
    where
      heads : (a ≡ b) ⊎ Memᴰ a m → (b ≡ a) ⊎ Memᴰ b l → a ≡ b
      heads (inl e) k = e
      heads (inr j) (inl e) = sym e
      heads (inr j) (inr k) = absurd (not-both a b (o.0 b k) (p.0 a j))
