-- The walk along a chain: a turn of it, where it stops, that it finds what `along` finds, and where it ends if it finds nothing.
use Rattle.std.specs.Prelude.{ℕ, zero, suc, ◌+◌, ◌-◌, ◌≤◌, ◌<◌, ◌≡◌, refl, List, Result, Ok, Err, get_or}
use Rattle.std.proofs.Common.{arith, ap, sym, ◌∙◌, eq-eqb, ne_eqb}
use Rattle.std.proofs.Math.Option.{Option, some, none}
use Rattle.rules.proofs.Laws.Tests.{split}
use Rattle.tables.specs.Tables.{Tables}
use Rattle.tables.specs.Walks.{along, child_by}
use Rattle.trie.specs.Chain.{walked}
use Rattle.tables.specs.Inserted.{last_of}
use Rattle.tables.specs.Shape.{tag, head, sib, Shape}

module _ (label next : List ℕ) (x : ℕ) where
  pub walked_end : (left last at : ℕ) → at ≡ 0 → walked label next x left last at ≡ Err last
  walked_end zero last at e = refl
  walked_end (suc left) last at e = cc (eq-eqb at 0 e)

  pub walked_here : (left last at : ℕ) → (left ≡ 0 → ⊥) → (at ≡ 0 → ⊥) → get_or label at 0 ≡ x → walked label next x left last at ≡ Ok at
  walked_here zero last at l a e = absurd (l refl)
  walked_here (suc left) last at l a e = cc (ne_eqb at 0 a, eq-eqb (get_or label at 0) x e)

  pub walked_on : (left last at : ℕ) → (left ≡ 0 → ⊥) → (at ≡ 0 → ⊥) → (get_or label at 0 ≡ x → ⊥)
      → walked label next x left last at ≡ walked label next x (left - 1) at (get_or next at 0)
  walked_on zero last at l a d = absurd (l refl)
  walked_on (suc left) last at l a d =
      let e : suc left - 1 ≡ left = omega arith in rw e (cc (ne_eqb at 0 a, ne_eqb (get_or label at 0) x d))

-- `along` reads the labels and the siblings alone.
pub along-alike : (t u : Tables) → t.label ≡ u.label → t.next ≡ u.next → (x fuel at : ℕ) → along t x fuel at ≡ along u x fuel at
along-alike t u l n x zero at = refl
along-alike t u l n x (suc fuel) at = cc (along-alike t u l n x fuel (get_or t.next at 0))

-- So a child is found by the labels, the first children and the siblings.
pub child-alike : (t u : Tables) → t.label ≡ u.label → t.first ≡ u.first → t.next ≡ u.next → (count v x : ℕ) → child_by t count v x ≡ child_by u count v x
child-alike t u l f n count v x = along-alike t u l n x count (get_or t.first v 0) ∙ ap (λ first. along u x count (get_or first v 0)) f

abbrev pub found_of : Result ℕ ℕ → Option ℕ
found_of (Ok v) = some v
found_of (Err v) = none

module _ (t : Tables) (x : ℕ) where
  abbrev walk : ℕ → ℕ → ℕ → Result ℕ ℕ
  walk = walked t.label t.next x

  pub walked-along : (fuel last at : ℕ) → along t x fuel at ≡ found_of (walk fuel last at)
  walked-along zero last at = refl
  walked-along (suc fuel) last at =
      split at 0 (λ e. cc (eq-eqb at 0 e))
      (λ e. split (tag t at) x
      (λ f. cc (ne_eqb at 0 e, eq-eqb (tag t at) x f))
      (λ f. cc (ne_eqb at 0 e, ne_eqb (tag t at) x f, walked-along fuel at (sib t at))))

  pub walked-child : (count v at : ℕ) (w : Result ℕ ℕ) → at ≡ head t v → w ≡ walk count 0 at → found_of w ≡ child_by t count v x
  walked-child count v at w h e = rw (e, h) (sym (walked-along count 0 (head t v)))

  module _ (n : ℕ) (s : Shape t n) where
    -- where other lists say the same of the n nodes, so does the walk over them
    pub walked_same : (label next : List ℕ) → ((v : ℕ) → v < n → get_or label v 0 ≡ tag t v) → ((v : ℕ) → v < n → get_or next v 0 ≡ sib t v)
        → (fuel last at : ℕ) → (0 < at → at < n) → walked label next x fuel last at ≡ walk fuel last at
    walked_same label next f g zero last at h = refl
    walked_same label next f g (suc fuel) last at h =
        split at 0 (λ e. cc (eq-eqb at 0 e))
        (λ e. let k : at < n = h (omega arith) in
        cc (
          ne_eqb at 0 e,
          f at k,
          g at k,
          walked_same label next f g fuel at (sib t at) (λ a. ((s.sibs at (omega arith) k).node a).1),
        ))

    -- a walk that finds nothing ends at the last of the chain
    pub walked-last : (fuel last at l : ℕ) → 0 < at → at < n → n ≤ at + fuel → walk fuel last at ≡ Err l → l ≡ last_of t fuel at
    walked-last zero last at l a b h e = absurd (omega arith)
    walked-last (suc fuel) last at l a b h e =
        let z : at ≡ 0 → ⊥ = λ q. omega arith in
        split (tag t at) x
        (λ f. let q : Ok at ≡ Err l = cc (ne_eqb at 0 z, eq-eqb (tag t at) x f) in absurd (let o : ◌≡◌ {A = ℕ} 0 1 = cc in omega arith))
        (λ f. let q : walk fuel at (sib t at) ≡ Err l = cc (ne_eqb at 0 z, ne_eqb (tag t at) x f) in
        split (sib t at) 0
        (λ y. let i : Err at ≡ Err l = sym (walked_end t.label t.next x fuel at (sib t at) y) ∙ q in
        cc (eq-eqb (sib t at) 0 y))
        (λ y. let k = (s.sibs at a b).node (omega arith) in
        rw (ne_eqb (sib t at) 0 y, last_of) (walked-last fuel at (sib t at) l (omega arith) k.1 (omega (arith, k.0)) q)))
