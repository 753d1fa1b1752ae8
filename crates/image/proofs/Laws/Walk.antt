-- Where a round's way ends, and a step of it.
use Prim.Native.Nat.{ℕ, suc, ◌+◌, ◌-◌}
use mathlib.Core.Path.{◌≡◌, ap}
use mathlib.Core.Bool.{true, false, ◌||◌}
use mathlib.Core.List.{List}
use mathlib.Core.Option.{Option, some, none}
use borrow.Author.Tests.{eq-eqb, ne_eqb}
use lib.Dec.{eqb}
use lib.ListN.{get_or}
use Rattle.rules.specs.Rules.{Tree}
use Rattle.rules.proofs.Laws.Tests.{or_r}
use Rattle.image.specs.Rounds.{Reached, meeting, down}

-- It goes on, or stops at a leaf or at the image's edge.
module _ (a d b : ℕ) where
  pub goes_on : (a ≡ 0 → ⊥) → (d ≡ b → ⊥) → (eqb a 0 || eqb d b) ≡ false
  goes_on h k = cc (ne_eqb a 0 h, ne_eqb d b k)

  pub stops-leaf : a ≡ 0 → (eqb a 0 || eqb d b) ≡ true
  stops-leaf h = ap (λ t. t || eqb d b) (eq-eqb a 0 h)

  pub stops-edge : d ≡ b → (eqb a 0 || eqb d b) ≡ true
  stops-edge h = or_r (eqb a 0) (eqb d b) (λ _. eq-eqb d b h)

abbrev pub ended : ℕ → ℕ → Option ℕ → List ℕ → Reached ℕ
ended v d o m = record { node = v; depth = d; closing = o; tokens = m }

module _ (tree : Tree ℕ) (image : List ℕ) (b f v d : ℕ) (m : List ℕ) where
  pub down-stop : (tree.leaf v || eqb d b) ≡ true → down tree image b (suc f) v d m ≡ ended v d none m
  down-stop h = cc

  module _ (x : ℕ) (on : (tree.leaf v || eqb d b) ≡ false) (is : x ≡ get_or image (b - 1 - d) 0) where
    pub down-shut : tree.child v x ≡ none → down tree image b (suc f) v d m ≡ ended v d (some x) m
    down-shut h = cc

    pub down-on : (w : ℕ) → tree.child v x ≡ some w
        → down tree image b (suc f) v d m ≡ down tree image b f w (d + 1) (meeting m (tree.token w))
    down-on w h = cc
