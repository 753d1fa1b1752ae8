-- What holds of a configuration that the rules come to, over any tree and over the words; and how many steps are left from it.
use Rattle.std.specs.Prelude.{ℕ, suc, ◌-◌, ◌*◌, ◌≤◌, ◌<◌, ◌≡◌, List, length, get_or}
use Rattle.rules.specs.Rules.{Config, Stretch}
use Rattle.rules.specs.Stretches.{Spans}
use Rattle.rules.specs.Tokens.{from_right}
use Rattle.rules.specs.Lists.{All}

-- how many steps are left, at the most, from boundary b and depth d
abbrev pub steps_left : ℕ → ℕ → ℕ → ℕ → ℕ
steps_left n D b d = (suc n - b) * suc D - d

-- What holds of a configuration that the rules come to.
pub record Held {E : Type 0} (size : E → ℕ) (D : ℕ) (c : Config E) : Type 0 where
  pub sized : size c.node ≡ c.depth
  pub deep : c.depth ≤ D
  pub inside : c.depth ≤ c.boundary
  pub spans : Spans D c.boundary 0 c.stretches

abbrev pub byte_of : List ℕ → ℕ → ℕ
byte_of image p = get_or image p 0

module _ (img : ℕ → ℕ) where
  -- `u` stands just before place b
  abbrev pub Reads : List ℕ → ℕ → Type 0
  Reads u b = (k : ℕ) → k < length u → from_right u k ≡ img (b - 1 - k)

module _ (img : ℕ → ℕ) where
  -- A stretch that is remembered at boundary b holds the bytes of its places.
  pub record Holds (b : ℕ) (s : Stretch (List ℕ)) : Type 0 where
    pub ordered : s.left ≤ s.right
    pub inside : s.right ≤ b
    pub size : length s.node ≡ s.right - s.left
    pub reads : Reads img s.node s.right

  pub record Inv (D : ℕ) (c : Config (List ℕ)) : Type 0 where
    pub deep : c.depth ≡ length c.node
    pub inside : c.depth ≤ c.boundary
    pub short : c.depth ≤ D
    pub reads : Reads img c.node c.boundary
    pub holds : All (Holds c.boundary) c.stretches
