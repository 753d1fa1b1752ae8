-- The climbs past nodes that carry no token.
use Prim.Native.Nat.{ℕ, ◌<◌}
use native.Mathlib.Omega.{arith}
use mathlib.Core.Path.{◌≡◌, sym, ◌∙◌}
use lib.ListN.{get_or}
use Rattle.tables.specs.Walks.{carrier}
use Rattle.tables.specs.Tables.{Tables}
use Rattle.tables.specs.Shape.{Falling}
use Rattle.tables.proofs.Laws.Hits.{carrier-here, carrier-above}
use Rattle.scan.specs.Ways.{Climbs, Nears}
use Rattle.scan.proofs.Laws.Spell.{parent-below}

module _ {t : Tables} {node : ℕ} (s : Climbs t node) where
  falls : Falling t s.count
  falls = s.tree.falling

  module _ {at : ℕ} (n : Nears t node at) where
    -- a node to climb from
    pub nears-climbs : Climbs t at
    nears-climbs = record { count = s.count; tree = s.tree; below = omega (arith, s.below, n.high) }

    -- The node carries a token, or the climb goes on from its parent, or it is the root.
    pub nears-here : (get_or t.token at 0 ≡ 0 → ⊥) → at ≡ carrier t node
    nears-here h = sym (carrier-here t s.count falls at h) ∙ n.same

    pub nears-less : 0 < at → get_or t.parent at 0 < at
    nears-less a = s.tree.falling.ups at a (omega (arith, s.below, n.high))

    pub nears-above : 0 < at → get_or t.token at 0 ≡ 0 → (w : ℕ) → w ≡ get_or t.parent at 0 → Nears t node w
    nears-above a h w e = rw e (record {
      high = omega (arith, nears-less a, n.high);
      same = sym (carrier-above t s.count falls at a (omega (arith, s.below, n.high)) h) ∙ n.same;
    })

-- The parent of a node to climb from.
pub up-climbs : {t : Tables} {v : ℕ} → Climbs t v → (w : ℕ) → w ≡ get_or t.parent v 0 → Climbs t w
up-climbs {v = v} s w e =
    record { count = s.count; tree = s.tree; below = omega (arith, e, parent-below s.tree.falling v s.below) }

-- A climb goes on where another one from there has come to.
pub nears-on : {t : Tables} {node at end : ℕ} → Nears t node at → Nears t at end → Nears t node end
nears-on n m = record { high = omega (arith, n.high, m.high); same = m.same ∙ n.same }
