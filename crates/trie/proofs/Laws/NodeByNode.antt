-- The test of tables, node by node: how deep a node lies, and what the nodes that passed say of the next.
use Rattle.std.specs.Prelude.{ℕ, zero, suc, ◌+◌, ◌-◌, ◌≤◌, ◌<◌, ◌≡◌, refl, true, false, [], ◌∷◌, eqb, length}
use Rattle.std.proofs.Common.{arith, ap, sym, ◌∙◌, eqb-true, eq-eqb, ne_eqb, lt-ltb, le-ltb, le-leb}
use Rattle.std.proofs.Math.Option.{some, none}
use Rattle.std.proofs.lemmas.Bool.{lt-leb}
use Rattle.rules.proofs.Laws.Tests.{split, below_suc, passed}
use Rattle.tables.specs.Tables.{Tables, shortest_table}
use Rattle.tables.specs.Walks.{climb, depth}
use Rattle.tables.specs.Broken.{max_depth, max_number, links, shifts, sound, first_break, broken}
use Rattle.tables.specs.Shape.{up, tag, sib, Falling, num}
use Rattle.trie.specs.Answers.{own_sound}
use Rattle.trie.specs.NodeByNode.{Chained, Chain}
use Rattle.tables.proofs.Laws.Shape.{way_step}

-- the way up from v has at most v steps
climb-short : (t : Tables) (fuel v : ℕ) → length (climb t fuel v) ≤ fuel
climb-short t zero v = omega arith
climb-short t (suc fuel) v = split v 0
    (λ e. rw (eq-eqb v 0 e, climb) (omega arith))
    (λ e. rw (ne_eqb v 0 e, climb) (omega (arith, climb-short t fuel (up t v))))

pub depth_le : (t : Tables) (v : ℕ) → depth t v ≤ v
depth_le t v = climb-short t v v

pub falling-below : (t : Tables) (n m : ℕ) → Falling t n → 0 < m → m ≤ n → Falling t m
falling-below t n m s a h = record { size = a; root-up = s.root-up; ups = λ v b k. s.ups v b (omega arith) }

-- one step up, to the parent a
pub depth-up : (t : Tables) (v a : ℕ) → Falling t (v + 1) → (v ≡ 0 → ⊥) → a ≡ up t v → (a < v) × (depth t v ≡ depth t a + 1)
depth-up t v a s h e = (
  omega (arith, s.ups v (omega arith) (omega arith)),
  ap length (way_step t (v + 1) s v (omega arith) (omega arith)) ∙ omega (arith, ap (depth t) e),
)

-- the way up from v has come to `at`
pub record Climbing (t : Tables) (v at steps : ℕ) : Type 0 where
  pub below : at ≤ v
  pub climbed : steps + depth t at ≡ depth t v

pub climb-on : (t : Tables) (v at steps a : ℕ) → Falling t (v + 1) → Climbing t v at steps → (at ≡ 0 → ⊥) → a ≡ up t at
    → (a < at) × (steps < v) × Climbing t v a (steps + 1)
climb-on t v at steps a s k h e =
    let q = depth-up t at a (falling-below t (v + 1) (at + 1) s (omega arith) (omega (arith, k.below))) h e in
    (q.0, omega (arith, k.climbed, q.1, depth_le t v), record { below = omega (arith, k.below, q.0); climbed = omega (arith, k.climbed, q.1) })

pub chain-none : (t : Tables) (count v : ℕ) → Chain t count v v
chain-none t count v = record { upward = omega arith; each = λ k a b. absurd (omega arith) }

pub chain_more : (t : Tables) (count v w : ℕ) → Chain t count v w → Chained t count w → Chain t count v (w + 1)
chain_more t count v w c l = record {
  upward = omega (arith, c.upward);
  each = λ k a b. below_suc k w (omega arith) (λ h. c.each k a h) (λ e. rw e l);
}

-- the nodes from the root to before v passed, and `deep` is the depth of the last of them
pub record Passing (t : Tables) (count v deep : ℕ) : Type 0 where
  pub below : v ≤ count
  pub rest : first_break t count (count - v) v ≡ first_break t count (count - 1) 1
  pub falls : Falling t v
  pub before : deep ≡ depth t (v - 1)

-- they passed, and node v is their equal by its parent and its depth
pub record Standing (t : Tables) (count v deep : ℕ) : Type 0 where
  pub below : v < count
  pub rest : first_break t count (count - v) v ≡ first_break t count (count - 1) 1
  pub falls : Falling t (v + 1)
  pub deep-at : deep ≡ depth t v
  pub near : deep ≤ max_depth
  pub past : 0 < v

module _ (t : Tables) (count : ℕ) where
  -- the value is that of the shortest table, or that of the first node
  pub short-breaks : (least : ℕ) → least ≡ shortest_table t → least < count → broken t count ≡ some least
  short-breaks least e h = cc (lt-ltb (shortest_table t) count (omega arith))

  pub long-enough : (least : ℕ) → least ≡ shortest_table t → count ≤ least → broken t count ≡ first_break t count count 0
  long-enough least e h = cc (le-ltb (shortest_table t) count (omega arith))

  module _ (v : ℕ) (v< : v < count) where
    one_more_lem : first_break t count (count - v) v ≡ first_break t count (suc (count - (v + 1))) v
    one_more_lem = let e : count - v ≡ suc (count - (v + 1)) = omega arith in rw e refl

    breaks : sound t count v ≡ false → first_break t count (count - v) v ≡ some v
    breaks h = one_more_lem ∙ cc

    passes : sound t count v ≡ true → first_break t count (count - v) v ≡ first_break t count (count - (v + 1)) (v + 1)
    passes h = one_more_lem ∙ cc

  -- the root comes first
  from-root : first_break t count count 0 ≡ first_break t count (count - 0) 0
  from-root = let e : count - 0 ≡ count = omega arith in rw e refl

  pub root-breaks : 0 < count → sound t count 0 ≡ false → first_break t count count 0 ≡ some 0
  root-breaks h e = from-root ∙ breaks 0 h e

  pub root-passes : 0 < count → sound t count 0 ≡ true → first_break t count count 0 ≡ first_break t count (count - 1) 1
  root-passes h e = from-root ∙ passes 0 h e

  pub root-up : sound t count 0 ≡ true → up t 0 ≡ 0
  root-up h = eqb-true (up t 0) 0 (passed (eqb (up t 0) 0 ∷ eqb (tag t 0) 0 ∷ eqb (num t 0) 0 ∷ eqb (sib t 0) 0 ∷ links t count 0 ∷ shifts t 0 ∷ []) h 0)

  pub begins : 0 < count → up t 0 ≡ 0 → Passing t count 1 0
  begins h e = record {
    below = omega arith;
    rest = refl;
    falls = record { size = omega arith; root-up = e; ups = λ v a b. absurd (omega arith) };
    before = refl;
  }

  -- a node after the root that stands behind those that passed
  module _ (v deep : ℕ) (p : Passing t count v deep) where
    pub done : count ≤ v → first_break t count (count - 1) 1 ≡ none
    done h = let e : count - v ≡ 0 = omega arith in sym (rw e at p.rest)

    module _ (v< : v < count) where
      abbrev other : (v ≡ 0 → ⊥)
      other e = omega (arith, p.falls.size)

      pub high-breaks : v ≤ up t v → first_break t count (count - 1) 1 ≡ some v
      high-breaks h = sym p.rest ∙ breaks v v< (rw (ne_eqb v 0 other, sound, le-ltb (up t v) v h) refl)

      module _ (low : up t v < v) where
        pub falls-on : Falling t (v + 1)
        falls-on = record {
          size = omega arith;
          root-up = p.falls.root-up;
          ups = λ w a b. below_suc w v (omega arith) (λ h. p.falls.ups w a h) (λ e. rw e low);
        }

        module _ (d : ℕ) (d≡ : d ≡ depth t v) where
          pub deep-breaks : max_depth < d → first_break t count (count - 1) 1 ≡ some v
          deep-breaks h = sym p.rest ∙ breaks v v< (rw (ne_eqb v 0 other, sound, lt-ltb (up t v) v low, lt-leb (depth t v) max_depth (omega arith)) refl)

          pub stands : d ≤ max_depth → Standing t count v d
          stands h = record { below = v<; rest = p.rest; falls = falls-on; deep-at = d≡; near = h; past = omega (arith, p.falls.size) }

  module _ (v deep : ℕ) (p : Standing t count v deep) where
    -- what is left to test of it
    own : sound t count v ≡ own_sound t count v
    own = rw (
      ne_eqb v 0 (λ e. omega (arith, p.past)),
      sound,
      lt-ltb (up t v) v (p.falls.ups v p.past (omega arith)),
      le-leb (depth t v) max_depth (omega (arith, p.deep-at, p.near)),
    ) refl

    pub own-breaks : own_sound t count v ≡ false → first_break t count (count - 1) 1 ≡ some v
    own-breaks h = sym p.rest ∙ breaks v p.below (own ∙ h)

    pub again : own_sound t count v ≡ true → Passing t count (v + 1) deep
    again h = record {
      below = omega (arith, p.below);
      rest = sym (passes v p.below (own ∙ h)) ∙ p.rest;
      falls = p.falls;
      before = let e : v + 1 - 1 ≡ v = omega arith in rw e p.deep-at;
    }

    -- on to the next node, its first child
    module _ (l : Chained t count v) (h : v + 1 < count) where
      chained-own : own_sound t count v ≡ true
      chained-own = rw (
        le-leb (num t v) max_number l.few,
        l.child,
        ne_eqb (v + 1) 0 (λ e. omega arith),
        lt-ltb v (v + 1) (omega arith),
        lt-ltb (v + 1) count h,
        eq-eqb (up t (v + 1)) v l.back,
        l.aside,
        l.near,
      ) refl

      next-falls : Falling t (v + 1 + 1)
      next-falls = record {
        size = omega arith;
        root-up = p.falls.root-up;
        ups = λ w a b. below_suc w (v + 1) (omega arith) (λ k. p.falls.ups w a k) (λ e. rw e (omega (arith, l.back)));
      }

      stand-on : deep < max_depth → Standing t count (v + 1) (deep + 1)
      stand-on k = record {
        below = h;
        rest = sym (passes v p.below (own ∙ chained-own)) ∙ p.rest;
        falls = next-falls;
        deep-at = omega (arith, p.deep-at, (depth-up t (v + 1) v next-falls (λ e. omega arith) (sym l.back)).1);
        near = omega arith;
        past = omega arith;
      }

  stands_on : (n v deep : ℕ) → Standing t count v deep → Chain t count v (v + n) → v + n < count → deep + n ≤ max_depth
      → Standing t count (v + n) (deep + n)
  stands_on zero v deep p c h k =
      let e : v + 0 ≡ v = omega arith in
      let d : deep + 0 ≡ deep = omega arith in
      rw (e, d) p
  stands_on (suc n) v deep p c h k =
      let e : v + suc n ≡ v + 1 + n = omega arith in
      let d : deep + suc n ≡ deep + 1 + n = omega arith in
      rw (e, d) (stands_on n (v + 1) (deep + 1)
      (stand-on v deep p (c.each v (omega arith) (omega arith)) (omega arith) (omega arith))
      (record { upward = omega arith; each = λ w a b. c.each w (omega arith) (omega arith) }) (omega arith) (omega arith))

  pub stands-end : (v w deep : ℕ) → Standing t count v deep → Chain t count v w → w < count → deep + (w - v) ≤ max_depth
      → Standing t count w (deep + (w - v))
  stands-end v w deep p c h k =
      let e : v + (w - v) ≡ w = omega (arith, c.upward) in
      rw e at (stands_on (w - v) v deep p (rw e c) (rw e h) k)
