-- The shape of tables with n nodes, and what their walks find: the children of a node, the last of them, a node's ending.
use Rattle.std.specs.Prelude.{ℕ, zero, suc, ◌+◌, ◌-◌, ◌≤◌, ◌<◌, ◌≡◌, refl, List, [], ◌∷◌, eqb, drop}
use Rattle.std.proofs.Common.{arith, ap, sym, ◌∙◌, eqb-true, eq-eqb, ne_eqb}
use Rattle.std.proofs.Math.Option.{Option, some, none}
use Rattle.std.proofs.lemmas.Bool.{eqb-false}
use Rattle.std.proofs.Math.Seq.{drop-nil}
use Rattle.rules.proofs.Laws.Tests.{decide, split}
use Rattle.tables.specs.Tables.{Tables}
use Rattle.tables.specs.Walks.{along, child_by, climb, ending, lifted}
use Rattle.tables.specs.Inserted.{last_of}
use Rattle.tables.specs.Shape.{up, tag, head, sib, Link, Shape, Falling}

-- tables are their six lists
pub alike : (t u : Tables) → t.parent ≡ u.parent → t.label ≡ u.label → t.token ≡ u.token → t.first ≡ u.first → t.next ≡ u.next
    → t.shift ≡ u.shift → t ≡ u
alike t u a b c d e f = λ i. record { parent = a i; label = b i; token = c i; first = d i; next = e i; shift = f i }

module _ (t : Tables) (n : ℕ) (s : Falling t n) where
  up_le : (v : ℕ) → v < n → up t v ≤ v - 1
  up_le v h = split v 0 (λ e. rw e (omega (arith, s.root-up))) (λ e. omega (arith, s.ups v (omega arith) h))

  -- enough fuel is enough
  climb-same : (f g v : ℕ) → v ≤ f → v ≤ g → v < n → climb t f v ≡ climb t g v
  climb-same zero zero v a b h = refl
  climb-same zero (suc g) v a b h = cc (eq-eqb v 0 (omega arith))
  climb-same (suc f) zero v a b h = cc (eq-eqb v 0 (omega arith))
  climb-same (suc f) (suc g) v a b h =
      cc (climb-same f g (up t v) (omega (arith, up_le v h)) (omega (arith, up_le v h)) (omega (arith, up_le v h)))

  pub way_step : (v : ℕ) → 0 < v → v < n → ending t v ≡ tag t v ∷ ending t (up t v)
  way_step zero a h = absurd (omega arith)
  way_step (suc v) a h =
      let l = s.ups (suc v) a h in
      cc (ne_eqb (suc v) 0 (λ e. omega arith), climb-same v (up t (suc v)) (up t (suc v)) (omega arith) (omega arith) (omega arith))

  pub way-lifts : (j v : ℕ) → v < n → (lifted t j v < n) × (ending t (lifted t j v) ≡ drop j (ending t v))
  way-lifts zero v h = (h, refl)
  way-lifts (suc j) v h = split v 0
      (λ e. let q = way-lifts j 0 s.size in
      rw (e, s.root-up) (q.0, q.1 ∙ drop-nil j))
      (λ e. let q = way-lifts j (up t v) (omega (arith, s.ups v (omega arith) h)) in
      (q.0, q.1 ∙ cc (way_step v (omega arith) h)))

-- the two tables say the same of the nodes below n
pub record Agree (t t' : Tables) (n : ℕ) : Type 0 where
  pub up_same : (v : ℕ) → v < n → up t' v ≡ up t v
  pub tag_same : (v : ℕ) → v < n → tag t' v ≡ tag t v

-- what a walk along the children of p after w finds for the label x
abbrev pub Found : Tables → ℕ → ℕ → ℕ → ℕ → Option ℕ → Type 0
Found t n p w x none = (u : ℕ) → w < u → u < n → up t u ≡ p → tag t u ≡ x → ⊥
Found t n p w x (some u) = (w < u) × (u < n) × (up t u ≡ p) × (tag t u ≡ x)

found-later : (t : Tables) (n p w r x : ℕ) (o : Option ℕ) → Link t n p w r → w < r → (tag t r ≡ x → ⊥) → Found t n p r x o → Found t n p w x o
found-later t n p w r x none l h d f = λ u a b c e.
    split u r (λ q. d (rw (← q) e)) (λ q. f u (omega (arith, l.least u a b c)) b c e)
found-later t n p w r x (some u) l h d f = (omega arith, f.1, f.2, f.3)

pub record Last (t : Tables) (n p u : ℕ) : Type 0 where
  pub above : 0 < u
  pub below : u < n
  pub child : up t u ≡ p
  pub ends : sib t u ≡ 0

module _ (t : Tables) (n : ℕ) (s : Shape t n) where
  pub along-found : (p x fuel w r : ℕ) → Link t n p w r → n ≤ w + fuel → Found t n p w x (along t x fuel r)
  along-found p x zero w r l h = λ u a b c e. omega arith
  along-found p x (suc fuel) w r l h =
      decide (Found t n p w x) (eqb r 0) none _
      (λ z u a b c e. omega (arith, l.least u a b c, eqb-true r 0 z))
      (λ z. let q = l.node (omega (arith, eqb-false r 0 z)) in
      decide (Found t n p w x) (eqb (tag t r) x) (some r) _
      (λ y. (q.0, q.1, q.2, eqb-true (tag t r) x y))
      (λ y. found-later t n p w r x (along t x fuel (sib t r)) l q.0 (eqb-false (tag t r) x y)
      (along-found p x fuel r (sib t r) (rw q.2 at (s.sibs r (omega (arith, q.0)) q.1)) (omega (arith, q.0)))))

  pub child-found : (v x : ℕ) → v < n → Found t n v 0 x (child_by t n v x)
  child-found v x h = along-found v x n 0 (head t v) (s.heads v h) (omega arith)

  pub last_found : (p fuel at : ℕ) → 0 < at → at < n → up t at ≡ p → n ≤ at + fuel → Last t n p (last_of t fuel at)
  last_found p zero at a b c h = absurd (omega arith)
  last_found p (suc fuel) at a b c h =
      decide (Last t n p) (eqb (sib t at) 0) at _
      (λ z. record { above = a; below = b; child = c; ends = eqb-true (sib t at) 0 z })
      (λ z. let q = (s.sibs at a b).node (omega (arith, eqb-false (sib t at) 0 z)) in
      last_found p fuel (sib t at) (omega (arith, q.0)) q.1 (q.2 ∙ c) (omega (arith, q.0)))

  pub falling : Falling t n
  falling = record { size = s.size; root-up = s.root-up; ups = s.ups }

  pub ending-step : (v : ℕ) → 0 < v → v < n → ending t v ≡ tag t v ∷ ending t (up t v)
  ending-step = way_step t n falling

  pub ending-nil : (v : ℕ) → v < n → ending t v ≡ [] → v ≡ 0
  ending-nil v h e = split v 0 (λ z. z) (λ z. absurd (let q : ◌≡◌ {A = ℕ} 0 1 = cc (ending-step v (omega arith) h) in omega arith))

  pub ending-cons : (v x : ℕ) (u : List ℕ) → v < n → ending t v ≡ x ∷ u → (0 < v) × (tag t v ≡ x) × (ending t (up t v) ≡ u)
  ending-cons zero x u h e = absurd (let q : ◌≡◌ {A = ℕ} 0 1 = cc in omega arith)
  ending-cons (suc v) x u h e = let q = ending-step (suc v) (omega arith) h in (omega arith, cc, cc)

  -- endings tell nodes apart
  ending-apart' : (f v w : ℕ) → v ≤ f → v < n → w < n → ending t v ≡ ending t w → v ≡ w
  ending-apart' zero v w k a b e =
      let z : v ≡ 0 = omega arith in
      cc (ending-nil w b (sym e ∙ ap (ending t) z))
  ending-apart' (suc f) v w k a b e =
      split v 0 (λ z. cc (ending-nil w b (sym e ∙ ap (ending t) z)))
      (λ z. let q = ending-cons w (tag t v) (ending t (up t v)) b (sym e ∙ ending-step v (omega arith) a) in
      let l = s.ups v (omega arith) a in
      s.apart v w (omega arith) q.0 a b
      (ending-apart' f (up t v) (up t w) (omega arith) (omega arith) (omega (arith, s.ups w q.0 b)) (sym q.2))
      (sym q.1))

  pub ending-apart : (v w : ℕ) → v < n → w < n → ending t v ≡ ending t w → v ≡ w
  ending-apart v w a b e = ending-apart' v v w (omega arith) a b e

  pub ending-same : (t' : Tables) → Agree t t' n → (v : ℕ) → v < n → ending t' v ≡ ending t v
  ending-same t' g v h = go v v h
    where
      go : (f v : ℕ) → v < n → climb t' f v ≡ climb t f v
      go zero v h = refl
      go (suc f) v h =
          let e = g.up_same v h in
          cc (g.tag_same v h, go f (up t v) (omega (arith, up_le t n falling v h)))
