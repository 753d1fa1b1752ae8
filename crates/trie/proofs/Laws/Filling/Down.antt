-- Handing down: each node's `whole` becomes the lesser of its own and its parent's, and its `met` is lowered to that.
use Rattle.std.specs.Prelude.{ℕ, zero, suc, ◌+◌, ◌≤◌, ◌<◌, min, ◌≡◌, List, get_or, set}
use Rattle.std.proofs.Common.{arith, subst, ◌∙◌, get_or-set_other}
use Rattle.rules.proofs.Laws.Tests.{split}
use Rattle.trie.specs.Filling.{Lows, lows, lowered, handed_down}
use Rattle.trie.proofs.Laws.Filling.Walk.{set-low, lowered-same, lowered-other, Front, front-lowered}

-- the two entries of a node
abbrev pub Entries : Lows → ℕ → ℕ → ℕ → Type 0
Entries l u a b = (get_or l.met u 0 ≡ a) × (get_or l.whole u 0 ≡ b)

-- A node's `met` and `whole` are m and w before, and f and g when it is handed down.
module _ (n : ℕ) (parent met : List ℕ) (m w f g : ℕ → ℕ) where
  -- the nodes below v are done
  pub record Stage (v : ℕ) (l : Lows) : Type 0 where
    pub done : (u : ℕ) → u < v → Entries l u (f u) (g u)
    pub rest : (u : ℕ) → v ≤ u → u < n → Entries l u (m u) (w u)
    pub front : Front n met l.met

  module _ (ups : (v : ℕ) → 0 < v → v < n → get_or parent v 0 < v) (wholes : (v : ℕ) → 0 < v → v < n → g v ≡ min (w v) (g (get_or parent v 0)))
      (mets : (v : ℕ) → 0 < v → v < n → f v ≡ min (m v) (g v)) where
    pub downs : (many v : ℕ) (l : Lows) → 0 < v → v + many ≡ n → Stage v l → Stage n (handed_down parent many v l)
    downs zero v l a e s = let z : v ≡ n = omega arith in subst (λ v. Stage v l) z s
    downs (suc many) v l a e s =
        let p = get_or parent v 0 in
        let low = min (get_or l.whole v 0) (get_or l.whole p 0) in
        let own = s.rest v (omega arith) (omega arith) in
        let is : low ≡ g v = omega (arith, own.1, (s.done p (ups v a (omega arith))).1, wholes v a (omega arith)) in
        let next = lows (lowered l.met v low) (set l.whole v low) in
        let other : (u a b : ℕ) → (u ≡ v → ⊥) → Entries l u a b → Entries next u a b =
        λ u a b d q. (lowered-other l.met v low u d ∙ q.0, get_or-set_other l.whole v u low 0 d ∙ q.1) in
        downs many (v + 1) next (omega arith) (omega arith) (record {
          done = λ u h. split u v
              (λ z. rw z (lowered-same l.met v low ∙ omega (arith, own.0, mets v a (omega arith)), set-low l.whole v low (omega arith) ∙ is))
              (λ d. other u (f u) (g u) d (s.done u (omega arith)));
          rest = λ u h k. other u (m u) (w u) (λ z. omega arith) (s.rest u (omega arith) k);
          front = front-lowered n met l.met v low (omega arith) s.front;
        })
