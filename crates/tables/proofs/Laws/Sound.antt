-- No node of the built tables breaks them: refusal 9 does not come.
use Rattle.std.specs.Prelude.{ℕ, zero, suc, ◌+◌, ◌≤◌, ◌<◌, ◌≡◌, refl, true, List, eqb, length, get_or}
use Rattle.std.proofs.Common.{arith, ap, eqb-true, eq-eqb, lt-ltb, le-leb, le-ltb}
use Rattle.std.proofs.Math.Option.{none}
use Rattle.std.proofs.lemmas.Bool.{eqb-false}
use Rattle.book.specs.Book.{max_body}
use Rattle.rules.proofs.Laws.Tests.{decide, or_r, split}
use Rattle.tables.specs.Tables.{Tables, shortest_table}
use Rattle.tables.specs.Walks.{ending, depth}
use Rattle.tables.specs.Broken.{max_number, max_shift, linked, links, shifts, sound, first_break, broken, max_depth}
use Rattle.tables.specs.Shape.{up, head, sib, Shape, num}
use Rattle.tables.proofs.Laws.WordsAdded.{Facts}
use Rattle.tables.proofs.Laws.Numbering.{Numbering}
use Rattle.tables.proofs.Laws.Nodes.{deep, token}

linked-true : (t : Tables) (n v at p : ℕ) → (0 < at → (v < at) × (at < n) × (up t at ≡ p)) → linked t n v at p ≡ true
linked-true t n v at p f = or_r (eqb at 0) _ (λ e.
    let q = f (omega (arith, eqb-false at 0 e)) in
    cc (lt-ltb v at q.0, lt-ltb at n q.1, eq-eqb (up t at) p q.2))

module _ (ws : List (List ℕ)) (number : List ℕ → ℕ) (t : Tables) (n : ℕ) (fs : Facts ws number (length ws) t n) (ns : Numbering ws number)
    (near : (v : ℕ) → v < n → (1 ≤ get_or t.shift v 0) × (get_or t.shift v 0 ≤ max_shift)) where
  s : Shape t n
  s = fs.shape

  root-num : num t 0 ≡ 0
  root-num = split (num t 0) 0 (λ z. z)
      (λ d. let q = fs.word 0 s.size (omega arith) in absurd (omega (arith, ns.each q.0 q.1, ap length q.2)))

  links-true : (v : ℕ) → v < n → links t n v ≡ true
  links-true v h = cc (
    linked-true t n v (head t v) v (λ a. let q = (s.heads v h).node a in (omega (arith, s.ups (head t v) q.0 q.1, q.2), q.1, q.2)),
    linked-true t n v (sib t v) (up t v) (λ a. split v 0
        (λ e. absurd (omega (arith, s.root-sib, ap (sib t) e)))
        (λ e. (s.sibs v (omega arith) h).node a)),
  )

  shifts-true : (v : ℕ) → v < n → shifts t v ≡ true
  shifts-true v h = cc (le-leb 1 (get_or t.shift v 0) (near v h).0, le-leb (get_or t.shift v 0) max_shift (near v h).1)

  sound-true : (v : ℕ) → v < n → sound t n v ≡ true
  sound-true v h = decide (λ b. b ≡ true) (eqb v 0) _ _
      (λ e. let z = eqb-true v 0 e in
      cc (s.root-up, s.root-tag, root-num, s.root-sib, links-true v h, shifts-true v h))
      (λ e. let a : 0 < v = omega (arith, eqb-false v 0 e) in
      cc (
        lt-ltb (up t v) v (s.ups v a h),
        le-leb (depth t v) max_depth (omega (arith, deep ws number t n fs max_body (λ j k. (ns.each j k).1) v h)),
        le-leb (num t v) max_number (omega (arith, token ws number t n fs ns v h, ns.most (ending t v))),
        links-true v h,
        shifts-true v h,
      ))

  unbroken : (fuel v : ℕ) → v + fuel ≤ n → first_break t n fuel v ≡ none
  unbroken zero v h = refl
  unbroken (suc fuel) v h = cc (sound-true v (omega arith), unbroken fuel (v + 1) (omega arith))

  pub fine : n ≤ shortest_table t → broken t n ≡ none
  fine h = cc (le-ltb (shortest_table t) n h, unbroken n 0 (omega arith))
