-- The call in turn after each answer settles: a byte after a place to fetch, carrying on after a hit.
use Rattle.std.specs.Prelude.{ℕ, suc, ◌+◌, ◌≡◌, refl, Bool, true, false, List, ◌∷◌}
use Rattle.std.proofs.Common.{sym, subst}
use Rattle.rules.proofs.Laws.Tests.{clash}
use Rattle.tables.specs.Tables.{Tables}
use Rattle.scan.specs.Calls.{Answer, fetch, found, Stepped, carry_on, supply}
use Rattle.scan.specs.Within.{Left}
use Rattle.scan.proofs.Laws.Bill.{Plan, capped}
use Rattle.scan.proofs.Laws.Walk.{Given}
use Rattle.scan.proofs.Laws.Range.{state_at}
use Rattle.scan.proofs.Laws.Settle.{Todo, Settled, carry-settles, supply-settles}

module _ {tokens : List (List ℕ)} {S D : ℕ} {t : Tables} {count n : ℕ} (given : Given tokens S D t count n) (ask : ℕ → ℕ → ℕ) where
  pub fetch-settles : (k p : ℕ) (todo : List Answer) (bill : ℕ → ℕ) (r : Stepped) → Settled given ask k (fetch p ∷ todo, bill) r
      → Settled given ask (k + 1) (todo, λ i. bill (suc i)) (supply t r.state (ask k p))
  fetch-settles k p todo bill r z =
      subst (λ r. Settled given ask (k + 1) rest (supply t r.state (ask k p))) (sym z.is) (go z.due z.turn z.owes z.rest)
    where
      rest : Plan
      rest = (todo, λ i. bill (suc i))

      go : (due : Bool) → true ≡ due → Left t count n S z.config due z.end z.hit → Todo given ask k (bill 0) due z.config z.end z.hit rest
          → Settled given ask (k + 1) rest (supply t (state_at n S count z.config due k (capped (bill 0)) z.end z.hit) (ask k p))
      go true e l f =
          let same : f.0 ≡ p = cc (f.2, z.wanted p refl) in
          subst (λ at. Settled given ask (k + 1) rest (supply t (state_at n S count z.config true k (capped (bill 0)) z.end z.hit) (ask k at))) same
          (supply-settles given ask z.config k (bill 0) z.end z.hit z.sat rest f l)
      go false e l f = absurd (clash false (sym e) refl)

  pub hit-settles : (k e i : ℕ) (todo : List Answer) (bill : ℕ → ℕ) (r : Stepped) → Settled given ask k (found e i ∷ todo, bill) r
      → Settled given ask k (todo, λ i. bill (suc i)) (carry_on t r.state)
  hit-settles k e i todo bill r z =
      subst (λ r. Settled given ask k rest (carry_on t r.state)) (sym z.is) (go z.due z.turn z.owes z.rest)
    where
      rest : Plan
      rest = (todo, λ i. bill (suc i))

      go : (due : Bool) → false ≡ due → Left t count n S z.config due z.end z.hit → Todo given ask k (bill 0) due z.config z.end z.hit rest
          → Settled given ask k rest (carry_on t (state_at n S count z.config due k (capped (bill 0)) z.end z.hit))
      go true e l f = absurd (clash true refl (sym e))
      go false e l f = carry-settles given ask z.config k (bill 0) z.end z.hit z.sat rest f l
