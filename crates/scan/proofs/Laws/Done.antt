-- Carrying on when done, with no hit left, answers done and changes no part of the state, over any tables and from any state that is not
-- refused.
use Rattle.std.specs.Prelude.{ℕ, zero, suc, ◌≤◌, ◌<◌, ◌≡◌, false}
use Rattle.std.proofs.Common.{arith, ap, ◌∙◌, lt-ltb}
use Rattle.std.proofs.Math.Option.{none}
use Rattle.rules.specs.Rules.{finished, next}
use Rattle.tables.specs.Tables.{Tables}
use Rattle.scan.specs.declared.Scan.{Scan}
use Rattle.scan.specs.State.{config_of, tree_of}
use Rattle.scan.specs.Calls.{over, settle, enough, judged, carry_on}
use Rattle.scan.proofs.Laws.Settle.{on_judged}

pub done-stays : (t : Tables) (s : Scan) → judged t s false ≡ none → s.image < s.boundary → s.hit ≡ 0
    → carry_on t s ≡ record { state = s; answer = over }
done-stays t s e h z = ap (on_judged s (settle t (enough s) s)) e ∙ settles (enough s) (omega arith)
  where
    settles : (fuel : ℕ) → 1 ≤ fuel → settle t fuel s ≡ record { state = s; answer = over }
    settles zero k = absurd (omega arith)
    settles (suc fuel) k =
        let ends : next (tree_of t s) s.image (config_of s) ≡ finished = cc (lt-ltb s.image s.boundary h) in
        rw (z, settle) (rw (ends, settle) (ap (λ h. record { state = record { image = s.image; shortest = s.shortest; count = s.count; boundary = s.boundary; node = s.node; depth = s.depth; stretches = s.stretches; supplied = s.supplied; spared = s.spared; due = s.due; end = s.end; hit = h }; answer = over }) z))
