-- The sweep finds every token wherever it stands, and nothing else, each once and in their order; and it ends.
use Prim.Native.Nat.{ℕ, zero, suc, ◌+◌, ◌-◌, ◌*◌, ◌≤◌, ◌<◌}
use Rattle.std.proofs.Common.{arith, add-one, ltb-true}
use Rattle.std.specs.Prelude.{◌≡◌, refl, ◌&&◌, List, [], ◌∷◌, ltb, length, get_or}
use Rattle.std.proofs.Math.Option.{some, none}
use Rattle.std.proofs.lemmas.Bool.{not-false}
use Rattle.rules.specs.Rules.{Event, fetched, Config, Next, finished, wants, goes, fresh, next, follow, trace}
use Rattle.rules.specs.Lists.{any_of}
use Rattle.rules.specs.Words.{all_words}
use Rattle.rules.specs.Tokens.{ends, of_tokens, shortest_of, longest_of}
use Rattle.rules.specs.Sweep.{happens, hits, Stands, Once, Ordered, Occurrences, bytes_of}
use Rattle.rules.specs.Setting.{Setting}
use Rattle.rules.specs.Configs.{steps_left, byte_of, Inv}
use Rattle.rules.proofs.Laws.Tests.{decide, and_l}
use Rattle.rules.proofs.Laws.Endings.{ends-shorter}
use Rattle.rules.proofs.Laws.Words.{word-length, word_out}
use Rattle.rules.proofs.Laws.Limit.Ends.{steps-enough, Whole, Finite, sweep-ends}
use Rattle.rules.proofs.Laws.Exact.Shift.{shift-ge}
use Rattle.rules.proofs.Laws.All.{all-mem}
use Rattle.rules.proofs.Laws.Exact.Events.{Real, Good, good-done, good-event}
use Rattle.rules.proofs.Laws.Exact.Walk.{NextGood, next-good}
pub mod Reads
pub mod Shift
pub mod Configs
pub mod Events
pub mod Walk

-- The tokens' tree is finite: a child is longer by one byte, and no longer than the longest token.
pub tokens-finite : (tokens : List (List ℕ)) (S D : ℕ) → Setting tokens S D → Finite (of_tokens tokens S) length D
tokens-finite tokens S D setting = record {
  bare = refl;
  grows = λ u x w.
      decide (λ o. o ≡ some w → (length w ≡ suc (length u)) × (length w ≤ D)) (any_of (ends (x ∷ u)) (all_words tokens)) (some (x ∷ u)) none
      (λ t e.
      let z : w ≡ x ∷ u = cc in
      let r = word_out (ends (x ∷ u)) tokens t in
      let l = word-length r.word (get_or tokens r.number []) r.of in
      rw z (refl, omega (arith, ends-shorter (x ∷ u) r.word r.passes, setting.longest r.number r.inside)))
      (λ _ e. absurd (let z : ◌≡◌ {A = ℕ} 0 1 = cc in omega arith));
  inner = λ u e.
      let r = word_out (λ t. ltb (length u) (length t) && ends u t) tokens (not-false _ e) in
      let l = word-length r.word (get_or tokens r.number []) r.of in
      omega (arith, ltb-true (length u) (length r.word) (and_l _ _ r.passes), setting.longest r.number r.inside);
  moves = shift-ge (all_words tokens) S;
}

-- The events are those of a whole sweep whose hits are the occurrences.
pub record Exact (tokens : List (List ℕ)) (image : List ℕ) (es : List (Event (List ℕ))) : Type 0 where
  pub whole : Whole es
  pub occurrences : Occurrences tokens image (hits es)

module _ (tokens : List (List ℕ)) (S D : ℕ) (setting : Setting tokens S D) (image : List ℕ) where
  -- what happens from a configuration on, after k fetches
  abbrev Run : Type 0
  Run = ℕ → Config (List ℕ) → List (Event (List ℕ))

  -- what holds of it from any configuration on, with steps enough
  abbrev Enough : ℕ → Run → Type 0
  Enough fuel more = (k : ℕ) (c : Config (List ℕ)) → Inv (byte_of image) D c → steps_left (length image) D c.boundary c.depth < fuel
      → Good tokens image c.boundary (suc D) (more k c)

  follow-good : (fuel : ℕ) (more : Run) → Enough fuel more → (k : ℕ) (c : Config (List ℕ)) (x : Next (List ℕ))
      → NextGood tokens S D setting image c x → steps_left (length image) D c.boundary c.depth < suc fuel
      → Good tokens image c.boundary (suc D) (follow (of_tokens tokens S) (bytes_of image) more k c x)
  follow-good fuel more ih k c finished f h = good-done tokens image c.boundary (suc D) f
  follow-good fuel more ih k c (wants at) f h =
      good-event tokens image c.boundary (suc D) (fetched at) _ refl (f.back _ (ih (k + 1) _ f.inv (omega (arith, f.less))))
  follow-good fuel more ih k c (goes s) f h = f.back _ (ih k _ f.inv (omega (arith, f.less)))

  trace-good : (fuel : ℕ) → Enough fuel (trace (of_tokens tokens S) (length image) (bytes_of image) fuel)
  unfolding trace
  trace-good zero k c v h = absurd (omega arith)
  trace-good (suc fuel) k c v h =
      follow-good fuel _ (trace-good fuel) k c (next (of_tokens tokens S) (length image) c) (next-good tokens S D setting image c v) h

ordered-once : (tokens : List (List ℕ)) (l : List (ℕ × ℕ)) → Ordered tokens l → Once l
ordered-once tokens [] o = tt
ordered-once tokens (h ∷ l) o = ((λ m. let x = o.0 h m in omega (arith, x.1 (omega arith))), ordered-once tokens l o.1)

module _ (tokens : List (List ℕ)) (S D : ℕ) (setting : Setting tokens S D) (image : List ℕ) where
  real : (e i : ℕ) → Real tokens image e i → Stands tokens image e (i - 1) × (1 ≤ i)
  real e zero r = absurd r
  real e (suc i) r = let z : suc i - 1 ≡ i = omega arith in (rw z r, omega arith)

  good-exact : (es : List (Event (List ℕ))) → Whole es → Good tokens image S (suc D) es → Exact tokens image es
  good-exact es w g = record {
    whole = w;
    occurrences = record {
      sound = λ e i m. real e i (all-mem _ (e, i) (hits es) g.sound m).0;
      complete = λ e i s.
          let l = setting.shortest i s.numbered in
          rw add-one (g.complete i e s (omega (arith, s.fits), λ _. omega (arith, setting.longest i s.numbered)));
      once = ordered-once tokens (hits es) g.ordered;
      ordered = g.ordered;
    };
  }

  pub exact : (fuel : ℕ) → length image * (D + 1) < fuel
      → Exact tokens image (trace (of_tokens tokens S) (length image) (bytes_of image) fuel 0 (fresh (of_tokens tokens S) S))
  exact fuel h =
      good-exact _ (sweep-ends (of_tokens tokens S) length D (tokens-finite tokens S D setting) (length image) S setting.positive _ fuel h)
      (trace-good tokens S D setting image fuel 0 (fresh (of_tokens tokens S) S)
      (record { deep = refl; inside = omega arith; short = omega arith; reads = λ k k<. absurd (omega arith); holds = tt })
      (steps-enough (length image) D S fuel setting.positive h))

pub happens-exact : (tokens : List (List ℕ)) → Setting tokens (shortest_of tokens) (longest_of tokens) → (image : List ℕ)
    → Exact tokens image (happens tokens (length image) (bytes_of image))
unfolding happens
happens-exact tokens setting image = exact tokens (shortest_of tokens) (longest_of tokens) setting image _ (omega arith)
