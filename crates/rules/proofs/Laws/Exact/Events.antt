-- What the events from a configuration on must say, and how an event in front changes that.
use Rattle.std.specs.Prelude.{ℕ, zero, suc, ◌≤◌, ◌<◌, ◌≡◌, length, get_or}
use Rattle.std.proofs.Common.{arith, sym, ◌∙◌}
use Rattle.std.proofs.Math.Decide.{ℕ_discrete}
use mathlib.Core.List.{List, [], ◌∷◌, Memᴰ}
use Rattle.rules.specs.Rules.{Event, hit, done}
use Rattle.rules.specs.Sweep.{hits, Stands, length_of, Ordered}
use Rattle.rules.specs.Setting.{Setting}
use Rattle.rules.specs.Configs.{byte_of}
use Rattle.rules.specs.Lists.{All}
use Rattle.rules.proofs.Laws.Words.{word-shared}
use Rattle.rules.proofs.Laws.Exact.Reads.{reads-eq, standing, stands-long, stands→reads}
use Rattle.rules.proofs.Laws.All.{all_map, all-mem}

module _ (tokens : List (List ℕ)) where
  -- a hit that is still to come: at a later end, or at this one with a token of fewer than d bytes
  abbrev pub Later : ℕ → ℕ → ℕ × ℕ → Type 0
  Later b d h = (b ≤ h.0) × (h.0 ≤ b → length_of tokens h.1 < d)

  module _ (image : List ℕ) where
    abbrev pub Real : ℕ → ℕ → Type 0
    Real e zero = ⊥
    Real e (suc i) = Stands tokens image e i

    -- the events from boundary b on, where of the hits with that end those with tokens of fewer than d bytes are left
    pub record Good (b d : ℕ) (es : List (Event (List ℕ))) : Type 0 where
      pub sound : All (λ h. Real h.0 h.1 × Later b d h) (hits es)
      pub complete : (i e : ℕ) → Stands tokens image e i → Later b d (e, suc i) → Memᴰ (e, suc i) (hits es)
      pub ordered : Ordered tokens (hits es)

    pub good-done : (b d : ℕ) → length image < b → Good b d (done ∷ [])
    good-done b d h = record { sound = tt; complete = λ i e s l. absurd (omega (arith, s.inside, l.0)); ordered = tt }

    -- an event that is no hit
    pub good-event : (b d : ℕ) (x : Event (List ℕ)) (es : List (Event (List ℕ))) → hits (x ∷ es) ≡ hits es → Good b d es → Good b d (x ∷ es)
    good-event b d x es e g = record {
      sound = rw e g.sound;
      complete = λ i f s l. rw e (g.complete i f s l);
      ordered = rw e g.ordered;
    }

    pub good-weaken : (b d b' d' : ℕ) (es : List (Event (List ℕ)))
        → ((i e : ℕ) → Stands tokens image e i → Later b d (e, suc i) → Later b' d' (e, suc i))
        → ((h : ℕ × ℕ) → Later b' d' h → Later b d h)
        → Good b' d' es → Good b d es
    good-weaken b d b' d' es f back g = record {
      sound = all_map _ _ (λ h r. (r.0, back h r.1)) (hits es) g.sound;
      complete = λ i e s l. g.complete i e s (f i e s l);
      ordered = g.ordered;
    }

    module _ {S D : ℕ} (setting : Setting tokens S D) where
      -- Two tokens of one length that stand at one place are the same.
      pub stands_same : (e i j : ℕ) → Stands tokens image e i → Stands tokens image e j → length (get_or tokens i []) ≡ length (get_or tokens j [])
          → i ≡ j
      stands_same e i j s q l =
          let u : standing tokens image e i ≡ standing tokens image e j =
          reads-eq (byte_of image) _ _ e (stands→reads tokens image e i s) (stands→reads tokens image e j q)
          (stands-long tokens image e i s ∙ l ∙ sym (stands-long tokens image e j q)) in
          setting.distinct i j s.numbered q.numbered
          (word-shared (standing tokens image e i) (get_or tokens i []) (get_or tokens j []) s.bytes (rw u q.bytes))

      pub good-hit : (b i : ℕ) (es : List (Event (List ℕ))) → Stands tokens image b i → let d = length (get_or tokens i []) in
          Good b d es → Good b (suc d) (hit b (suc i) ∷ es)
      good-hit b i es s g = record {
        sound = ((s, (omega arith, λ _. omega arith)), all_map _ _ (λ h r. (r.0, (r.1.0, λ k. omega (arith, r.1.1 k)))) (hits es) g.sound);
        complete = λ j e q l. found j e q l (ℕ_discrete e b) (ℕ_discrete (length (get_or tokens j [])) (length (get_or tokens i [])));
        ordered = (λ h m. (all-mem _ h (hits es) g.sound m).1, g.ordered);
      }
        where
          found : (j e : ℕ) → Stands tokens image e j → Later b (suc (length (get_or tokens i []))) (e, suc j) → Dec (e ≡ b)
              → Dec (length (get_or tokens j []) ≡ length (get_or tokens i [])) → Memᴰ (e, suc j) ((b, suc i) ∷ hits es)
          found j e q l (yes x) (yes y) =
              let same : j ≡ i = stands_same b j i (rw x at q) s y in
              let eq : ◌≡◌ {A = ℕ × ℕ} (e, suc j) (b, suc i) = cc in
              Memᴰ.head eq
          found j e q l (yes x) (no y) = let t = l.1 (omega arith) in Memᴰ.tail (g.complete j e q (omega arith, λ _. omega arith))
          found j e q l (no x) y = Memᴰ.tail (g.complete j e q (l.0, λ k. absurd (omega (arith, l.0))))
