-- The rules' words, with each node put through a function.
use Rattle.std.specs.Prelude.{ℕ, zero, suc, ◌≡◌, refl, Bool, true, false, List, [], ◌∷◌, ◌++◌, length}
use Rattle.rules.specs.Rules.{Stretch, Config, Event, fetched, recalled, hit, shifted, done, Step, Next, finished, wants, goes, cut, hit_at}
use Rattle.rules.specs.Lists.{select}
use Rattle.rules.specs.Stretches.{stretch_of, stretches_of}

module _ {E F : Type 0} (f : E → F) where
  abbrev pub config_of : Config E → Config F
  config_of c = record { boundary = c.boundary; node = f c.node; depth = c.depth; stretches = stretches_of f c.stretches }

  abbrev pub event_of : Event E → Event F
  event_of (fetched p) = fetched p
  event_of (recalled p) = recalled p
  event_of (hit e i) = hit e i
  event_of (shifted b ss) = shifted b (stretches_of f ss)
  event_of done = done

  abbrev pub events_of : List (Event E) → List (Event F)
  events_of [] = []
  events_of (e ∷ es) = event_of e ∷ events_of es

  abbrev pub step_of : Step E → Step F
  step_of s = record { events = events_of s.events; config = config_of s.config }

  abbrev pub next_of : Next E → Next F
  next_of finished = finished
  next_of (wants at) = wants at
  next_of (goes s) = goes (step_of s)

  pub stretches-append : (a b : List (Stretch E)) → stretches_of f (a ++ b) ≡ stretches_of f a ++ stretches_of f b
  stretches-append [] b = refl
  stretches-append (s ∷ a) b = cc (stretches-append a b)

  pub stretches-length : (a : List (Stretch E)) → length (stretches_of f a) ≡ length a
  stretches-length [] = refl
  stretches-length (s ∷ a) = cc (stretches-length a)

  pub stretches-select : (p : Stretch E → Bool) (q : Stretch F → Bool) → ((s : Stretch E) → q (stretch_of f s) ≡ p s) → (ss : List (Stretch E))
      → select q (stretches_of f ss) ≡ stretches_of f (select p ss)
  stretches-select p q h [] = refl
  stretches-select p q h (s ∷ ss) = go (p s) (h s) (stretches-select p q h ss)
    where
      go : (b : Bool) → q (stretch_of f s) ≡ b → select q (stretches_of f ss) ≡ stretches_of f (select p ss)
          → select q (stretches_of f (s ∷ ss)) ≡ stretches_of f (elim b [ true ↦ s ∷ select p ss | false ↦ select p ss ])
      go true e ih = cc
      go false e ih = cc

  pub stretches-cut : (from : ℕ) (ss : List (Stretch E)) → cut from (stretches_of f ss) ≡ cut from ss
  stretches-cut from [] = refl
  stretches-cut from (s ∷ ss) = cc (stretches-cut from ss)

  pub events-append : (a b : List (Event E)) → events_of (a ++ b) ≡ events_of a ++ events_of b
  events-append [] b = refl
  events-append (e ∷ a) b = cc (events-append a b)

  pub events-hit : (end t : ℕ) → events_of (hit_at end t) ≡ hit_at end t
  events-hit end zero = refl
  events-hit end (suc t) = refl
