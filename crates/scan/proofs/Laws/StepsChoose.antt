-- What comes next from a state, by the tests and the calls that find it.
use Prim.Native.Nat.{ℕ, ◌-◌, ◌≤◌, ◌<◌}
use mathlib.Core.Path.{◌≡◌, ap, sym, ◌∙◌}
use mathlib.Core.Bool.{true, false}
use borrow.Author.Tests.{lt-ltb, le-ltb, eq-eqb, ne_eqb}
use lib.Dec.{ltb, eqb}
use lib.ListN.{get_or}
use Rattle.rules.specs.Rules.{Tree, Config, place, stops, recall, look, next}
use Rattle.rules.proofs.Laws.Tests.{or_r}
use Rattle.tables.specs.Tables.{Tables}
use Rattle.scan.specs.declared.Scan.{Scan}
use Rattle.std.specs.Prelude.{Option, None}
use Rattle.rules.specs.Options.{option_of}
use Rattle.scan.specs.declared.steps.Move.TheVariants.{Finished, Wants, End}
use Rattle.scan.specs.State.{config_of, tree_of, used}
use Rattle.scan.specs.Steps.{Chosen}

-- A round that goes on looks at its next place.
goes_on : {E : Type 0} (tree : Tree E) (n : ℕ) (c : Config E) → ltb n c.boundary ≡ false → stops tree c ≡ false
    → next tree n c ≡ look tree c (recall tree c.stretches (place c))
goes_on tree n c i k = cc

module _ (t : Tables) (s : Scan) where
  pub over-is : s.image < s.boundary → Chosen t s Finished
  over-is h = cc (lt-ltb s.image s.boundary h)

  -- Rule 2: whether the round ends with no closing byte.
  pub leaf-stops : get_or t.first s.node 0 ≡ 0 → stops (tree_of t s) (config_of s) ≡ true
  leaf-stops h = rw (eq-eqb (get_or t.first s.node 0) 0 h)

  pub full-stops : s.depth ≡ s.boundary → stops (tree_of t s) (config_of s) ≡ true
  full-stops h = or_r (eqb (get_or t.first s.node 0) 0) _ (λ _. eq-eqb s.depth s.boundary h)

  pub not-stops : (get_or t.first s.node 0 ≡ 0 → ⊥) → (s.depth ≡ s.boundary → ⊥) → stops (tree_of t s) (config_of s) ≡ false
  not-stops h k = rw (ne_eqb (get_or t.first s.node 0) 0 h, ne_eqb s.depth s.boundary k)

  module _ (i : s.boundary ≤ s.image) where
    pub ends_is : stops (tree_of t s) (config_of s) ≡ true → Chosen t s End
    ends_is h = cc (le-ltb s.image s.boundary i, h)

    module _ (n : stops (tree_of t s) (config_of s) ≡ false) (k : Option ℕ)
        (is : option_of k ≡ recall (tree_of t s) (used s.stretches) (place (config_of s))) where
      looks : (j : Option ℕ) → k ≡ j → next (tree_of t s) s.image (config_of s) ≡ look (tree_of t s) (config_of s) (option_of j)
      looks j e =
          goes_on (tree_of t s) s.image (config_of s) (le-ltb s.image s.boundary i) n
          ∙ ap (look (tree_of t s) (config_of s)) (sym is ∙ ap option_of e)

      pub wants_is : k ≡ None → Chosen t s (Wants (s.boundary - 1 - s.depth))
      wants_is e = looks None e
