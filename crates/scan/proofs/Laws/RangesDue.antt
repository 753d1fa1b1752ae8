-- When the rules fetch a byte: what they ask of a stretch is only whether it has the place.
use Prim.Native.Nat.{ℕ, ◌-◌}
use mathlib.Core.Path.{◌≡◌, refl}
use mathlib.Core.Bool.{Bool, true, false, ◌&&◌, ◌||◌, not}
use mathlib.Core.List.{List, [], ◌∷◌}
use mathlib.Core.Option.{Option, some, none}
use lib.Dec.{ltb, eqb}
use lib.ListN.{get_or}
use Rattle.rules.specs.Lists.{any_of}
use Rattle.rules.specs.Rules.{Tree, Stretch, Config, finished, goes, place, recall, end_round, look, next}
use Rattle.tables.specs.Tables.{Tables}
use Rattle.scan.specs.declared.Scan.{Scan}
use Rattle.scan.specs.State.{used, config_of, tree_of, wants_byte, due_ok}
use Rattle.scan.specs.Memory.{covers}

-- The rules are not done, the round goes on, and the place is in no stretch.
abbrev pub fetches : {E : Type 0} → Tree E → ℕ → Config E → Bool
fetches tree n c =
    not (ltb n c.boundary) && not (tree.leaf c.node || eqb c.depth c.boundary)
    && not (any_of (covers (place c)) c.stretches)

module _ {E : Type 0} (tree : Tree E) (c : Config E) where
  looked : (b r : Bool) (x : ℕ) (o : Option ℕ) → wants_byte (look tree c o) ≡ not r
      → wants_byte (look tree c (elim b [ true ↦ some x | false ↦ o ])) ≡ not (b || r)
  looked true r x o e = refl
  looked false r x o e = e

  recall-is : (at : ℕ) (ms : List (Stretch E)) → wants_byte (look tree c (recall tree ms at)) ≡ not (any_of (covers at) ms)
  recall-is at [] = refl
  recall-is at (m ∷ ms) = looked (covers at m) _ _ _ (recall-is at ms)

  told : (a b r : Bool) → wants_byte (look tree c (recall tree c.stretches (place c))) ≡ r
      → wants_byte {E = E} (elim a [
        | true ↦ finished
        | false ↦ elim b [ true ↦ goes (end_round tree c none) | false ↦ look tree c (recall tree c.stretches (place c)) ]
      ]) ≡ (not a && not b && r)
  told true b r e = refl
  told false true r e = refl
  told false false r e = e

  pub wants_is : (n : ℕ) → wants_byte (next tree n c) ≡ fetches tree n c
  wants_is n =
      told (ltb n c.boundary) (tree.leaf c.node || eqb c.depth c.boundary) _ (recall-is (place c) c.stretches)

-- A byte is due: the answer, from the tests.
pub due-tests : (t : Tables) (s : Scan) → s.due ≡ true → {a b d r : Bool}
    → ltb s.image s.boundary ≡ a → eqb (get_or t.first s.node 0) 0 ≡ b → eqb s.depth s.boundary ≡ d
    → any_of (covers (s.boundary - 1 - s.depth)) (used s.stretches) ≡ r
    → due_ok t s ≡ (not a && not (b || d) && not r)
due-tests t s due ea eb ed er = cc (wants_is (tree_of t s) (config_of s) s.image)
