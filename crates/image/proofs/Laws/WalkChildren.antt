-- A child as the code finds it, by the labels, the first children and the siblings alone.
use Prim.Native.Nat.{ℕ, ◌<◌}
use mathlib.Core.Path.{◌≡◌, refl, ap, sym, ◌∙◌}
use mathlib.Core.List.{List, []}
use mathlib.Core.Option.{some, none}
use lib.ListN.{get_or}
use Rattle.tables.specs.Walks.{child_by}
use Rattle.std.specs.Prelude.{Option, Some}
use Rattle.rules.specs.Options.{option_of}
use Rattle.tables.specs.Tables.{Tables}
use Rattle.trie.specs.Answers.{tree_only}
use Rattle.trie.specs.Chain.{Kids}
use Rattle.trie.proofs.Laws.Chain.{along-alike}
use Rattle.trie.proofs.Laws.Kids.{root_none, root-some}
use Rattle.image.specs.Walk.{Walkable}

module _ (tables : Tables) (count : ℕ) where
  abbrev bare : Tables
  bare = tree_only [] tables.label [] tables.first tables.next

  child-bare : (v x : ℕ) → child_by tables count v x ≡ child_by bare count v x
  child-bare v x = along-alike tables bare refl refl x count (get_or tables.first v 0)

  -- a child that the code finds is the tree's
  pub child-in : (v x : ℕ) (k j : Option ℕ) → option_of k ≡ child_by tables count v x → k ≡ j → child_by tables count v x ≡ option_of j
  child-in v x k j is e = sym is ∙ ap option_of e

  pub child-below : Walkable tables count → (v x w : ℕ) → v < count → (k : Option ℕ)
      → option_of k ≡ child_by tables count v x → k ≡ Some w → w < count
  child-below t v x w h k is e = t.below v x w h (child-in v x k (Some w) is e)

  -- and so are the root's, by their labels
  module _ {kids : List ℕ} (k : Kids tables.label tables.first tables.next count kids) (x : ℕ) (byte : x < 256) where
    pub root-shut : get_or kids x 0 ≡ 0 → child_by tables count 0 x ≡ none
    root-shut e = child-bare 0 x ∙ root_none k x byte e

    pub root-child : (w : ℕ) → w ≡ get_or kids x 0 → (w ≡ 0 → ⊥) → child_by tables count 0 x ≡ some w
    root-child w e h = child-bare 0 x ∙ root-some k x byte w e h
