-- The shifts of all nodes in place: an entry lowered, a walk of a word, and the way from the parents down.
use Rattle.std.specs.Prelude.{Option as Found, Some, None}
use Rattle.std.specs.Prelude.{ℕ, suc, ◌+◌, ◌-◌, ◌≤◌, ◌<◌, min, ◌≡◌, refl, Bool, List, [], ◌∷◌, reverse, length, get_or, take, set}
use Rattle.std.proofs.Common.{arith, ap, sym, ◌∙◌, lt-ltb, le-ltb}
use Rattle.std.proofs.Math.Option.{Option, some, none}
use Rattle.rules.specs.Options.{option_of}
use Rattle.rules.specs.Tokens.{shortened}
use Rattle.tables.specs.Tables.{Tables}
use Rattle.tables.specs.Walks.{child_by}
use Rattle.trie.specs.Answers.{tree_only}
use Rattle.trie.specs.InPlace.{reversed_if}
use Rattle.trie.specs.Filling.{Lows, lows, lowered, walked_at, handed_down, Walkable, head_at}
use Rattle.trie.proofs.Laws.Chain.{child-alike}
use Rattle.trie.proofs.Laws.Kids.{root_none, root-some}
use Rattle.trie.proofs.Laws.WordInPlace.{either-length, last-left}

module _ (l : List ℕ) (v s : ℕ) where
  pub lowered-not : get_or l v 0 ≤ s → l ≡ lowered l v s
  lowered-not h = cc (le-ltb s (get_or l v 0) h)

  pub lowered-set : s < get_or l v 0 → set l v s ≡ lowered l v s
  lowered-set h = cc (lt-ltb s (get_or l v 0) h)

-- The nodes from v on are still to come.
pub record Handing (parent : List ℕ) (count : ℕ) (l₀ l : Lows) (v : ℕ) : Type 0 where
  pub from : 1 ≤ v
  pub upto : v ≤ count
  pub rest : handed_down parent (count - v) v l ≡ handed_down parent (count - 1) 1 l₀

module _ {parent : List ℕ} {count : ℕ} {l₀ : Lows} {met whole : List ℕ} {v : ℕ} (i : Handing parent count l₀ (lows met whole) v) where
  pub handing-on : v < count → (low : ℕ) → low ≡ min (get_or whole v 0) (get_or whole (get_or parent v 0) 0) → (met' : List ℕ) → met' ≡ lowered met v low
      → Handing parent count l₀ (lows met' (set whole v low)) (v + 1)
  handing-on h low e met' f =
      let z : count - v ≡ suc (count - (v + 1)) = omega arith in
      record { from = omega arith; upto = omega arith; rest = rw (f, e) (rw z at i.rest) }

  pub handing-done : count ≤ v → lows met whole ≡ handed_down parent (count - 1) 1 l₀
  handing-done h = let z : count - v ≡ 0 = omega arith in rw z at i.rest

-- A step of a walk, and one that finds no child.
module _ (child : ℕ → ℕ → Option ℕ) (s v x : ℕ) (xs : List ℕ) (l : Lows) where
  step-on : (w : ℕ) → child v x ≡ some w → walked_at child s (x ∷ xs) v l ≡ walked_at child s xs w (lows (lowered l.met w s) l.whole)
  step-on w e = cc

  step-none : child v x ≡ none → walked_at child s (x ∷ xs) v l ≡ l
  step-none e = cc

-- The last byte of a word without its last s bytes, and the `left` bytes before it.
shortened-last : (word : List ℕ) (s left : ℕ) → s < length word → left ≡ length word - 1 - s
    → reverse (shortened word s) ≡ get_or word left 0 ∷ reverse (take left word)
shortened-last word s left h e =
    let z : left ≡ length word - s - 1 = omega arith in rw z (last-left word (length word - s) (omega arith) (omega arith))

-- The root's child for that byte, as the code reads it.
pub head_read : (kids : List ℕ) (b : Bool) (body : List ℕ) (s x : ℕ) → x ≡ get_or (reversed_if b body) (length body - 1 - s) 0
    → get_or kids x 0 ≡ head_at kids (reversed_if b body) s
head_read kids b body s x e = rw (e, either-length b body)

-- A walk at s: what is left of it, from here on, comes to `end`.
pub record Walking (tree : Tables) (count : ℕ) (word : List ℕ) (s : ℕ) (end l : Lows) (node left : ℕ) : Type 0 where
  pub held : node < count
  pub within : left ≤ length word
  pub rest : walked_at (child_by tree count) s (reverse (take left word)) node l ≡ end

module _ {tree : Tables} {count : ℕ} {kids met₀ whole₀ : List ℕ} (t : Walkable tree count kids met₀ whole₀) where
  abbrev child : ℕ → ℕ → Option ℕ
  child = child_by tree count

  as-chains : (v x : ℕ) → child v x ≡ child_by (tree_only [] tree.label [] tree.first tree.next) count v x
  as-chains = child-alike tree (tree_only [] tree.label [] tree.first tree.next) refl refl refl count

  -- The first node, by the last byte that is left.
  module _ (word : List ℕ) (s left : ℕ) (h : s < length word) (at : left ≡ length word - 1 - s) (x : ℕ) (is : x ≡ get_or word left 0) (byte : x < 256) where
    last-is : reverse (shortened word s) ≡ x ∷ reverse (take left word)
    last-is = rw is (shortened-last word s left h at)

    -- There is none: the walk changes nothing.
    pub walk-still : get_or kids x 0 ≡ 0 → (l : Lows) → walked_at child s (reverse (shortened word s)) 0 l ≡ l
    walk-still e l =
        rw last-is (step-none child s 0 x (reverse (take left word)) l (as-chains 0 x ∙ root_none t.heads x byte e))

    module _ (w : ℕ) (to : w ≡ get_or kids x 0) (d : w ≡ 0 → ⊥) where
      pub walk-head : w < count
      walk-head = t.below 0 x w t.some-node (as-chains 0 x ∙ root-some t.heads x byte w to d)

      pub walk_first : (met : List ℕ) → met ≡ lowered met₀ w s
          → walked_at child s (reverse (take left word)) w (lows met whole₀)
          ≡ walked_at child s (reverse (shortened word s)) 0 (lows met₀ whole₀)
      walk_first met e =
          sym (rw (last-is, e) (step-on child s 0 x (reverse (take left word)) (lows met₀ whole₀) w (as-chains 0 x ∙ root-some t.heads x byte w to d)))

  module _ {word : List ℕ} {s : ℕ} {end : Lows} {met whole : List ℕ} {node left : ℕ} (i : Walking tree count word s end (lows met whole) node left) where
    pub walk-done : left ≡ 0 → (whole' : List ℕ) → whole' ≡ lowered whole node s → lows met whole' ≡ end
    walk-done e whole' q = rw q (rw e at i.rest)

    module _ (h : left ≡ 0 → ⊥) (x : ℕ) (is : x ≡ get_or word (left - 1) 0) (k : Found ℕ) (found : option_of k ≡ child node x) where
      last : reverse (take left word) ≡ x ∷ reverse (take (left - 1) word)
      last = rw is (last-left word left (omega arith) i.within)

      pub walk-stops : k ≡ None → lows met whole ≡ end
      walk-stops e = sym (step-none child s node x (reverse (take (left - 1) word)) (lows met whole) (sym found ∙ ap option_of e)) ∙ rw last at i.rest

      module _ (v : ℕ) (e : k ≡ Some v) where
        pub walk-child : v < count
        walk-child = t.below node x v i.held (sym found ∙ ap option_of e)

        pub walk-on : (met' : List ℕ) → met' ≡ lowered met v s → Walking tree count word s end (lows met' whole) v (left - 1)
        walk-on met' q = record {
          held = walk-child;
          within = omega (arith, i.within);
          rest = rw q (sym (step-on child s node x (reverse (take (left - 1) word)) (lows met whole) v (sym found ∙ ap option_of e)) ∙ rw last at i.rest);
        }
