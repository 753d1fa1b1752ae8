-- The root's children by label: the walk that gathers them, and what an entry says.
use Rattle.std.specs.Prelude.{ℕ, zero, suc, ◌-◌, ◌<◌, ◌≡◌, refl, List, [], length, get_or, set, replicate}
use Rattle.std.proofs.Common.{arith, ap, sym, ◌∙◌, eq-eqb, ne_eqb, length-set, get_or-set_same, get_or-set_other}
use Rattle.std.proofs.Math.Option.{Option, some, none}
use Rattle.std.proofs.lemmas.List.{get_or-replicate}
use Rattle.rules.proofs.Laws.Tests.{split}
use Rattle.tables.specs.Tables.{Tables}
use Rattle.tables.specs.Walks.{along, child_by}
use Rattle.trie.specs.Answers.{tree_only}
use Rattle.trie.specs.Chain.{number_of, Kids}
use Rattle.trie.proofs.Laws.Chain.{walked_end, walked_here, walked_on, found_of, walked-along}

-- A walk along a chain: where it stops, and a step of it. It finds no node 0.
module _ (t : Tables) (x : ℕ) where
  along-end : (left at : ℕ) → at ≡ 0 → along t x left at ≡ none
  along-end left at e = walked-along t x left 0 at ∙ ap found_of (walked_end t.label t.next x left 0 at e)

  along-here : (left at : ℕ) → (left ≡ 0 → ⊥) → (at ≡ 0 → ⊥) → get_or t.label at 0 ≡ x → along t x left at ≡ some at
  along-here left at l a e = walked-along t x left 0 at ∙ ap found_of (walked_here t.label t.next x left 0 at l a e)

  along-on : (left at : ℕ) → (left ≡ 0 → ⊥) → (at ≡ 0 → ⊥) → (get_or t.label at 0 ≡ x → ⊥)
      → along t x left at ≡ along t x (left - 1) (get_or t.next at 0)
  along-on left at l a d =
      walked-along t x left 0 at ∙ ap found_of (walked_on t.label t.next x left 0 at l a d)
      ∙ sym (walked-along t x (left - 1) at (get_or t.next at 0))

  along-some : (left at : ℕ) → along t x left at ≡ some 0 → ⊥
  along-some zero at h = let z : ◌≡◌ {A = ℕ} 0 1 = cc in omega arith
  along-some (suc left) at h = split at 0
      (λ e. let z : ◌≡◌ {A = ℕ} 0 1 = cc in omega arith)
      (λ e. split (get_or t.label at 0) x
      (λ q. let z : at ≡ 0 = cc (ne_eqb at 0 e, eq-eqb (get_or t.label at 0) x q) in e z)
      (λ q. along-some left (get_or t.next at 0) (cc (ne_eqb at 0 e, ne_eqb (get_or t.label at 0) x q))))

-- the first of two numbers that is not 0
abbrev pub or_else : ℕ → ℕ → ℕ
or_else zero n = n
or_else (suc k) n = suc k

or-zero : (k : ℕ) → or_else k 0 ≡ k
or-zero zero = refl
or-zero (suc k) = refl

or-first : (k n : ℕ) → (k ≡ 0 → ⊥) → or_else k n ≡ k
or-first zero n h = absurd (h refl)
or-first (suc k) n h = refl

-- What is not gathered yet is found from node `at` on, over `left` nodes.
pub record Gathering (label first next : List ℕ) (count : ℕ) (kids : List ℕ) (at left : ℕ) : Type 0 where
  pub size : length kids ≡ 256
  pub fits : at < 65536
  pub each : (x : ℕ) → x < 256
      → or_else (get_or kids x 0) (number_of (along (tree_only [] label [] first next) x left at))
      ≡ number_of (child_by (tree_only [] label [] first next) count 0 x)

module _ (label first next : List ℕ) (count : ℕ) where
  abbrev t : Tables
  t = tree_only [] label [] first next

  pub gathering-none : (at : ℕ) → at ≡ get_or first 0 0 → at < 65536 → Gathering label first next count (replicate 256 0) at count
  gathering-none at e h = record {
    size = refl;
    fits = h;
    each = λ x b. ap (λ k. or_else k (number_of (along t x count at))) (get_or-replicate {A = ℕ} 256 x 0 0 b) ∙ ap (λ v. number_of (along t x count v)) e;
  }

  module _ {kids : List ℕ} {at left : ℕ} (g : Gathering label first next count kids at left) where
    -- The chain is at its end.
    done : ((x : ℕ) → along t x left at ≡ none) → Kids label first next count kids
    done h = record { size = g.size; each = λ x b. sym (or-zero (get_or kids x 0)) ∙ ap (λ o. or_else (get_or kids x 0) (number_of o)) (sym (h x)) ∙ g.each x b }

    pub gathering-end : at ≡ 0 → Kids label first next count kids
    gathering-end e = done (λ x. along-end t x left at e)

    pub gathering-out : left ≡ 0 → Kids label first next count kids
    gathering-out e = done (λ x. rw e)

    -- A node more: it is kept if it is the first with its label.
    module _ (l : left ≡ 0 → ⊥) (a : at ≡ 0 → ⊥) (y : ℕ) (is : y ≡ get_or label at 0) (next-at : ℕ) (on : next-at ≡ get_or next at 0) (h : next-at < 65536) where
      others : (x : ℕ) → (x ≡ y → ⊥) → along t x left at ≡ along t x (left - 1) next-at
      others x d = along-on t x left at l a (λ e. d (sym e ∙ sym is)) ∙ ap (along t x (left - 1)) (sym on)

      pub gathering-old : (get_or kids y 0 ≡ 0 → ⊥) → Gathering label first next count kids next-at (left - 1)
      gathering-old k = record {
        size = g.size;
        fits = h;
        each = λ x b. split x y
            (λ e. let d : get_or kids x 0 ≡ 0 → ⊥ = rw e k in
            or-first (get_or kids x 0) _ d ∙ sym (or-first (get_or kids x 0) _ d) ∙ g.each x b)
            (λ d. ap (λ o. or_else (get_or kids x 0) (number_of o)) (sym (others x d)) ∙ g.each x b);
      }

      pub gathering-new : y < 256 → get_or kids y 0 ≡ 0 → Gathering label first next count (set kids y at) next-at (left - 1)
      gathering-new b k = record {
        size = length-set kids y at ∙ g.size;
        fits = h;
        each = λ x c. split x y
            (λ e. let q = get_or-set_same kids y at 0 (omega (arith, g.size)) in
            rw (e, q) (or-first at _ a ∙ sym (ap (λ k. or_else k (number_of (along t y left at))) k ∙ ap number_of (along-here t y left at l a (sym is)))
            ∙ g.each y b))
            (λ d. ap (λ k. or_else k (number_of (along t x (left - 1) next-at))) (get_or-set_other kids y x at 0 d)
            ∙ ap (λ o. or_else (get_or kids x 0) (number_of o)) (sym (others x d)) ∙ g.each x c);
      }

numbered : (o : Option ℕ) → (o ≡ some 0 → ⊥) → number_of o ≡ 0 → o ≡ none
numbered none h e = refl
numbered (some w) h e = absurd (h (ap some e))

numbers : (o : Option ℕ) (w : ℕ) → w ≡ number_of o → (w ≡ 0 → ⊥) → o ≡ some w
numbers none w e h = absurd (h e)
numbers (some v) w e h = ap some (sym e)

-- The root's child by its label, or none.
module _ {label first next : List ℕ} {count : ℕ} {kids : List ℕ} (k : Kids label first next count kids) (x : ℕ) (byte : x < 256) where
  pub root_none : get_or kids x 0 ≡ 0 → child_by (tree_only [] label [] first next) count 0 x ≡ none
  root_none e = numbered _ (along-some (tree_only [] label [] first next) x count (get_or first 0 0)) (sym (k.each x byte) ∙ e)

  pub root-some : (w : ℕ) → w ≡ get_or kids x 0 → (w ≡ 0 → ⊥) → child_by (tree_only [] label [] first next) count 0 x ≡ some w
  root-some w e h = numbers _ w (e ∙ k.each x byte) h
