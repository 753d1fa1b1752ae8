-- The bytes of a word in place, from the last leftwards.
use Rattle.std.specs.Prelude.{ℕ, suc, ◌+◌, ◌-◌, ◌≤◌, ◌<◌, ◌≡◌, refl, Bool, true, false, List, [], ◌∷◌, reverse, length, get_or, take}
use Rattle.std.proofs.Common.{arith, ap, sym, ◌∙◌, length-set, take_all, take-suc}
use Rattle.std.proofs.lemmas.List.{reverse-append, length-reverse}
use Rattle.rules.proofs.Laws.Words.{reverse-at}
use Rattle.tables.specs.Tables.{Tables}
use Rattle.tables.proofs.Laws.WordsAdded.{shape-agree}
use Rattle.trie.specs.InPlace.{Ready, Placed, placed, numbered, reversed_if, Kept}
use Rattle.trie.proofs.Laws.InPlace.{place_none, place-ready, place_kept, place-on}

-- A word is a body's bytes in either order.
pub either-length : (b : Bool) (body : List ℕ) → length (reversed_if b body) ≡ length body
either-length true body = length-reverse body
either-length false body = refl

pub either-byte : (b : Bool) (body : List ℕ) (k i : ℕ) → ((j : ℕ) → get_or body j 0 < k) → i < length body → get_or (reversed_if b body) i 0 < k
either-byte true body k i h l = rw (reverse-at body i l) (h (length body - 1 - i))
either-byte false body k i h l = h i

-- The last of the first `left` bytes, and those before it.
pub last-left : (word : List ℕ) (left : ℕ) → 0 < left → left ≤ length word
    → reverse (take left word) ≡ get_or word (left - 1) 0 ∷ reverse (take (left - 1) word)
last-left word left h l =
    let k : left ≡ suc (left - 1) = omega arith in
    ap (λ m. reverse (take m word)) k ∙ ap reverse (take-suc word (left - 1) 0 (omega arith))
    ∙ reverse-append (take (left - 1) word) (get_or word (left - 1) 0 ∷ [])

-- The tables t' have all bytes of the word but the first `left`; those make of them what the whole word makes of t.
pub record Inserting (word : List ℕ) (t : Tables) (n : ℕ) (t' : Tables) (n' v left : ℕ) : Type 0 where
  pub below : left ≤ length word
  pub ready : Ready t' n' v left
  pub run : placed t' n' v (reverse (take left word)) ≡ placed t n 0 (reverse word)

module _ (word : List ℕ) (t : Tables) (n : ℕ) where
  pub inserting-first : (len : ℕ) → length word ≡ len → Ready t n 0 len → Inserting word t n t n 0 len
  inserting-first len e r = record { below = omega arith; ready = r; run = rw (take_all len word (omega arith)) }

  module _ (t' : Tables) (n' v left : ℕ) (i : Inserting word t n t' n' v left) where
    pub inserting-done : left ≡ 0 → record { tables = t'; count = n'; node = v } ≡ placed t n 0 (reverse word)
    inserting-done e = sym (place_none t' n' v left i.ready) ∙ rw e at i.run

    pub inserting-kept : left ≡ 0 → (len : ℕ) → length word ≡ len → Ready t n 0 len → Kept t t'
    inserting-kept e len h r =
        let q : t' ≡ (placed t n 0 (reverse word)).tables = ap (λ p. p.tables) (inserting-done e) in
        rw q (place_kept t n 0 len r (reverse word) (omega (arith, length-reverse word)))

    pub inserting-on : 0 < left → (x : ℕ) (p : Placed) → x ≡ get_or word (left - 1) 0 → p ≡ placed t' n' v (x ∷ [])
        → Inserting word t n p.tables p.count p.node (left - 1)
    inserting-on h x p e q = rw q (record {
      below = omega (arith, i.below);
      ready = place-ready t' n' v left i.ready (x ∷ []) (left - 1) (omega arith);
      run = sym (place-on t' n' v left i.ready x (reverse (take (left - 1) word))) ∙ rw (e, ← last-left word left h i.below) i.run;
    })

-- The number of its token at the node of a word: there is room for others as before.
numbered-ready : (p : Placed) (i j : ℕ) → Ready p.tables p.count p.node j → Ready (numbered p i).tables (numbered p i).count 0 j
numbered-ready p i j r = record {
  shape = shape-agree p.tables (numbered p i).tables p.count r.shape
      (record { up_same = λ v h. refl; tag_same = λ v h. refl }) (record { head-same = λ v h. refl; sib-same = λ v h. refl });
  inside = r.shape.size;
  room = record {
    parents = r.room.parents;
    labels = r.room.labels;
    tokens = rw length-set r.room.tokens;
    firsts = r.room.firsts;
    nexts = r.room.nexts;
  };
  small = r.small;
}

-- A word, and the number of its token: the tables are as long as they were, and there is room for what is left.
module _ (t : Tables) (n i k : ℕ) (w : List ℕ) (r : Ready t n 0 k) where
  abbrev p : Placed
  p = placed t n 0 (reverse w)

  pub word-ready : (j : ℕ) → length w + j ≤ k → Ready (numbered p i).tables (numbered p i).count 0 j
  word-ready j h = numbered-ready p i j (place-ready t n 0 k r (reverse w) j (omega (arith, length-reverse w)))

  pub word_kept : length w ≤ k → Kept t (numbered p i).tables
  word_kept h =
      let q = place_kept t n 0 k r (reverse w) (omega (arith, length-reverse w)) in
      record {
        parents = q.parents;
        labels = q.labels;
        tokens = length-set p.tables.token p.node i ∙ q.tokens;
        firsts = q.firsts;
        nexts = q.nexts;
      }
