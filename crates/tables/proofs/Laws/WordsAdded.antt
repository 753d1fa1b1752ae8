-- The words one after the other: `inserted_words` keeps what is known of the nodes and of the first k words.
use Rattle.std.specs.Prelude.{ℕ, suc, ◌+◌, ◌≤◌, ◌<◌, ◌≡◌, refl, true, length, get_or, take}
use Rattle.std.proofs.Common.{arith, ap, sym, ◌∙◌, length-set, take-suc, get_or-set_same, get_or-set_other}
use Rattle.std.proofs.Math.Decide.{dec_lt}
use mathlib.Core.List.{List, [], ◌∷◌, reverse, reverse_aux, reverse-reverse}
use Rattle.std.proofs.lemmas.List.{length-reverse}
use Rattle.rules.specs.Tokens.{ends, total}
use Rattle.rules.proofs.Laws.Tests.{split, below_suc}
use Rattle.tables.specs.Tables.{Tables, endings_of, noted, nodes}
use Rattle.tables.specs.Inserted.{Grown, inserted, with_word, inserted_words, root_only}
use Rattle.tables.specs.Walks.{ending}
use Rattle.tables.specs.Shape.{up, head, sib, Link, Shape, num}
use Rattle.tables.proofs.Laws.Shape.{Agree, ending-same}
use Rattle.tables.proofs.Laws.NodeAdded.{Sized}
use Rattle.tables.proofs.Laws.Order.{Listed, listed-agree, upwards-all, noted-append}
use Rattle.tables.proofs.Laws.WordAdded.{Inserted, inserts}

-- tables with n nodes stand for the endings of the first k words, in the order of `nodes`; a word's node has its number, another none
pub record Facts (words : List (List ℕ)) (number : List ℕ → ℕ) (k : ℕ) (t : Tables) (n : ℕ) : Type 0 where
  pub shape : Shape t n
  pub real : (w : ℕ) → 0 < w → w < n → (j : ℕ) × (j < k) × (ends (ending t w) (get_or words j []) ≡ true)
  pub node : (j : ℕ) → j < k → (w : ℕ) × (w < n) × (ending t w ≡ get_or words j []) × (num t w ≡ number (get_or words j []))
  pub word : (w : ℕ) → w < n → 0 < num t w → (j : ℕ) × (j < k) × (ending t w ≡ get_or words j [])
  pub listed : Listed t n (nodes (take k words))

-- the links too are the same below n
pub record AgreeLinks (t t' : Tables) (n : ℕ) : Type 0 where
  pub head-same : (v : ℕ) → v < n → head t' v ≡ head t v
  pub sib-same : (v : ℕ) → v < n → sib t' v ≡ sib t v

module _ (t t' : Tables) (n : ℕ) (s : Shape t n) (a : Agree t t' n) (b : AgreeLinks t t' n) where
  link-agree : (p w r : ℕ) → Link t n p w r → Link t' n p w r
  link-agree p w r l = record {
    node = λ h. let q = l.node h in (q.0, q.1, a.up_same r q.1 ∙ q.2);
    least = λ u h k e. l.least u h k (sym (a.up_same u k) ∙ e);
  }

  pub shape-agree : Shape t' n
  shape-agree = record {
    size = s.size;
    root-up = a.up_same 0 s.size ∙ s.root-up;
    root-tag = a.tag_same 0 s.size ∙ s.root-tag;
    root-sib = b.sib-same 0 s.size ∙ s.root-sib;
    ups = λ v h k. rw (a.up_same v k) (s.ups v h k);
    heads = λ v k. rw (b.head-same v k) (link-agree v 0 (head t v) (s.heads v k));
    sibs = λ v h k. rw (b.sib-same v k, a.up_same v k) (link-agree (up t v) v (sib t v) (s.sibs v h k));
    apart = λ v w h k v< w< e f. s.apart v w h k v< w<
        (sym (a.up_same v v<) ∙ e ∙ a.up_same w w<) (sym (a.tag_same v v<) ∙ f ∙ a.tag_same w w<);
  }

  pub facts-agree : ((v : ℕ) → v < n → num t' v ≡ num t v) → (words : List (List ℕ)) (number : List ℕ → ℕ) (k : ℕ)
      → Facts words number k t n → Facts words number k t' n
  facts-agree c words number k f = record {
    shape = shape-agree;
    real = λ w h w<. let q = f.real w h w< in (q.0, q.1, rw (same w w<) q.2);
    node = λ j h. let q = f.node j h in (q.0, q.1, same q.0 q.1 ∙ q.2, c q.0 q.1 ∙ q.3);
    word = λ w w< h. let q = f.word w w< (rw (c w w<) at h) in (q.0, q.1, same w w< ∙ q.2);
    listed = listed-agree t n (nodes (take k words)) f.listed s t' a;
  }
    where
      same : (w : ℕ) → w < n → ending t' w ≡ ending t w
      same = ending-same t n s t' a

pub record Added (words : List (List ℕ)) (number : List ℕ → ℕ) (k : ℕ) (t : Tables) (most : ℕ) : Type 0 where
  pub size : ℕ
  pub sized : Sized t size
  pub facts : Facts words number k t size
  pub few : size ≤ most

-- One word more, with the number i.
module _ (t : Tables) (n : ℕ) (z : Sized t n) (s : Shape t n) (i : ℕ) (word : List ℕ) where
  abbrev g : Grown
  g = inserted t 0 (reverse word)

  abbrev t' : Tables
  t' = with_word t i word

  abbrev r : Inserted t n 0 (reverse word) g
  r = inserts (reverse word) t n 0 z s s.size

  same : Agree g.tables t' r.size
  same = record { up_same = λ v h. refl; tag_same = λ v h. refl }

  pub word-shape : Shape t' r.size
  word-shape = shape-agree g.tables t' r.size r.shape same (record { head-same = λ v h. refl; sib-same = λ v h. refl })

  pub word-sized : Sized t' r.size
  word-sized = record {
    parents = r.sized.parents;
    labels = r.sized.labels;
    tokens = length-set g.tables.token g.node i ∙ r.sized.tokens;
    firsts = r.sized.firsts;
    nexts = r.sized.nexts;
    shifts = r.sized.shifts;
  }

  back : reverse_aux (reverse word) [] ≡ word
  back = reverse-reverse word

  -- the endings now
  now : (w : ℕ) → w < r.size → ending t' w ≡ ending g.tables w
  now w h = ending-same g.tables r.size r.shape t' same w h

  old : (w : ℕ) → w < n → ending t' w ≡ ending t w
  old w h = now w (omega (arith, r.more)) ∙ ending-same t n s g.tables r.agree w h

  this : ending t' g.node ≡ word
  this = now g.node r.inside ∙ r.spelled ∙ back

  -- and the numbers
  this-num : num t' g.node ≡ i
  this-num = get_or-set_same g.tables.token g.node i 0 (omega (arith, r.sized.tokens, r.inside))

  other-num : (w : ℕ) → (w ≡ g.node → ⊥) → num t' w ≡ num g.tables w
  other-num w d = get_or-set_other g.tables.token g.node w i 0 d

  module _ (words : List (List ℕ)) (number : List ℕ → ℕ) (k : ℕ) (f : Facts words number k t n) (k< : k < length words)
      (word≡ : get_or words k [] ≡ word) (i≡ : i ≡ number word)
    where
      real' : (w : ℕ) → 0 < w → w < r.size → Dec (w < n) → (j : ℕ) × (j < suc k) × (ends (ending t' w) (get_or words j []) ≡ true)
      real' w a h (yes l) = let q = f.real w a l in (q.0, omega (arith, q.1), rw (old w l) q.2)
      real' w a h (no l) = (k, omega arith, rw (word≡, now w h) (rw back at (r.new-ends w (omega arith) h)))

      -- the word's node has its number now, and another keeps its own
      this-number : (u : List ℕ) → ending t' g.node ≡ u → num t' g.node ≡ number u
      this-number u e = this-num ∙ i≡ ∙ ap number (sym this ∙ e)

      kept-number : (w : ℕ) (u : List ℕ) → w < n → ending t' w ≡ u → num t w ≡ number u → num t' w ≡ number u
      kept-number w u h e q = split w g.node
          (λ p. rw p (this-number u (rw p at e)))
          (λ d. other-num w d ∙ r.nums w h ∙ q)

      node' : (j : ℕ) → j < suc k → (w : ℕ) × (w < r.size) × (ending t' w ≡ get_or words j []) × (num t' w ≡ number (get_or words j []))
      node' j h =
          let u = get_or words j [] in
          below_suc j k h
          (λ j<. let q = f.node j j< in
          let e = old q.0 q.1 ∙ q.2 in
          (q.0, omega (arith, q.1, r.more), e, kept-number q.0 u q.1 e q.3))
          (λ p. let e = this ∙ sym (ap (λ i. get_or words i []) p ∙ word≡) in
          (g.node, r.inside, e, this-number u e))

      word' : (w : ℕ) → w < r.size → 0 < num t' w → (j : ℕ) × (j < suc k) × (ending t' w ≡ get_or words j [])
      word' w h p = split w g.node
          (λ e. (k, omega arith, ap (ending t') e ∙ this ∙ sym word≡))
          (λ d. before (dec_lt w n) (rw (other-num w d) at p))
        where
          before : Dec (w < n) → 0 < num g.tables w → (j : ℕ) × (j < suc k) × (ending t' w ≡ get_or words j [])
          before (yes l) p = let q = f.word w l (rw (r.nums w l) at p) in (q.0, omega (arith, q.1), old w l ∙ q.2)
          before (no l) p = absurd (omega (arith, r.new-num w (omega arith) h))

      listed' : Listed t' r.size (nodes (take (suc k) words))
      listed' =
          let seen = nodes (take k words) in
          rw (take-suc words k [] k<, word≡, noted-append) (listed-agree g.tables r.size (noted seen (endings_of word))
          (rw upwards-all at (r.order seen f.listed)) r.shape t' same)

      pub added : Added words number (suc k) t' (n + length word)
      added = record {
        size = r.size;
        sized = word-sized;
        facts = record { shape = word-shape; real = λ w a h. real' w a h (dec_lt w n); node = node'; word = word'; listed = listed' };
        few = omega (arith, r.few, length-reverse word);
      }

builds : (words : List (List ℕ)) (number : List ℕ → ℕ) (rest : List (List ℕ)) (k : ℕ) (t : Tables) (n : ℕ) → Sized t n → Facts words number k t n
    → length words ≡ k + length rest → ((j : ℕ) → get_or words (k + j) [] ≡ get_or rest j [])
    → Added words number (length words) (inserted_words t number rest) (n + total rest)
builds words number [] k t n z f l s =
    let q : length words ≡ k = omega arith in
    record { size = n; sized = z; facts = rw q f; few = omega arith }
builds words number (word ∷ rest) k t n z f l s =
    let k0 : k + 0 ≡ k = omega arith in
    let a = added t n z f.shape (number word) word words number k f (omega arith) (rw k0 at (s 0)) refl in
    let b = builds words number rest (suc k) (with_word t (number word) word) a.size a.sized a.facts (omega arith)
    (λ j. let q : suc k + j ≡ k + suc j = omega arith in rw q (s (suc j))) in
    record { size = b.size; sized = b.sized; facts = b.facts; few = omega (arith, b.few, a.few) }

root-link : (p : ℕ) → Link root_only 1 p 0 0
root-link p = record { node = λ h. absurd (omega arith); least = λ u a b c. absurd (omega arith) }

pub root-shape : Shape root_only 1
root-shape = record {
  size = omega arith;
  root-up = refl;
  root-tag = refl;
  root-sib = refl;
  ups = λ v a b. absurd (omega arith);
  heads = λ v b. let e : v ≡ 0 = omega arith in rw e (root-link 0);
  sibs = λ v a b. absurd (omega arith);
  apart = λ v w a b c d e f. omega arith;
}

pub root-sized : Sized root_only 1
root-sized = record { parents = refl; labels = refl; tokens = refl; firsts = refl; nexts = refl; shifts = refl }

root-facts : (words : List (List ℕ)) (number : List ℕ → ℕ) → Facts words number 0 root_only 1
root-facts words number = record {
  shape = root-shape;
  real = λ w a b. absurd (omega arith);
  node = λ j h. absurd (omega arith);
  word = λ w h. let e : w ≡ 0 = omega arith in rw e (λ p. absurd (omega arith));
  listed = record { size = refl; at = λ v h. let e : v ≡ 0 = omega arith in rw e refl };
}

pub built-facts : (words : List (List ℕ)) (number : List ℕ → ℕ)
    → Added words number (length words) (inserted_words root_only number words) (1 + total words)
built-facts words number =
    builds words number words 0 root_only 1 root-sized (root-facts words number) (omega arith)
    (λ j. let q : 0 + j ≡ j = omega arith in rw q refl)
