-- One node more: `with_child` keeps the shape.
use Rattle.std.specs.Prelude.{ℕ, suc, ◌<◌, ◌≡◌, false, List, [], ◌∷◌, ◌++◌, eqb, length, get_or, set}
use Rattle.std.proofs.Common.{arith, ap, sym, ◌∙◌, eqb-true, length-append, length-set, get_or-set_same, get_or-set_other}
use Rattle.std.proofs.Math.Decide.{dec_lt}
use Rattle.std.proofs.lemmas.Bool.{eqb-false}
use Rattle.std.proofs.Math.ListN.{get_or-append}
use Rattle.std.proofs.lemmas.List.{get_or_at}
use Rattle.rules.proofs.Laws.Tests.{decide, split, below_suc}
use Rattle.tables.specs.Tables.{Tables}
use Rattle.tables.specs.Inserted.{last_of, with_child}
use Rattle.tables.specs.Shape.{up, tag, head, sib, Link, Shape}
use Rattle.tables.proofs.Laws.Shape.{Agree, Last, last_found}

-- what becomes of a link when node n is added: it stays, or it was 0 and now leads to n
pub data Moved (n old new : ℕ) (here : Type 0) : Type 0 where
  kept : new ≡ old → (here → 0 < old) → Moved n old new here
  added : here → old ≡ 0 → new ≡ n → Moved n old new here

pub record Grows (t t' : Tables) (n v x : ℕ) : Type 0 where
  pub agree : Agree t t' n
  pub up-new : up t' n ≡ v
  pub tag-new : tag t' n ≡ x
  pub head-new : head t' n ≡ 0
  pub sib-new : sib t' n ≡ 0
  pub root-sib : sib t' 0 ≡ 0
  pub heads : (w : ℕ) → w < n → Moved n (head t w) (head t' w) (w ≡ v)
  pub sibs : (w : ℕ) → 0 < w → w < n → Moved n (sib t w) (sib t' w) (up t w ≡ v)

module _ (t t' : Tables) (n v x : ℕ) (s : Shape t n) (g : Grows t t' n v x) (v< : v < n) where
  link-moved : (p w old new : ℕ) → Link t n p w old → w < n → Moved n old new (p ≡ v) → Link t' (suc n) p w new
  link-moved p w old new l h (kept e f) =
      rw e (record {
        node = λ r. let q = l.node r in (q.0, omega (arith, q.1), g.agree.up_same old q.1 ∙ q.2);
        least = λ u a b c. below_suc u n b
            (λ u<. l.least u a u< (sym (g.agree.up_same u u<) ∙ c))
            (λ z. let r = f (cc g.up-new) in (r, omega (arith, l.node r)));
      })
  link-moved p w old new l h (added e z q) =
      rw q (record {
        node = λ r. (h, omega arith, g.up-new ∙ sym e);
        least = λ u a b c. below_suc u n b
            (λ u<. absurd (omega (arith, l.least u a u< (sym (g.agree.up_same u u<) ∙ c))))
            (λ y. (omega arith, omega arith));
      })

  pub grown-shape : ((u : ℕ) → 0 < u → u < n → up t u ≡ v → tag t u ≡ x → ⊥) → Shape t' (suc n)
  grown-shape alone = record {
    size = omega arith;
    root-up = g.agree.up_same 0 s.size ∙ s.root-up;
    root-tag = g.agree.tag_same 0 s.size ∙ s.root-tag;
    root-sib = g.root-sib;
    ups = λ w a b. below_suc w n b
        (λ w<. rw (g.agree.up_same w w<) (s.ups w a w<))
        (λ e. rw (e, g.up-new) v<);
    heads = λ w b. below_suc w n b
        (λ w<. link-moved w 0 (head t w) (head t' w) (s.heads w w<) s.size (g.heads w w<))
        (λ e. rw (e, g.head-new) (record {
          node = λ r. absurd (omega arith);
          least = λ u a c d. absurd (below_suc u n c
              (λ u<. omega (arith, s.ups u a u<, g.agree.up_same u u<, d))
              (λ z. omega (arith, g.up-new, rw z at d)));
        }));
    sibs = λ w a b. below_suc w n b
        (λ w<. rw (g.agree.up_same w w<) (link-moved (up t w) w (sib t w) (sib t' w) (s.sibs w a w<) w< (g.sibs w a w<)))
        (λ e. rw (e, g.sib-new) (record {
          node = λ r. absurd (omega arith);
          least = λ u a c d. absurd (omega arith);
        }));
    apart = λ w y a b c d e f. below_suc w n c
        (λ w<. let p = g.agree.up_same w w< in let q = g.agree.tag_same w w< in
        below_suc y n d
        (λ y<. s.apart w y a b w< y< (sym p ∙ e ∙ g.agree.up_same y y<) (sym q ∙ f ∙ g.agree.tag_same y y<))
        (λ z. absurd (alone w a w< (cc g.up-new) (cc g.tag-new))))
        (λ z. below_suc y n d
        (λ y<. let p = g.agree.up_same y y< in let q = g.agree.tag_same y y< in absurd (alone y b y< (cc g.up-new) (cc g.tag-new)))
        (λ y. cc));
  }

-- all lists have n entries but that of shifts, which has none yet
pub record Sized (t : Tables) (n : ℕ) : Type 0 where
  pub parents : length t.parent ≡ n
  pub labels : length t.label ≡ n
  pub tokens : length t.token ≡ n
  pub firsts : length t.first ≡ n
  pub nexts : length t.next ≡ n
  pub shifts : t.shift ≡ []

snoc-length : (l : List ℕ) (n x : ℕ) → length l ≡ n → length (l ++ (x ∷ [])) ≡ suc n
snoc-length l n x h = length-append l (x ∷ []) ∙ (omega arith)

module _ (t : Tables) (n v x : ℕ) (z : Sized t n) (s : Shape t n) (v< : v < n) where
  abbrev t' : Tables
  t' = (with_child t v x).tables

  abbrev last : ℕ
  last = last_of t (length t.parent) (head t v)

  -- the lists of first children and of next siblings, where each is changed
  abbrev firsts' : List ℕ
  firsts' = set t.first v (length t.parent)

  abbrev nexts' : List ℕ
  nexts' = set t.next last (length t.parent)

  firsts-length : length firsts' ≡ n
  firsts-length = length-set t.first v (length t.parent) ∙ z.firsts

  nexts-length : length nexts' ≡ n
  nexts-length = length-set t.next last (length t.parent) ∙ z.nexts

  last-is : eqb (head t v) 0 ≡ false → Last t n v last
  last-is e =
      let q = (s.heads v v<).node (omega (arith, eqb-false (head t v) 0 e)) in
      last_found t n s v (length t.parent) (head t v) q.0 q.1 q.2 (omega (arith, z.parents))

  pub child-sized : Sized t' (suc n)
  child-sized = record {
    parents = snoc-length t.parent n v z.parents;
    labels = snoc-length t.label n x z.labels;
    tokens = snoc-length t.token n 0 z.tokens;
    firsts = decide (λ l. length (l ++ (0 ∷ [])) ≡ suc n) (eqb (head t v) 0) _ _
        (λ _. snoc-length firsts' n 0 firsts-length) (λ _. snoc-length t.first n 0 z.firsts);
    nexts = decide (λ l. length (l ++ (0 ∷ [])) ≡ suc n) (eqb (head t v) 0) _ _
        (λ _. snoc-length t.next n 0 z.nexts) (λ _. snoc-length nexts' n 0 nexts-length);
    shifts = z.shifts;
  }

  -- where the chain has an end already, each other node of it has a next one
  next-there : (w : ℕ) → 0 < w → w < n → Last t n v last → (w ≡ last → ⊥) → up t w ≡ v → 0 < sib t w
  next-there w a b l d e = go (dec_lt w last)
    where
      go : Dec (w < last) → 0 < sib t w
      go (yes h) = ((s.sibs w a b).least last h l.below (l.child ∙ sym e)).0
      go (no h) = absurd (omega (arith, l.ends, (s.sibs last l.above l.below).least w (omega arith) b (e ∙ sym l.child)))

  old-at : (l : List ℕ) (w : ℕ) → length l ≡ n → w < n → get_or (l ++ (0 ∷ [])) w 0 ≡ get_or l w 0
  old-at l w e h = get_or-append l (0 ∷ []) 0 w (omega arith)

  pub child-grows : Grows t t' n v x
  child-grows = record {
    agree = record {
      up_same = λ w h. get_or-append t.parent (v ∷ []) 0 w (omega (arith, z.parents));
      tag_same = λ w h. get_or-append t.label (x ∷ []) 0 w (omega (arith, z.labels));
    };
    up-new = get_or_at t.parent v [] 0 n z.parents;
    tag-new = get_or_at t.label x [] 0 n z.labels;
    head-new = decide (λ l. get_or (l ++ (0 ∷ [])) n 0 ≡ 0) (eqb (head t v) 0) _ _
        (λ _. get_or_at firsts' 0 [] 0 n firsts-length) (λ _. get_or_at t.first 0 [] 0 n z.firsts);
    sib-new = decide (λ l. get_or (l ++ (0 ∷ [])) n 0 ≡ 0) (eqb (head t v) 0) _ _
        (λ _. get_or_at t.next 0 [] 0 n z.nexts) (λ _. get_or_at nexts' 0 [] 0 n nexts-length);
    root-sib = decide (λ l. get_or (l ++ (0 ∷ [])) 0 0 ≡ 0) (eqb (head t v) 0) _ _
        (λ _. old-at t.next 0 z.nexts s.size ∙ s.root-sib)
        (λ e. old-at nexts' 0 nexts-length s.size ∙ get_or-set_other t.next last 0 _ 0 (λ q. omega (arith, (last-is e).above)) ∙ s.root-sib);
    heads = λ w h. decide (λ l. Moved n (head t w) (get_or (l ++ (0 ∷ [])) w 0) (w ≡ v)) (eqb (head t v) 0) _ _
        (λ e. split w v
        (λ q. added q (ap (head t) q ∙ eqb-true (head t v) 0 e)
        (old-at firsts' w firsts-length h ∙ rw q (get_or-set_same t.first v _ 0 (omega (arith, z.firsts)) ∙ z.parents)))
        (λ q. kept (old-at firsts' w firsts-length h ∙ get_or-set_other t.first v w _ 0 q) (λ y. absurd (q y))))
        (λ e. kept (old-at t.first w z.firsts h) (λ y. rw y (omega (arith, eqb-false (head t v) 0 e))));
    sibs = λ w a h. decide (λ l. Moved n (sib t w) (get_or (l ++ (0 ∷ [])) w 0) (up t w ≡ v)) (eqb (head t v) 0) _ _
        (λ e. kept (old-at t.next w z.nexts h) (λ y. absurd (omega (arith, eqb-true (head t v) 0 e, (s.heads v v<).least w a h y))))
        (λ e. let l = last-is e in split w last
        (λ q. added (ap (up t) q ∙ l.child) (ap (sib t) q ∙ l.ends)
        (old-at nexts' w nexts-length h ∙ ap (λ u. get_or nexts' u 0) q ∙ get_or-set_same t.next last _ 0 (omega (arith, z.nexts, l.below)) ∙ z.parents))
        (λ q. kept (old-at nexts' w nexts-length h ∙ get_or-set_other t.next last w _ 0 q) (next-there w a h l q)));
  }
