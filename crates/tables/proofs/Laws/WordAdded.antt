-- The bytes of one word: `inserted` keeps the shape and the nodes there were, and adds endings of that word alone, in order.
use Rattle.std.specs.Prelude.{ℕ, suc, ◌+◌, ◌≤◌, ◌<◌, ◌≡◌, refl, true, length}
use Rattle.std.proofs.Common.{arith, ap, ◌∙◌}
use mathlib.Core.List.{List, [], ◌∷◌, ◌++◌, reverse_aux}
use Rattle.std.proofs.Math.Option.{Option, some, none}
use Rattle.std.proofs.Math.ListN.{get_or-append}
use Rattle.std.proofs.lemmas.List.{get_or_at}
use Rattle.rules.specs.Tokens.{ends}
use Rattle.rules.proofs.Laws.Tests.{split}
use Rattle.rules.proofs.Laws.Endings.{ends-aux}
use Rattle.tables.specs.Tables.{Tables, noted}
use Rattle.tables.specs.Inserted.{Grown, with_child, inserted}
use Rattle.tables.specs.Walks.{child_by, ending}
use Rattle.tables.proofs.Laws.Shape.{Agree, Found, along-found, ending-step, ending-cons, ending-same, ending-apart}
use Rattle.tables.proofs.Laws.NodeAdded.{Sized, grown-shape, child-sized, child-grows}
use Rattle.tables.proofs.Laws.Order.{Listed, upwards, listed-old, listed-new, listed_more}
use Rattle.tables.specs.Shape.{num, up, head, Shape}

-- what is left when the bytes xs were inserted from node v on, into tables with n nodes
pub record Inserted (t : Tables) (n v : ℕ) (xs : List ℕ) (g : Grown) : Type 0 where
  pub size : ℕ
  pub sized : Sized g.tables size
  pub shape : Shape g.tables size
  pub more : n ≤ size
  pub few : size ≤ n + length xs
  pub inside : g.node < size
  pub spelled : ending g.tables g.node ≡ reverse_aux xs (ending t v)
  pub agree : Agree t g.tables n
  pub nums : (w : ℕ) → w < n → num g.tables w ≡ num t w
  pub new-num : (w : ℕ) → n ≤ w → w < size → num g.tables w ≡ 0
  pub new-ends : (w : ℕ) → n ≤ w → w < size → ends (ending g.tables w) (reverse_aux xs (ending t v)) ≡ true
  pub order : (us : List (List ℕ)) → Listed t n us → Listed g.tables size (noted us (upwards xs (ending t v)))

abbrev Inserts : List ℕ → Type 0
Inserts xs = (t : Tables) (n v : ℕ) → Sized t n → Shape t n → v < n → Inserted t n v xs (inserted t v xs)

module _ (x : ℕ) (xs : List ℕ) (ih : Inserts xs) (t : Tables) (n v : ℕ) (z : Sized t n) (s : Shape t n) (v< : v < n) where
  follow : (w : ℕ) → Found t n v 0 x (some w) → Inserted t n v (x ∷ xs) (inserted t w xs)
  follow w f =
      let r = ih t n w z s f.1 in
      let e : ending t w ≡ x ∷ ending t v = cc (ending-step t n s w f.0 f.1) in
      record {
        size = r.size;
        sized = r.sized;
        shape = r.shape;
        more = r.more;
        few = omega (arith, r.few);
        inside = r.inside;
        spelled = rw e at r.spelled;
        agree = r.agree;
        nums = r.nums;
        new-num = r.new-num;
        new-ends = rw e at r.new-ends;
        order = λ us l. rw (listed-old t n us l (x ∷ ending t v) w f.1 e, noted) (rw e at (r.order us l));
      }

  abbrev t' : Tables
  t' = (with_child t v x).tables

  add : Found t n v 0 x none → Inserted t n v (x ∷ xs) (inserted t' (length t.parent) xs)
  add f =
      let g = child-grows t n v x z s v< in
      let s' = grown-shape t t' n v x s g v< f in
      let m : length t.parent ≡ n = z.parents in
      let r = ih t' (suc n) (length t.parent) (child-sized t n v x z s v<) s' (omega arith) in
      let e : ending t' n ≡ x ∷ ending t v
      = cc (ending-step t' (suc n) s' n s.size (omega arith), g.up-new, g.tag-new, ending-same t n s t' g.agree v v<) in
      let e' : ending t' (length t.parent) ≡ x ∷ ending t v = ap (ending t') m ∙ e in
      record {
        size = r.size;
        sized = r.sized;
        shape = r.shape;
        more = omega (arith, r.more);
        few = omega (arith, r.few);
        inside = r.inside;
        spelled = rw e' at r.spelled;
        agree = record {
          up_same = λ w h. r.agree.up_same w (omega arith) ∙ g.agree.up_same w h;
          tag_same = λ w h. r.agree.tag_same w (omega arith) ∙ g.agree.tag_same w h;
        };
        nums = λ w h. r.nums w (omega arith) ∙ get_or-append t.token (0 ∷ []) 0 w (omega (arith, z.tokens));
        new-num = λ w h k. split w n
            (λ q. rw q (r.nums n (omega arith) ∙ get_or_at t.token 0 [] 0 n z.tokens))
            (λ q. r.new-num w (omega arith) k);
        new-ends = λ w h k. split w n
            (λ q. rw (q, ending-same t' (suc n) s' _ r.agree n (omega arith), e) (ends-aux xs (x ∷ ending t v)))
            (λ q. rw e' at (r.new-ends w (omega arith) k));
        order = λ us l.
            rw (listed-new t n us l (x ∷ ending t v) other, noted)
            (rw e' at (r.order (us ++ ((x ∷ ending t v) ∷ [])) (listed_more t n us l s t' g.agree (x ∷ ending t v) e)));
      }
    where
      other : (w : ℕ) → w < n → ending t w ≡ x ∷ ending t v → ⊥
      other w h e =
          let q = ending-cons t n s w x (ending t v) h e in
          f w q.0 h (ending-apart t n s (up t w) v (omega (arith, s.ups w q.0 h)) v< q.2) q.1

  step : (o : Option ℕ) → Found t n v 0 x o
      → Inserted t n v (x ∷ xs) (elim o [ some w ↦ inserted t w xs | none ↦ inserted t' (length t.parent) xs ])
  step none f = add f
  step (some w) f = follow w f

pub inserts : (xs : List ℕ) → Inserts xs
inserts [] t n v z s v< = record {
  size = n;
  sized = z;
  shape = s;
  more = omega arith;
  few = omega arith;
  inside = v<;
  spelled = refl;
  agree = record { up_same = λ w h. refl; tag_same = λ w h. refl };
  nums = λ w h. refl;
  new-num = λ w h k. absurd (omega arith);
  new-ends = λ w h k. absurd (omega arith);
  order = λ us l. l;
}
inserts (x ∷ xs) t n v z s v< =
    step x xs (inserts xs) t n v z s v< (child_by t (length t.parent) v x)
    (along-found t n s v x (length t.parent) 0 (head t v) (s.heads v v<) (omega (arith, z.parents)))
