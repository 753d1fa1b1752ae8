-- A packet that is fed byte by byte: so many bytes were used, and feeding the others from here on is feeding them all.
use Prim.Native.Nat.{ℕ, suc, ◌+◌, ◌-◌, ◌≤◌, ◌<◌}
use native.Mathlib.Omega.{arith}
use native.Mathlib.Numerals.{add-one}
use mathlib.Core.Path.{◌≡◌, refl, ap, sym, subst, ◌∙◌}
use mathlib.Core.Bool.{true, false}
use mathlib.Core.List.{List, [], ◌∷◌}
use mathlib.Core.Option.{none}
use lib.ListN.{length, get_or, drop}
use lib.Seq.{drop-cons}
use Rattle.rules.specs.Rules.{place}
use Rattle.tables.specs.Tables.{Tables}
use Rattle.scan.specs.declared.Scan.{Scan}
use Rattle.std.specs.Prelude.{Ok}
use Rattle.scan.specs.declared.Answer.TheVariants.{Fetch}
use Rattle.scan.specs.declared.Stepped.{Stepped as Result}
use Rattle.scan.specs.State.{config_of}
use Rattle.scan.specs.Calls.{Answer, fetch, found, over, refused, judged, supply}
use Rattle.scan.specs.Packets.{Delivered, is_below, none_used, feed, feed_due}
use Rattle.scan.specs.Results.{answer_of, stepped_of, delivered_of}
use Rattle.scan.proofs.Laws.Settle.{is_fetch}
use Rattle.scan.proofs.Laws.Singly.{on_below, supply-again, due-inside}

-- so many bytes were used before
abbrev after : ℕ → Delivered → Delivered
after k d = record { step = d.step; used = k + d.used }

pub record Feeding (t : Tables) (s : Scan) (xs : List ℕ) (last : ℕ) (r : Result) (used : ℕ) : Type 0 where
  pub upto : used ≤ length xs
  pub rest : after used (feed t last (stepped_of r) (drop used xs)) ≡ feed_due t s xs
  pub again : is_below last (answer_of r.answer) ≡ true → judged t r.state true ≡ none

below-fetch : (last : ℕ) (a : Answer) → is_below last a ≡ true → is_fetch a ≡ true
below-fetch last (fetch p) e = refl
below-fetch last (found k i) e = e
below-fetch last over e = e
below-fetch last (refused k v) e = e

module _ (t : Tables) (s : Scan) (xs : List ℕ) where
  pub feeding-begins : judged t s true ≡ none → Feeding t s xs (s.boundary - s.depth) (record { state = s; answer = Ok (Fetch (s.boundary - s.depth - 1)) }) 0
  feeding-begins e =
      let inside = due-inside t s e in
      let here : s.boundary - s.depth ≡ suc (place (config_of s)) = omega arith in
      let there : s.boundary - s.depth - 1 ≡ place (config_of s) = omega arith in
      let d = feed t (s.boundary - s.depth) (record { state = s; answer = fetch (s.boundary - s.depth - 1) }) xs in
      let sum : 0 + d.used ≡ d.used = omega arith in
      record { upto = omega arith; rest = ap (λ n. record { step = d.step; used = n }) sum ∙ cc (here, there); again = λ _. e }

  module _ {last : ℕ} {r : Result} {used : ℕ} (f : Feeding t s xs last r used) where
    -- The next byte is used.
    pub feeding-on : used < length xs → is_below last (answer_of r.answer) ≡ true → (q : Result) → stepped_of q ≡ supply t r.state (get_or xs used 0)
        → Feeding t s xs (last - 1) q (used + 1)
    feeding-on h b q is =
        let x = get_or xs used 0 in
        let ys = drop (suc used) xs in
        let d = feed t (last - 1) (supply t r.state x) ys in
        let sum : used + 1 + d.used ≡ used + suc d.used = omega arith in
        record {
          upto = omega arith;
          rest = ap (λ z. after (used + 1) (feed t (last - 1) z (drop (used + 1) xs))) is
              ∙ ap (λ i. after (used + 1) (feed t (last - 1) (supply t r.state x) (drop i xs))) (add-one used)
              ∙ ap (λ n. record { step = d.step; used = n }) sum ∙ ap (after used) (sym (ap (on_below d (stepped_of r)) b))
              ∙ ap (λ l. after used (feed t last (stepped_of r) l)) (sym (drop-cons xs used 0 h)) ∙ f.rest;
          again = λ c. subst (λ z. judged t z.state true ≡ none) (sym is)
              (supply-again t r.state x (f.again b) (ap (λ z. is_fetch z.answer) (sym is) ∙ below-fetch (last - 1) (answer_of q.answer) c));
        }

    -- No other is: they are all used, or the next one is not for the place just below.
    pub feeding-ends : (ys : List ℕ) → drop used xs ≡ ys → feed t last (stepped_of r) ys ≡ none_used (stepped_of r)
        → delivered_of (record { state = r.state; answer = r.answer; used = used }) ≡ feed_due t s xs
    feeding-ends ys e is =
        let sum : used ≡ used + 0 = omega arith in
        ap (λ n. record { step = stepped_of r; used = n }) sum ∙ ap (after used) (sym is) ∙ ap (λ l. after used (feed t last (stepped_of r) l)) (sym e) ∙ f.rest

    pub feeding-stops : is_below last (answer_of r.answer) ≡ false → delivered_of (record { state = r.state; answer = r.answer; used = used }) ≡ feed_due t s xs
    feeding-stops b = feeding-ends (drop used xs) refl (stops (drop used xs))
      where
        stops : (ys : List ℕ) → feed t last (stepped_of r) ys ≡ none_used (stepped_of r)
        stops [] = refl
        stops (x ∷ ys) = ap (on_below (feed t (last - 1) (supply t r.state x) ys) (stepped_of r)) b
