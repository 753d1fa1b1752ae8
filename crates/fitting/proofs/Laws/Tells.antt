-- The answer tells how far the token agrees.
use Rattle.std.specs.Prelude.{ℕ, ◌+◌, ◌-◌, ◌≤◌, ◌<◌, ◌≡◌, refl, Bool, true, false, not, List, [], eqb, leb, ltb, length, get_or, take}
use Rattle.std.proofs.Common.{arith, ap, sym, ◌∙◌, eqb-true, leb-true, le-leb, le-ltb, ltb-true, ltb-false, length-take-le, get_or-take}
use Rattle.std.proofs.lemmas.Bool.{eqb-false, not-true, not-false}
use Rattle.rules.specs.Tokens.{from_right, agrees, mismatch}
use Rattle.rules.specs.Configs.{byte_of, Reads}
use Rattle.rules.proofs.Laws.Tests.{decide, clash, split, and_l, and_r}
use Rattle.rules.proofs.Laws.Fits.{agrees-past, agrees-over, first-cases}
use Rattle.rules.proofs.Laws.Exact.Reads.{under-reads, reads-under}
use Rattle.book.specs.Book.{Verdict, Reading, accepted, refused, max_image, too_long, has_token, read_book}
use Rattle.fitting.specs.Fitting.{Fit, fits, differs, cut_off, fit_at, not_in_book, beyond_image, fit_in}
use Rattle.fitting.specs.Promise.{InOrder, Over, SameAt, Tells, TellsFor, AnswersFor}

-- answers of different kinds are different
abbrev kind : Fit → ℕ
kind fits = 0
kind (differs place) = 1
kind cut_off = 2

abbrev differs_at : Fit → ℕ
differs_at fits = 0
differs_at (differs place) = place
differs_at cut_off = 0

module _ (t image : List ℕ) (end : ℕ) (inside : end ≤ length image) where
  -- The test with k bytes of the image to the right, up to the end.
  abbrev test : ℕ → Bool
  test k = agrees t 0 k (from_right (take end image) k)

  known : length (take end image) ≡ end
  known = length-take-le end image inside

  -- At a place that the token lies over it compares the two bytes.
  at_place : (p : ℕ) → Over t image end p → test (end - 1 - p) ≡ eqb (get_or t (p + length t - end) 0) (get_or image p 0)
  at_place p o =
      let y : length t - 1 - (end - 1 - p + 0) ≡ p + length t - end = omega arith in
      let z : end - 1 - (end - 1 - p) ≡ p = omega arith in
      agrees-over t 0 (end - 1 - p) _ (omega arith)
      ∙ ap (λ i. eqb (get_or t i 0) (from_right (take end image) (end - 1 - p))) y
      ∙ ap (λ n. eqb (get_or t (p + length t - end) 0) (get_or (take end image) (n - 1 - (end - 1 - p)) 0)) known
      ∙ ap (λ i. eqb (get_or t (p + length t - end) 0) (get_or (take end image) i 0)) z
      ∙ ap (eqb (get_or t (p + length t - end) 0)) (get_or-take end image p 0 (omega arith))

  passes : (p : ℕ) → Over t image end p → test (end - 1 - p) ≡ true → SameAt t image end p
  passes p o e = eqb-true _ _ (sym (at_place p o) ∙ e)

  -- Where it fails, the token lies over the place and differs.
  fails-over : (k : ℕ) → k < end → test k ≡ false → Over t image end (end - 1 - k)
  fails-over k h e =
      decide (λ _. Over t image end (end - 1 - k)) (ltb k (length t)) true false
      (λ l. let in-it = ltb-true k (length t) l in (omega arith, omega arith))
      (λ l. let past = ltb-false k (length t) l in absurd (clash (test k) (agrees-past t 0 k _ (omega arith)) e))

  fails : (k : ℕ) → k < end → test k ≡ false → SameAt t image end (end - 1 - k) → ⊥
  fails k h e s =
      let z : end - 1 - (end - 1 - k) ≡ k = omega arith in
      eqb-false _ _ (sym (at_place (end - 1 - k) (fails-over k h e)) ∙ ap test z ∙ e) s

  -- All that it lies over is the same exactly if it stands there, where it does not begin left of the image.
  in_order : InOrder t image end → (p : ℕ) → Over t image end p → SameAt t image end p
  in_order i p o =
      let r : Reads (byte_of image) t end = rw i.1 at (under-reads image end (length t) i.0 inside) in
      let y : length t - 1 - (end - 1 - p) ≡ p + length t - end = omega arith in
      let z : end - 1 - (end - 1 - p) ≡ p = omega arith in
      ap (λ i. get_or t i 0) (sym y) ∙ r (end - 1 - p) (omega arith) ∙ ap (byte_of image) z

  all_same : length t ≤ end → ((p : ℕ) → Over t image end p → SameAt t image end p) → InOrder t image end
  all_same h s = (h, sym (reads-under image end (length t) h inside t refl read))
    where
      read : Reads (byte_of image) t end
      read k l =
          let y : end - 1 - k + length t - end ≡ length t - 1 - k = omega arith in
          ap (λ i. get_or t i 0) (sym y) ∙ s (end - 1 - k) (omega arith, omega arith)

  tells : Tells t image end (fit_at t image end)
  tells = first-cases (length (take end image)) (λ k. not (test k))
      (λ o. mismatch (take end image) t 0 ≡ o → Tells t image end (fit_at t image end))
      (λ f e. rw (e, fit_at) (decide (Tells t image end) _ cut_off fits
      (λ l. is_cut f (omega (arith, ltb-true _ _ l)))
      (λ l. is_whole f (omega (arith, ltb-false _ _ l)))))
      (λ k h f x e. rw (e, fit_at) (one-differs k h f x))
      refl
    where
      same : ((k : ℕ) → k < length (take end image) → not (test k) ≡ false) → (p : ℕ) → Over t image end p → SameAt t image end p
      same f p o = passes p o (not-false _ (f (end - 1 - p) (omega (arith, known))))

      is_cut : ((k : ℕ) → k < length (take end image) → not (test k) ≡ false) → end < length t → Tells t image end cut_off
      is_cut f short = record {
        fits-if = λ i. absurd (omega (arith, i.0));
        fits-only = λ e. let z = ap kind e in absurd (omega arith);
        differs-there = λ p e. let z = ap kind e in absurd (omega arith);
        same-right = λ p e. let z = ap kind e in absurd (omega arith);
        cut-if = λ _ _. refl;
        cut-only = λ _. (short, same f);
      }

      is_whole : ((k : ℕ) → k < length (take end image) → not (test k) ≡ false) → length t ≤ end → Tells t image end fits
      is_whole f long = record {
        fits-if = λ _. refl;
        fits-only = λ _. all_same long (same f);
        differs-there = λ p e. let z = ap kind e in absurd (omega arith);
        same-right = λ p e. let z = ap kind e in absurd (omega arith);
        cut-if = λ short _. absurd (omega arith);
        cut-only = λ e. let z = ap kind e in absurd (omega arith);
      }

      one-differs : (k : ℕ) → k < length (take end image) → ((j : ℕ) → j < k → not (test j) ≡ false) → not (test k) ≡ true
          → Tells t image end (differs (end - 1 - k))
      one-differs k h f e =
          let k< : k < end = omega (arith, known) in
          let fail = not-true (test k) e in
          let over = fails-over k k< fail in
          record {
            fits-if = λ i. absurd (fails k k< fail (in_order i (end - 1 - k) over));
            fits-only = λ e. let z = ap kind e in absurd (omega arith);
            differs-there = λ p e. rw (ap differs_at (sym e)) (over, fails k k< fail);
            same-right = λ p e right l o. let z : end - 1 - k ≡ p = ap differs_at e in passes right o (not-false _ (f (end - 1 - right) (omega arith)));
            cut-if = λ short s. absurd (fails k k< fail (s (end - 1 - k) over));
            cut-only = λ e. let z = ap kind e in absurd (omega arith);
          }

-- Only one answer tells so.
pub tells-one : (t image : List ℕ) (end : ℕ) (a b : Fit) → Tells t image end a → Tells t image end b → a ≡ b
tells-one t image end fits b x y = sym (y.fits-if (x.fits-only refl))
tells-one t image end cut_off b x y = let c = x.cut-only refl in sym (y.cut-if c.0 c.1)
tells-one t image end (differs p) fits x y = x.fits-if (y.fits-only refl)
tells-one t image end (differs p) cut_off x y = let c = y.cut-only refl in x.cut-if c.0 c.1
tells-one t image end (differs p) (differs q) x y =
    let at_p = x.differs-there p refl in
    let at-q = y.differs-there q refl in
    split p q (ap differs)
    (λ n. absurd (decide (λ _. ⊥) (ltb p q) true false (λ l. at-q.1 (x.same-right p refl q (ltb-true p q l) at-q.0))
    (λ l. let ge = ltb-false p q l in at_p.1 (y.same-right q refl p (omega arith) at_p.0))))

-- Refusals come first, and what is answered else is of the token with that number.
module _ (book image : List ℕ) (number end : ℕ) (answer : Fit) where
  abbrev Answered : Verdict Fit → Type 0
  Answered v =
      v ≡ accepted answer →
      (tokens : List (List ℕ)) × (read_book book ≡ accepted tokens) × (1 ≤ number) × (number ≤ length tokens) × (end ≤ length image)
      × Tells (get_or tokens (number - 1) []) image end answer

  refuses : (k v : ℕ) → Answered (refused k v)
  refuses k v e = absurd (let z : ◌≡◌ {A = ℕ} 0 1 = cc in omega arith)

  read_as : (r : Reading) → read_book book ≡ r → Answered (fit_in r image number end)
  read_as (refused k v) e = refuses k v
  read_as (accepted tokens) e =
      decide Answered (too_long (length image)) _ _ (λ _. refuses 8 max_image) λ _.
      decide Answered (not_in_book tokens number) _ _ (λ _. refuses 16 0) λ has.
      decide Answered (beyond_image image end) _ _ (λ _. refuses 17 0) λ ends same.
      let inside = ltb-false (length image) end ends in
      let is : fit_at (get_or tokens (number - 1) []) image end ≡ answer = cc in
      let in-book = not-false (has_token tokens number) has in (
        tokens,
        e,
        leb-true 1 number (and_l (leb 1 number) _ in-book),
        leb-true number (length tokens) (and_r (leb 1 number) _ in-book),
        inside,
        rw is at (tells (get_or tokens (number - 1) []) image end inside),
      )

pub tells-for : TellsFor
unfolding TellsFor
tells-for book image number end answer = read_as book image number end answer (read_book book) refl

-- Where nothing is refused, an answer is given.
pub answers-for : AnswersFor
unfolding AnswersFor
answers-for book image tokens number end read small one most inside = (
  fit_at (get_or tokens (number - 1) []) image end,
  cc (read, le-ltb max_image (length image) small, le-leb 1 number one, le-leb number (length tokens) most, le-ltb (length image) end inside),
)
