-- The loop over the tokens of an accepted book, which keeps the least shift of the words of the tokens passed.
use Prim.Native.Nat.{ℕ, ◌-◌, ◌≤◌}
use native.Mathlib.Omega.{arith}
use mathlib.Core.Path.{◌≡◌, ap, sym, ◌∙◌}
use mathlib.Core.Bool.{Bool, true}
use mathlib.Core.List.{List, [], ◌∷◌, ◌++◌, reverse, append-nil, append_assoc}
use lib.ListN.{length, take, drop, replicate, length-reverse}
use lib.Seq.{take_at}
use Rattle.rules.specs.Lists.{least, over}
use Rattle.rules.specs.Words.{has_reverse, words_of, all_words}
use Rattle.rules.proofs.Laws.Over.{over-length}
use Rattle.rules.proofs.Laws.Words.{words-both, turned-bytes, words_append, words_snoc}
use Rattle.agree.specs.Tests.{least_of}
use Rattle.agree.proofs.Laws.Least.{least-none, least-one, least-words, least-bounds}
use Rattle.book.specs.Book.{max_body, bodies_in}
use Rattle.book.proofs.Laws.Accepted.{accepted-shortest}
use Rattle.book.proofs.Laws.Bodies.{accepted-bodies}
use Rattle.image.specs.Rule5.{tokens_of, words_in, Accepted}

-- S is the length of a token.
pub shortest-near : {book : List ℕ} {S : ℕ} → Accepted book S → (1 ≤ S) × (S ≤ max_body)
shortest-near {book} a = omega (arith, a.short, accepted-shortest book (tokens_of book) a.read)

-- The words of one body: its own bytes give `own`, and where its reverse is a second word, that is searched below it.
module _ (p : List ℕ → ℕ → Bool) (body : List ℕ) {best own : ℕ} (h : 1 ≤ best) (e : own ≡ least (p body) 1 (best - 1)) where
  first_word : own ≡ least_of p (body ∷ []) best
  first_word = e ∙ least-one p body best h

  pub two-words : has_reverse body ≡ true → (word : List ℕ) → word ≡ reverse body → (r : ℕ) → r ≡ least (p word) 1 (own - 1)
      → r ≡ least_of p (words_of body) best
  two-words t word q r k =
      let some : 1 ≤ own = rw first_word (least-bounds p (body ∷ []) best h).0 in
      k ∙ least-one p word own some ∙ ap (λ w. least_of p (w ∷ []) own) q ∙ ap (least_of p (reverse body ∷ [])) first_word
      ∙ least-words p (body ∷ []) best h (reverse body ∷ []) ∙ ap (λ ws. least_of p ws best) (sym (words-both body t))

-- The reverse as it stands in front of the ten bytes.
module _ (body into : List ℕ) (t : has_reverse body ≡ true) (e : into ≡ over (reverse body) (replicate 10 0)) where
  pub reverse-size : length into ≡ 10
  reverse-size = ap length e ∙ over-length (reverse body) (replicate 10 0) (rw length-reverse (turned-bytes body t).1)

  pub reverse-front : take (length body) into ≡ reverse body
  reverse-front = rw e (take_at (reverse body) (drop (length (reverse body)) (replicate 10 0)) (length body) (length-reverse body))

-- All tokens but those left are passed, and the least shift of their words is at hand.
pub record Passed (p : List ℕ → ℕ → Bool) (book : List ℕ) (S best : ℕ) (left : List (List ℕ)) : Type 0 where
  pub done : List (List ℕ)
  pub all : done ++ left ≡ tokens_of book
  pub least-is : best ≡ least_of p (all_words done) S

module _ (p : List ℕ → ℕ → Bool) {book : List ℕ} {S : ℕ} (a : Accepted book S) where
  pub passed_none : Passed p book S S (bodies_in book)
  passed_none = record {
    done = [];
    all = accepted-bodies book (tokens_of book) a.read;
    least-is = sym (least-none p S (shortest-near a).0);
  }

  module _ {best : ℕ} {left : List (List ℕ)} (l : Passed p book S best left) where
    -- The words of the next token are searched below the best so far, which is 1 at least.
    pub passed-some : 1 ≤ best
    passed-some = rw l.least-is (least-bounds p (all_words l.done) S (shortest-near a).0).0

    pub passed-more : {t : List ℕ} {rest : List (List ℕ)} → left ≡ t ∷ rest → (r : ℕ) → r ≡ least_of p (words_of t) best → Passed p book S r rest
    passed-more {t} {rest} e r q = record {
      done = l.done ++ (t ∷ []);
      all = append_assoc l.done (t ∷ []) rest ∙ ap (λ ts. l.done ++ ts) (sym e) ∙ l.all;
      least-is =
          q ∙ ap (least_of p (words_of t)) l.least-is ∙ least-words p (all_words l.done) S (shortest-near a).0 (words_of t)
          ∙ ap (λ ws. least_of p ws S) (sym (words_snoc l.done t));
    }

    -- None is left.
    pub passed-all : left ≡ [] → best ≡ least_of p (words_in book) S
    passed-all e =
        l.least-is ∙ ap (λ ts. least_of p (all_words ts) S) (sym (append-nil l.done) ∙ ap (λ ts. l.done ++ ts) (sym e) ∙ l.all)

    -- The best is 1: the words of the tokens that are left do not lower it.
    pub passed-one : best ≤ 1 → best ≡ least_of p (words_in book) S
    passed-one h =
        let same : least_of p (all_words left) best ≡ least_of p (words_in book) S =
        ap (least_of p (all_words left)) l.least-is ∙ least-words p (all_words l.done) S (shortest-near a).0 (all_words left)
        ∙ ap (λ ws. least_of p ws S) (sym (words_append l.done left)) ∙ ap (λ ts. least_of p (all_words ts) S) l.all in
        omega (arith, least-bounds p (all_words left) best passed-some)
