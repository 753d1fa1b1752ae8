-- Going through the records of a book, one after the other.
use Rattle.std.specs.Prelude.{ℕ, ◌+◌, ◌≤◌, ◌<◌, ◌≡◌, refl, List, [], ◌∷◌, length, get_or, take, drop}
use Rattle.std.proofs.Common.{arith, add-one, ap, sym, ◌∙◌, length-take, length-drop, take-suc, get_or-drop, drop-drop}
use Rattle.rules.specs.Tokens.{total}
use Rattle.book.specs.Book.{whole_at, record_place, bodies_in}
use Rattle.book.proofs.Laws.Accepted.{total-snoc}
use Rattle.book.proofs.Laws.Bodies.{bodies, whole-there, bodies-none, bodies-some}

-- The first i bodies are passed, and the next record, if there is one, stands at `at`.
pub record Walk (book : List ℕ) (at i : ℕ) : Type 0 where
  pub upto : i ≤ length (bodies_in book)
  pub place : at ≡ record_place (bodies_in book) i
  pub rest : bodies book at ≡ drop i (bodies_in book)

pub walk_begins : (book : List ℕ) → Walk book 0 0
walk_begins book = record { upto = omega arith; place = refl; rest = refl }

module _ {book : List ℕ} {at i : ℕ} (w : Walk book at i) where
  left : length (bodies book at) + i ≡ length (bodies_in book)
  left = let u = w.upto in rw (w.rest, length-drop) (omega arith)

  pub walk_ends : whole_at book at ≡ 0 → i ≡ length (bodies_in book)
  walk_ends z = omega (arith, left, ap length (bodies-none book at z))

  module _ (n : ℕ) (e : n ≡ whole_at book at) (h : (n ≡ 0 → ⊥)) where
    pub walk_inside : at + 1 + n ≤ length book
    walk_inside = rw e (whole-there book at (omega arith))

    here : drop i (bodies_in book) ≡ take n (drop (at + 1) book) ∷ bodies book (at + 1 + n)
    here = sym w.rest ∙ rw e (bodies-some book at (omega arith))

    pub walk-some : i < length (bodies_in book)
    walk-some = omega (arith, length-drop i (bodies_in book), ap length here)

    pub walk-body : get_or (bodies_in book) i [] ≡ take n (drop (at + 1) book)
    walk-body = let z : i + 0 ≡ i = omega arith in sym (rw (here, z) at (get_or-drop i (bodies_in book) 0 []))

    pub walk-size : length (get_or (bodies_in book) i []) ≡ n
    walk-size = rw walk-body (simp (length-take, length-drop) (omega (arith, walk_inside)))

    pub walk-next : Walk book (at + 1 + n) (i + 1)
    walk-next = record {
      upto = omega (arith, walk-some);
      place =
          let z : total (take (i + 1) (bodies_in book)) ≡ total (take i (bodies_in book)) + length (get_or (bodies_in book) i []) =
          rw (add-one, take-suc (bodies_in book) i [] walk-some) (total-snoc (take i (bodies_in book)) (get_or (bodies_in book) i [])) in
          omega (arith, w.place, walk-size);
      rest = sym (sym (drop-drop 1 i (bodies_in book)) ∙ ap (drop 1) here);
    }
