-- The body lies within the book.
use Prim.Native.Nat.{◌+◌, ◌≤◌}
use native.Mathlib.Omega.{arith}
use mathlib.Core.Path.{◌≡◌, refl, ap, sym, ◌∙◌}
use lib.ListN.{length}
use Rattle.std.specs.Prelude.{Ok}
use Rattle.book.specs.Book.{accepted, found, place_in, read_book}
use Rattle.book.specs.Answers.{place_of}
use Rattle.fitting.proofs.Laws.Fitting.{found_inside, found-fit}
use Rattle.fitting.proofs.fit.Goals as goal
use Rattle.fitting.proofs.fit.Goals.{Else-image-end}

module _ (c : Else-image-end) where
  place : found c.in-Some.place.at c.in-Some.place.size ≡ place_in (read_book c.args.book.now) c.args.token
  place = ap (λ p. place_of (Ok p)) (sym c.in-Some.is) ∙ c.in_ok-place.ensures

  inside : c.in-Some.place.at + c.in-Some.place.size ≤ length c.args.book.now
  inside = found_inside c.args.book.now c.args.image.now c.args.token c.args.end place

pub overflow_add-body : goal.overflow_add-body
overflow_add-body c = omega (arith, inside (goal.at.overflow_add-body c).Else-image-end)

pub slice_bounds-body-end : goal.slice_bounds-body-end
slice_bounds-body-end c = inside (goal.at.slice_bounds-body-end c).Else-image-end

pub returns : goal.returns
returns c =
    let a = c.args in
    ap accepted c.fit_at.ensures
    ∙ found-fit a.book.now a.image.now a.token a.end (place (goal.at.returns c).Else-image-end)
    c.if-image-gt-IMAGE.false c.if-image-end.false _ refl
