-- What placing a token tells of the book, and the answer that follows.
use Prim.Native.Nat.{ℕ, ◌+◌, ◌-◌, ◌≤◌, ◌<◌}
use native.Mathlib.Omega.{arith}
use mathlib.Core.Path.{◌≡◌, refl, ap, sym, subst, ◌∙◌}
use mathlib.Core.Bool.{true, false}
use mathlib.Core.List.{List, []}
use mathlib.Core.Option.{some}
use borrow.Author.Tests.{leb-true, le-ltb}
use lib.Dec.{leb}
use lib.ListN.{length, get_or, take, drop}
use lib.Seq.{length-take-le}
use Rattle.rules.specs.Tokens.{mismatch}
use Rattle.rules.proofs.Laws.Tests.{decide, and_l, and_r}
use Rattle.rules.proofs.Laws.Fits.{first-cases}
use Rattle.book.specs.Book.{Reading, accepted, refused, Place, found, missing, unread, max_image, has_token, read_book, record_place, place_in}
use Rattle.book.specs.Records.{Held}
use Rattle.book.proofs.Laws.Records.{accepted-held}
use Rattle.fitting.specs.Fitting.{fit_at, fit_in}

-- The end in the image: a mismatch lies left of it.
module _ (t image : List ℕ) (end : ℕ) where
  pub differs-left : (k : ℕ) → end ≤ length image → some k ≡ mismatch (take end image) t 0 → k < end
  differs-left k inside =
      first-cases (length (take end image)) _ (λ o. some k ≡ o → k < end) (λ _ e. absurd (let z : ◌≡◌ {A = ℕ} 0 1 = cc in omega arith))
      (λ j h _ _ e. let z : k ≡ j = cc in omega (arith, length-take-le end image inside))

-- What a token's place tells of the book.
abbrev Told : Reading → ℕ → Place → Type 0
Told r i (unread k v) = r ≡ refused k v
Told r i missing = (tokens : List (List ℕ)) × (r ≡ accepted tokens) × (has_token tokens i ≡ false)
Told r i (found at n) =
    (tokens : List (List ℕ)) × (r ≡ accepted tokens) × (has_token tokens i ≡ true)
    × (at ≡ record_place tokens (i - 1) + 1) × (n ≡ length (get_or tokens (i - 1) []))

told : (r : Reading) (i : ℕ) → Told r i (place_in r i)
told (refused k v) i = refl
told (accepted tokens) i = decide (Told (accepted tokens) i) (has_token tokens i) _ _ (λ t. (tokens, refl, t, refl, refl)) (λ t. (tokens, refl, t))

module _ (book image : List ℕ) (i end : ℕ) where
  place-tells : {p : Place} → p ≡ place_in (read_book book) i → Told (read_book book) i p
  place-tells e = subst (Told (read_book book) i) (sym e) (told (read_book book) i)

  -- The token stands there, and how it stands at the end.
  module _ {at n : ℕ} (e : found at n ≡ place_in (read_book book) i) where
    held : Held book (record_place (place-tells e).0 (i - 1)) (get_or (place-tells e).0 (i - 1) [])
    held =
        let tokens = (place-tells e).0 in
        accepted-held book tokens (place-tells e).1 i (leb-true 1 i (and_l (leb 1 i) _ (place-tells e).2))
        (leb-true i (length tokens) (and_r (leb 1 i) _ (place-tells e).2))

    pub found_inside : at + n ≤ length book
    found_inside = omega (arith, held.inside, (place-tells e).3, (place-tells e).4)

    found-bytes : take n (drop at book) ≡ get_or (place-tells e).0 (i - 1) []
    found-bytes =
        ap (λ m. take m (drop at book)) (place-tells e).4
        ∙ ap (λ m. take (length (get_or (place-tells e).0 (i - 1) [])) (drop m book)) (place-tells e).3 ∙ held.body

    module _ (small : length image ≤ max_image) where
      pub found-fit : end ≤ length image → (t : List ℕ) → t ≡ take (at + n - at) (drop at book) → accepted (fit_at t image end) ≡ fit_in (read_book book) image i end
      found-fit l t is =
          let z : at + n - at ≡ n = omega arith in
          let bytes : t ≡ get_or (place-tells e).0 (i - 1) [] = is ∙ ap (λ m. take m (drop at book)) z ∙ found-bytes in
          rw ((place-tells e).1, fit_in, le-ltb max_image (length image) small, (place-tells e).2, le-ltb (length image) end l) (ap (λ t. accepted (fit_at t image end)) bytes)
