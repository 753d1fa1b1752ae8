-- What is listed by parts is every hit of the whole image, in its order.
use Rattle.std.specs.Prelude.{ℕ, zero, suc, ◌+◌, ◌≤◌, ◌<◌, ◌≡◌, refl, Bool, true, false, leb, ltb, length}
use Rattle.std.proofs.Common.{arith, sym, ◌∙◌, lt-ltb, le-ltb, ltb-true, ltb-false, leb-true, leb-false}
use mathlib.Core.List.{List, [], ◌∷◌, ◌++◌, Memᴰ}
use Rattle.std.proofs.lemmas.Bool.{lt-leb}
use Rattle.rules.specs.Lists.{select}
use Rattle.rules.specs.Sweep.{Occurrences, Ordered, hits_of}
use Rattle.rules.proofs.Laws.Tests.{decide}
use Rattle.rules.proofs.Laws.Exact.{happens-exact}
use Rattle.book.specs.Book.{read_book, accepted}
use Rattle.book.proofs.Laws.Accepted.{accepted-setting, accepted-longest}
use Rattle.listing.specs.Parts.{past, up_to, from_at, to_at, listed_from}
use Rattle.listing.proofs.Laws.Part.{part}

-- A test that each element passes, and one that none passes.
module _ {A : Type 0} (p : A → Bool) where
  pub select-all : (l : List A) → ((a : A) → Memᴰ a l → p a ≡ true) → select p l ≡ l
  select-all [] f = refl
  select-all (a ∷ l) f = cc (f a (Memᴰ.head refl), select-all l (λ b m. f b (Memᴰ.tail m)))

  select-none : (l : List A) → ((a : A) → Memᴰ a l → p a ≡ false) → select p l ≡ []
  select-none [] f = refl
  select-none (a ∷ l) f = cc (f a (Memᴰ.head refl), select-none l (λ b m. f b (Memᴰ.tail m)))

-- The hits past `at`, cut at `to`: ends never fall.
cut : (tokens : List (List ℕ)) (at to : ℕ) → at ≤ to → (l : List (ℕ × ℕ)) → Ordered tokens l → past at (up_to to l) ++ past to l ≡ past at l
cut tokens at to h [] o = refl
cut tokens at to h (g ∷ l) o =
    let ih = cut tokens at to h l o.1 in
    decide {X = ℕ} (λ _. past at (up_to to (g ∷ l)) ++ past to (g ∷ l) ≡ past at (g ∷ l)) (leb g.0 to) 0 0
    (λ t.
    let u : ltb to g.0 ≡ false = le-ltb to g.0 (leb-true g.0 to t) in
    decide {X = ℕ} (λ _. past at (up_to to (g ∷ l)) ++ past to (g ∷ l) ≡ past at (g ∷ l)) (ltb at g.0) 0 0 (λ v. cc) (λ v. cc))
    (λ f.
    let b = leb-false g.0 to f in
    let n : up_to to l ≡ [] = select-none (λ h. leb h.0 to) l (λ x m. lt-leb x.0 to (omega (arith, (o.0 x m).0))) in
    cc (lt-ltb to g.0 b, lt-ltb at g.0 (omega arith)))

module _ (book : List ℕ) (tokens : List (List ℕ)) (read : read_book book ≡ accepted tokens) (image : List ℕ) where
  found : Occurrences tokens image (hits_of tokens image)
  found = (happens-exact tokens (accepted-setting book tokens read) image).occurrences

  -- no hit ends past the image
  none-past : (at : ℕ) → length image ≤ at → past at (hits_of tokens image) ≡ []
  none-past at h = select-none (λ g. ltb at g.0) _ (λ g m. le-ltb at g.0 (omega (arith, (found.sound g.0 g.1 m).0.inside)))

  listed-past : (fuel at : ℕ) → length image ≤ at + fuel → listed_from tokens image fuel at ≡ past at (hits_of tokens image)
  listed-past zero at h = sym (none-past at (omega arith))
  listed-past (suc fuel) at h =
      decide (λ l. l ≡ past at (hits_of tokens image)) (ltb at (length image)) _ _
      (λ t.
      let more : at < length image = ltb-true at (length image) t in
      let on : at < to_at tokens image at = omega (arith, accepted-longest book tokens read) in
      let p = part tokens (accepted-setting book tokens read) image (from_at tokens image at) at (to_at tokens image at) (omega arith) (omega arith) in
      let q = listed-past fuel (to_at tokens image at) (omega arith) in
      cc (cut tokens at (to_at tokens image at) (omega arith) (hits_of tokens image) found.ordered))
      (λ f. sym (none-past at (ltb-false at (length image) f)))

  pub whole : listed_from tokens image (length image) 0 ≡ hits_of tokens image
  whole =
      listed-past (length image) 0 (omega arith)
      ∙ select-all (λ g. ltb 0 g.0) (hits_of tokens image)
      (λ g m.
      let s = (found.sound g.0 g.1 m).0 in
      let b = accepted-setting book tokens read in
      lt-ltb 0 g.0 (omega (arith, s.fits, b.shortest _ s.numbered, b.positive)))
