-- What is listed of a part, as the buffers hold it.
use Rattle.std.specs.Prelude.{Result}
use Prim.Native.Nat.{ℕ, zero, suc, ◌+◌, ◌-◌, ◌≤◌, ◌<◌}
use native.Mathlib.Omega.{arith}
use mathlib.Core.Path.{◌≡◌, refl, ap, sym, subst, ◌∙◌}
use mathlib.Core.List.Memᴰ
use mathlib.Core.List.{List, [], ◌∷◌, ◌++◌, map, Memᴰ}
use borrow.Author.Tests.{lt-ltb, le-ltb}
use lib.Dec.{ltb}
use lib.ListN.{length, get_or, take, drop, length-map, length-take, length-drop, length-append}
use lib.Seq.{take_all, take_at}
use Rattle.rules.specs.Sweep.{Ordered, further}
use Rattle.rules.proofs.Laws.Exact.{happens-exact}
use Rattle.book.specs.Book.{accepted}
use Rattle.book.specs.declared.Totals.{Totals as Sums}
use Rattle.book.proofs.Laws.Accepted.{accepted-setting, accepted-longest}
use Rattle.image.specs.declared.Found.{Found}
use Rattle.image.specs.declared.Refusal.{Refusal}
use Rattle.whole.specs.Image.{room, hits_of, counted, noted}
use Rattle.image.specs.Results.{swept_of}
use Rattle.image.specs.Rule5.{tokens_of}
use Rattle.listing.specs.Parts.{max_hits, max_part, part_from, part_to, between, past, from_at, to_at, part_at}
use Rattle.sweep.specs.Program.{Known, Answered}
use Rattle.sweep.specs.Listed.{pairs, held, Listing}
use Rattle.listing.proofs.Laws.Whole.{select-all}
use Rattle.listing.proofs.Laws.Fits.{part-fits}

-- The hits that end past `at` are all from the first on that does.
passed-past : (tokens : List (List ℕ)) (from at : ℕ) (l : List (ℕ × ℕ)) (n : ℕ) → Ordered tokens l → n ≤ length l
    → ((i : ℕ) → i < n → from + get_or (map (λ h. h.0) l) i 0 ≤ at)
    → (n < length l → at < from + get_or (map (λ h. h.0) l) n 0)
    → past at (map (further from) l) ≡ map (further from) (drop n l)
passed-past tokens from at [] zero o h f g = refl
passed-past tokens from at [] (suc n) o h f g = refl
passed-past tokens from at (a ∷ l) zero o h f g =
    select-all (λ h. ltb at h.0) (map (further from) (a ∷ l))
    (λ x m. let r = Memᴰ.of_map (further from) (a ∷ l) m in lt-ltb at x.0 (omega (arith, g (omega arith), ap (λ h. h.0) r.2, later r.0 r.1)))
  where
    later : (b : ℕ × ℕ) → Memᴰ b (a ∷ l) → a.0 ≤ b.0
    later b (Memᴰ.head e) = omega (arith, ap (λ h. h.0) e)
    later b (Memᴰ.tail m) = (o.0 b m).0
passed-past tokens from at (a ∷ l) (suc n) o h f g =
    let z : ltb at (from + a.0) ≡ _ = le-ltb at (from + a.0) (f 0 (omega arith)) in
    cc (passed-past tokens from at l n o.1 (omega arith) (λ i h. f (suc i) (omega arith)) (λ h. g (omega arith)))

-- The buffers hold the hits.
pairs-parts : (l : List (ℕ × ℕ)) → pairs (map (λ h. h.0) l) (map (λ h. h.1) l) ≡ l
pairs-parts [] = refl
pairs-parts (h ∷ l) = cc (pairs-parts l)

module _ (found : List (ℕ × ℕ)) (r : ℕ) (few : length found ≤ r) where
  noted-front : (part : ℕ × ℕ → ℕ) (l : List ℕ) → noted part r found l ≡ map part found ++ drop (length (map part found)) l
  noted-front part l = rw (take_all r found few) refl

  noted-take : (part : ℕ × ℕ → ℕ) (l : List ℕ) → take (length found) (noted part r found l) ≡ map part found
  noted-take part l = ap (take (length found)) (noted-front part l) ∙ take_at (map part found) _ (length found) (length-map found part)

  to-all : (n : ℕ) → n ≤ r → counted r n ≡ accepted n
  to-all n h = cc (le-ltb r n h)

-- A part that goes on from `at`.
module _ (book image : List ℕ) (totals : Sums) (at : ℕ) (known : Known book totals) (inside : at < length image) where
  abbrev ts : List (List ℕ)
  ts = tokens_of book

  pub longest-some : 1 ≤ totals.longest
  longest-some = omega (arith, known.sums.longest, accepted-longest book ts known.read)

  pub goes_on : (at < to_at ts image at) × (to_at ts image at ≤ length image) × (from_at ts image at ≤ at)
  goes_on = let l = accepted-longest book ts known.read in (omega arith, omega arith, omega arith)

  part-short : length (part_at ts image at) ≤ max_part
  part-short = simp (length-take, length-drop) (omega arith)

  -- it begins at `from` and ends at `to`, and the buffers, as lent and as left, have its hits
  module _ (from to : ℕ) (begins : from ≡ part_from totals.longest at) (ends_at : to ≡ part_to (length image) from)
      (answer : Result Found Refusal) (ends numbers ends' numbers' : List ℕ) (room-ends : max_hits ≤ length ends) (room-numbers : max_hits ≤ length numbers)
      (f : Answered book (between from to image) answer ends numbers ends' numbers') (hits : ℕ) (number : (n : ℕ) → swept_of answer ≡ accepted n → hits ≡ n) where
    from_is : from ≡ from_at ts image at
    from_is = begins ∙ ap (λ d. part_from d at) known.sums.longest

    to_is : to ≡ to_at ts image at
    to_is = ends_at ∙ ap (part_to (length image)) from_is

    abbrev found : List (ℕ × ℕ)
    found = hits_of ts (part_at ts image at)

    of_part_lem : Answered book (part_at ts image at) answer ends numbers ends' numbers'
    of_part_lem = subst (λ p. Answered book p answer ends numbers ends' numbers') (ap (λ p. between p to image) from_is ∙ ap (λ p. between (from_at ts image at) p image) to_is) f

    few : length found ≤ room ends numbers
    few = omega (arith, part-fits book ts known.read (part_at ts image at) part-short)

    -- 12 does not occur
    hits-is : hits ≡ length found
    hits-is = number (length found) (of_part_lem.answer ∙ to-all found (room ends numbers) few (length found) few)

    pub hits-fit : hits ≤ max_hits
    hits-fit = omega (arith, hits-is, part-fits book ts known.read (part_at ts image at) part-short)

    within : (hits ≤ length ends') × (hits ≤ length numbers')
    within =
        let e = ap length (of_part_lem.in-ends ∙ noted-front found (room ends numbers) few (λ h. h.0) ends) in
        let n = ap length (of_part_lem.in-tokens ∙ noted-front found (room ends numbers) few (λ h. h.1) numbers) in (
          omega (arith, hits-is, simp length-append at e, length-map found (λ h. h.0)),
          omega (arith, hits-is, simp length-append at n, length-map found (λ h. h.1)),
        )

    held-ends : take hits ends' ≡ map (λ h. h.0) found
    held-ends = ap (λ n. take n ends') hits-is ∙ ap (take (length found)) of_part_lem.in-ends ∙ noted-take found (room ends numbers) few (λ h. h.0) ends

    held-numbers : take hits numbers' ≡ map (λ h. h.1) found
    held-numbers = ap (λ n. take n numbers') hits-is ∙ ap (take (length found)) of_part_lem.in-tokens ∙ noted-take found (room ends numbers) few (λ h. h.1) numbers

    holds : held hits ends' numbers' ≡ found
    holds = ap (λ l. pairs l (take hits numbers')) held-ends ∙ ap (pairs (map (λ h. h.0) found)) held-numbers ∙ pairs-parts found

    pub listing : (before : ℕ) → before ≤ length (take hits ends')
        → ((i : ℕ) → i < before → get_or (take hits ends') i 0 ≤ at - from)
        → (before < length (take hits ends') → at - from < get_or (take hits ends') before 0)
        → Listing ts image at (record { from = from; to = to; before = before; hits = hits }) ends' numbers'
    listing before h p q =
        let n : length (take hits ends') ≡ length found = ap length held-ends ∙ length-map found (λ h. h.0) in
        record {
          begins = from_is;
          ends_at = to_is;
          inside = (omega (arith, n, hits-is), within.0, within.1);
          lists =
              passed-past ts (from_at ts image at) at found before
              (happens-exact ts (accepted-setting book ts known.read) (part_at ts image at)).occurrences.ordered (omega (arith, n))
              (λ i l. omega (arith, goes_on.2, from_is, p i l, ap (λ l. get_or l i 0) held-ends))
              (λ l. omega (arith, goes_on.2, from_is, q (omega (arith, n)), ap (λ l. get_or l before 0) held-ends))
              ∙ ap (λ l. map (further (from_at ts image at)) (drop before l)) (sym holds)
              ∙ ap (λ n. map (further n) (drop before (held hits ends' numbers'))) (sym from_is);
        }
