-- A stretch's places alone say what is loose and what is remembered; there are few stretches, and each lies before the boundary.
use Rattle.std.specs.Prelude.{ℕ, ◌+◌, ◌-◌, ◌*◌, ◌^◌, ◌≤◌, ◌<◌, max, ◌≡◌, refl, List, [], ◌∷◌, ◌++◌, ltb, length}
use Rattle.std.proofs.Common.{arith, ap, sym, ◌∙◌}
use Rattle.std.proofs.lemmas.Bool.{lt-leb}
use Rattle.rules.specs.Lists.{select, All}
use Rattle.rules.specs.Rules.{Tree, Stretch, Config, left_over, cut, kept, ended, shifted_by}
use Rattle.rules.specs.Stretches.{Lies, loose, Spans}
use Rattle.rules.proofs.Laws.Image.{stretches-append, stretches-length, stretches-select, stretches-cut}
use Rattle.rules.proofs.Laws.Limit.Span.{four-few, short}
use Rattle.image.specs.declared.spans.Spans as image
use Rattle.image.specs.Spans.{Places, places_of, in_use, renewed}

module _ {E : Type 0} where
  abbrev bare : E → Unit {0}
  bare v = tt

  -- What is loose.
  pub loose-places : (b q : ℕ) (ss : List (Stretch E)) → loose b q (places_of ss) ≡ loose b q ss
  loose-places b q [] = refl
  loose-places b q (s ∷ ss) = cc (loose-places b (max q s.right) ss)

  -- What is remembered after a round.
  pub ended-places : (tree : Tree E) (c : Config E) (s : ℕ)
      → places_of (shifted_by tree c s).stretches ≡ renewed (c.boundary - c.depth) c.boundary (c.boundary + s) (places_of c.stretches)
  ended-places tree c s =
      let from = c.boundary - c.depth in
      let next = c.boundary + s in
      let rest = left_over from c.stretches in
      let over : places_of rest ≡ left_over from (places_of c.stretches) =
      sym (stretches-select bare (λ s. ltb s.left from) (λ s. ltb s.left from) (λ s. refl) c.stretches) in
      let new : ℕ → List Places = λ l. record { left = l; right = c.boundary; node = tt } ∷ [] in
      sym (stretches-select bare (kept next) (kept next) (λ s. refl) (ended tree c))
      ∙ ap (select (kept next)) (stretches-append bare rest _)
      ∙ ap (λ l. select (kept next) (places_of rest ++ new l)) (sym (stretches-cut bare from rest))
      ∙ ap (λ ss. select (kept next) (ss ++ new (cut from ss))) over

  -- Each lies before the boundary, and they are five at most.
  pub spans_fit : (D b lo : ℕ) (ss : List (Stretch E)) → b < 2 ^ 32 → Spans D b lo ss → All (Lies b) (places_of ss)
  spans_fit D b lo [] h p = tt
  spans_fit D b lo (s ∷ ss) h p = (
    record { some-length = omega (arith, p.1, p.3); before = omega (arith, p.1); small = h },
    spans_fit D b s.right ss h p.4,
  )

  pub spans-few : (D b : ℕ) (ss : List (Stretch E)) → 1 ≤ D → D ≤ 1024 → Spans D b 0 ss → length (places_of ss) ≤ 5
  spans-few D b ss i h p =
      omega (arith, stretches-length bare ss, four-few (length ss) (omega (arith, short D b 0 ss i p)))

-- A round that matched too little leaves nothing where nothing was remembered.
pub none_kept : (from b next : ℕ) → from ≤ b → b < next → b - from < 4 * (next - b) → renewed from b next [] ≡ []
none_kept from b next i j h = cc (lt-leb (4 * (next - b)) (b - from) h)

-- No stretch is in use.
module _ (f : image.Spans) (none : f.used ≡ 0) where
  bare_use : in_use f ≡ []
  bare_use = rw none

  pub none-renewed : (b depth by : ℕ) → depth ≤ b → 1 ≤ by → depth < 4 * by → in_use f ≡ renewed (b - depth) b (b + by) (in_use f)
  none-renewed b depth by i j h =
      bare_use
      ∙ sym (ap (renewed (b - depth) b (b + by)) bare_use ∙ none_kept (b - depth) b (b + by) (omega arith) (omega arith) (omega arith))

  pub none-loose : (b q : ℕ) → loose b q (in_use f) ≡ b - q
  none-loose b q = ap (loose b q) bare_use

-- What is loose is no more than there are places.
pub loose-upto : (b q : ℕ) (ss : List Places) → q ≤ b → All (Lies b) ss → loose b q ss ≤ b - q
loose-upto b q [] h a = omega arith
loose-upto b q (s ∷ ss) h a =
    let l = a.0 in omega (arith, l.some-length, l.before, loose-upto b (max q s.right) ss (omega (arith, l.before)) a.1)
