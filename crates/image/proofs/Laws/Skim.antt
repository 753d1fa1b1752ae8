-- Rounds that end at their first or second byte, one after the other.
use Prim.Native.Nat.{ℕ, ◌+◌, ◌-◌, ◌*◌, ◌^◌, ◌≤◌}
use native.Mathlib.Omega.{arith}
use mathlib.Core.Path.{◌≡◌, refl, ap, sym, subst, ◌∙◌}
use mathlib.Core.List.{List, []}
use mathlib.Core.Option.{some}
use lib.ListN.{get_or}
use Rattle.rules.proofs.Laws.Tests.{split}
use Rattle.rules.proofs.Laws.Exact.Shift.{shift-upto}
use Rattle.book.specs.Book.{max_image, max_body}
use Rattle.book.proofs.Laws.Accepted.{accepted-setting}
use Rattle.image.specs.declared.caches.Caches.{Caches}
use Rattle.image.specs.Rule5.{tokens_of, words_in, BySkip}
use Rattle.image.specs.Sweeping.{Stands, Cached, Four, Paired, Skimmable, on_at, Leads}
use Rattle.image.proofs.Laws.RoundByRound.{looks-small, short-upto}
use Rattle.image.proofs.Laws.ShortRounds.{skims, skims-two}

pub cached-is : {image : List ℕ} {caches : Caches} {b m n : ℕ} → Cached image caches b m → m ≡ n → Cached image caches b n
cached-is {image} {caches} {b} k e = subst (Cached image caches b) e k

module _ {image : List ℕ} {caches : Caches} {S : ℕ} where
  -- None leads nowhere,
  pub lead-none : (b used : ℕ) → Leads image caches S b used b 0
  lead-none b used = record {
    stands = λ book right paired short at here none found s. let z : at.fetched + 0 ≡ at.fetched = omega arith in rw (sym here, z) s;
  }

  -- some lead on from where others led,
  pub lead-on : {b used c d m n : ℕ} → Leads image caches S b used c m → Leads image caches S c used d n → Leads image caches S b used d (m + n)
  lead-on {c = c} {m = m} {n} f g = record {
    stands = λ book right paired short at here none found s.
        let z : at.fetched + (m + n) ≡ at.fetched + m + n = omega arith in
        rw z (g.stands book right paired short (on_at at c m) refl none found (f.stands book right paired short at here none found s));
  }

  -- one leads to where the cache says,
  pub lead-one : {b by : ℕ} → Cached image caches b by → (by ≡ 0 → ⊥) → Leads image caches S b 0 (b + by) 1
  lead-one {b} {by} c d = record {
    stands = λ book right paired short at here none found s.
        let e : b + by ≡ at.boundary + get_or caches.skip (get_or image (at.boundary - 1) 0) 0 = rw here (ap (λ n. b + n) c.shift) in
        rw e
        (skims book image at found s (omega (arith, here, c.inside)) none caches.skip (subst (λ n. BySkip book n caches.skip) short right)
        (get_or image (at.boundary - 1) 0) refl (rw here c.byte) (rw here (λ z. d (c.shift ∙ z))));
  }

  -- by its second byte too,
  pub lead-two : {b by : ℕ} → Paired image caches b by → (by ≡ 0 → ⊥) → Leads image caches S b 0 (b + by) 2
  lead-two {b} {by} c d = record {
    stands = λ book right paired short at here none found s.
        let y = get_or image (b - 2) 0 in
        let x = get_or image (b - 1) 0 in
        let seen = paired.right y x c.second c.first (λ z. d (c.shift ∙ z)) in
        let e : b + by ≡ at.boundary + get_or caches.pairs (256 * y + x) 0 = rw here (ap (λ n. b + n) c.shift) in
        rw e
        (skims-two book image at found s (omega (arith, here, c.inside)) none y x (get_or caches.pairs (256 * y + x) 0) seen
        (omega (arith, here, c.before)) (rw here refl) (rw here refl));
  }

  -- and four by four times S.
  pub lead-four : {b : ℕ} → 1 ≤ S → Four image caches b S → Leads image caches S b 0 (b + 4 * S) 4
  lead-four {b} i f =
      let d : S ≡ 0 → ⊥ = λ z. absurd (omega arith) in
      let two : Leads image caches S (b + S) 0 (b + 2 * S) 1 = let z : b + 2 * S ≡ b + S + S = omega arith in rw z (lead-one f.two d) in
      let three : Leads image caches S (b + 2 * S) 0 (b + 3 * S) 1 = let z : b + 3 * S ≡ b + 2 * S + S = omega arith in rw z (lead-one f.three d) in
      let four : Leads image caches S (b + 3 * S) 0 (b + 4 * S) 1 = let z : b + 4 * S ≡ b + 3 * S + S = omega arith in rw z (lead-one f.four d) in
      lead-on (lead-on (lead-on (lead-one f.one d) two) three) four

-- The rounds from boundary b up to another were skimmed, with so many looks at the image.
pub record Skimming (image : List ℕ) (caches : Caches) (S b at looks : ℕ) : Type 0 where
  pub leads : Leads image caches S b 0 at looks
  pub up : b ≤ at
  pub positive : 1 ≤ at
  pub near : at ≤ max_image + max_body
  pub few : looks ≤ 2 ^ 36

module _ {image : List ℕ} {caches : Caches} {S b : ℕ} (g : Skimmable image caches S b 0) where
  -- where the sweep stands then
  stands_on : {at looks : ℕ} → Leads image caches S b 0 at looks → Stands g.book image (on_at g.at at looks) g.known.found
  stands_on leads = leads.stands g.book g.right g.paired g.short g.at g.place g.spans g.known.found g.known.stands

  pub skimming : {at looks : ℕ} → b ≤ at → Leads image caches S b 0 at looks → Skimming image caches S b at looks
  skimming {at} {looks} up leads =
      let s = stands_on leads in
      record {
        leads = leads;
        up = up;
        positive = s.positive;
        near = omega (arith, s.near, g.within);
        few = omega (arith, looks-small g.book image (on_at g.at at looks) g.known.found s g.within);
      }

  -- They can be skimmed from there,
  pub skimmable-on : {at looks : ℕ} → Skimming image caches S b at looks → Skimmable image caches S at 0
  skimmable-on {at} {looks} k = record {
    book = g.book;
    at = on_at g.at at looks;
    known = record { found = g.known.found; stands = stands_on k.leads };
    place = refl;
    spans = g.spans;
    within = g.within;
    right = g.right;
    paired = g.paired;
    short = g.short;
  }

  -- and S is a shift, which no cached one is above.
  pub short-some : (1 ≤ S) × (S ≤ 1024)
  short-some =
      let s = g.known.stands in (
        omega (arith, g.short, (accepted-setting g.book (tokens_of g.book) s.read).positive),
        omega (arith, g.short, short-upto g.book image s.read),
      )

  pub cached-upto : (c by : ℕ) → Cached image caches c by → by ≤ S
  cached-upto c by k =
      let x = get_or image (c - 1) 0 in
      split by 0
      (λ e. omega arith)
      (λ d.
      let r = (g.right.right x k.byte (λ z. d (k.shift ∙ z))).1 in
      omega (arith, k.shift, r, shift-upto (words_in g.book) S short-some.0 [] (some x)))
