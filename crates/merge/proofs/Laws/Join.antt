-- What `join` answers, by what the survey found.
use Prim.Native.Nat.{ℕ, ◌≤◌, ◌<◌}
use mathlib.Core.Path.{◌≡◌, refl}
use mathlib.Core.Bool.{false}
use mathlib.Core.List.{List}
use borrow.Author.Tests.{lt-ltb, le-ltb}
use lib.ListN.{length}
use Rattle.std.specs.Prelude.{Result, Ok, Err}
use Rattle.rules.specs.Lists.{over}
use Rattle.rules.proofs.Laws.Tests.{decide}
use Rattle.book.specs.Bytes.{book_of}
use Rattle.merge.specs.Merge.{merged, over_limits, wrote, no_room, join}
use Rattle.merge.specs.Answers.{answer_of}
use Rattle.merge.specs.Steps.{Marks, Surveyed}
use Rattle.merge.specs.declared.Refusal.{Refusal}
use Rattle.merge.specs.declared.survey.Marked.{Marked}

module _ {tokens others : List (List ℕ)} where
  pub refuses : (why : Refusal) → Surveyed tokens others (Err why) → (out : List ℕ) → record { answer = answer_of (Err why); out = out } ≡ join tokens others out
  refuses why s out =
      decide {X = Result ℕ Refusal} (λ f. Err why ≡ f → record { answer = answer_of (Err why); out = out } ≡ join tokens others out) (over_limits tokens others) _ _
      (λ t q. let z = q in cc t) (λ t q. cc q) s.fits

  module _ (m : Marked) (s : Surveyed tokens others (Ok m)) where
    fits : (over_limits tokens others ≡ false) × (m.length ≡ length (book_of (merged tokens others)))
    fits =
        decide {X = Result ℕ Refusal} (λ f. Ok m.length ≡ f → (over_limits tokens others ≡ false) × (m.length ≡ length (book_of (merged tokens others)))) (over_limits tokens others) _ _
        (λ t q. cc q) (λ t q. (t, cc)) s.fits

    pub too_short_lem : (out : List ℕ) → length out < m.length → record { answer = no_room m.length; out = out } ≡ join tokens others out
    too_short_lem out h = rw fits.1 (cc (fits.0, lt-ltb (length out) (length (book_of (merged tokens others))) (rw fits.1 at h)))

    pub room : (out : List ℕ) → m.length ≤ length out → length (book_of (merged tokens others)) ≤ length out
    room out h = rw fits.1 at h

    pub told : Marks tokens others m.marks
    told = s.tells m refl

    pub written : (out out' : List ℕ) → m.length ≤ length out → out' ≡ over (book_of (merged tokens others)) out
        → record { answer = wrote m.length; out = out' } ≡ join tokens others out
    written out out' h o =
        rw (fits.1, o) (cc (fits.0, le-ltb (length out) (length (book_of (merged tokens others))) (room out h)))
