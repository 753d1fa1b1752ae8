-- Storing a record, and the loop of `write`, over plain lists.
use Prim.Native.Nat.{ℕ, ◌+◌, ◌-◌, ◌≤◌, ◌<◌}
use native.Mathlib.Omega.{arith}
use native.Mathlib.Numerals.{add-one}
use mathlib.Core.Path.{◌≡◌, ap, sym, ◌∙◌}
use mathlib.Core.Bool.{Bool, false}
use mathlib.Core.List.{List, [], ◌∷◌, ◌++◌, append_assoc, append-nil}
use lib.ListN.{length, get_or, take, drop, set, length-append, take-append-drop}
use lib.Seq.{length-take-le, take_at, take-length, take-append_seam, drop-drop, drop-cons, append_snoc, set-append_seam}
use Rattle.rules.specs.Lists.{over, select}
use Rattle.rules.proofs.Laws.All.{select-append}
use Rattle.rules.proofs.Laws.Over.{over-length, over-behind, over-over}
use Rattle.book.specs.Book.{whole_at, bodies_in}
use Rattle.book.specs.Bytes.{records_of, book_of}
use Rattle.book.proofs.Laws.Bytes.{record-at, records-append}
use Rattle.merge.specs.Merge.{lacks, merged}
use Rattle.merge.specs.Steps.{Marks, if_wanted, placed}
use Rattle.merge.proofs.Laws.Walk.{Walk, walk_begins, walk_ends, walk-some, walk-body, walk-size, walk-next}
use Rattle.merge.proofs.Laws.More.{records-more}

over-placed : (m n l : List ℕ) → placed (over m l) (length m) n ≡ over (m ++ n) l
over-placed m n l = rw (take-append_seam, over-behind, length-append)

over-set : (m l : List ℕ) (a : ℕ) → length m < length l → set (over m l) (length m) a ≡ over (m ++ (a ∷ [])) l
over-set m l a h = rw (drop-cons l (length m) 0 h, set-append_seam, length-append, append_snoc, add-one)

-- No bytes placed change nothing, and bytes are placed by a copy into the output from place `to` on.
module _ (out : List ℕ) (to : ℕ) where
  pub placed-none : out ≡ placed out to []
  placed-none = let z : to + 0 ≡ to = omega arith in rw (append-nil, z) (sym (take-append-drop to out))

  pub placed-copy : (part new : List ℕ) → new ≡ part → take to out ++ (new ++ drop (to + length part - to) (drop to out)) ≡ placed out to part
  placed-copy part new e = let z : to + length part - to ≡ length part = omega arith in rw (e, z, drop-drop, append_assoc)

merged-append : (tokens l m : List (List ℕ)) → merged tokens (l ++ m) ≡ merged tokens l ++ select (lacks tokens) m
merged-append tokens l m = rw (select-append, append_assoc)

-- The first book's records and those of the first k tokens of the second that it lacks; and the book of all.
module _ (first second : List ℕ) where
  abbrev pub up_to : ℕ → List ℕ
  up_to k = records_of (merged (bodies_in first) (take k (bodies_in second)))

  abbrev pub whole : List ℕ
  whole = book_of (merged (bodies_in first) (bodies_in second))

  up-to-none : up_to 0 ≡ records_of (bodies_in first)
  up-to-none = rw append-nil

  up_to_fits : (k : ℕ) → length (up_to k) < length whole
  up_to_fits k =
      let ts = bodies_in first in
      let os = bodies_in second in
      let e = ap (merged ts) (sym (take-append-drop k os)) ∙ merged-append ts (take k os) (drop k os) in
      rw e (simp (records-append, length-append) (omega arith))

  records-fit : length (records_of (bodies_in first)) < length whole
  records-fit = rw up-to-none at (up_to_fits 0)

-- The first i tokens of the second book are passed, and the records merged so far, up to place `to`, are written over the output `l`.
pub record Written (first second l out : List ℕ) (to at i : ℕ) : Type 0 where
  pub walk : Walk second at i
  pub room : length (whole first second) ≤ length l
  pub ends : to ≡ length (up_to first second i)
  pub is : out ≡ over (up_to first second i) l

but_last : (book m : List ℕ) (a : ℕ) → book ≡ m ++ (a ∷ []) → take (length book - 1) book ≡ m
but_last book m a e =
    let n : length m ≡ length (m ++ (a ∷ [])) - 1 = rw length-append (omega arith) in
    rw e (take_at m (a ∷ []) _ n)

-- The first book, all but its last byte, is copied into the output `l`.
module _ (first second l : List ℕ) (made : first ≡ book_of (bodies_in first)) (fits : length (whole first second) ≤ length l) where
  abbrev pub front : List ℕ
  front = take (length first - 1) first

  front-records : front ≡ records_of (bodies_in first)
  front-records = but_last first (records_of (bodies_in first)) 0 made

  front-length : length first - 1 ≡ length (records_of (bodies_in first))
  front-length = sym (length-take-le (length first - 1) first (omega arith)) ∙ ap length front-records

  pub front_fits : length first - 1 ≤ length l
  front_fits = omega (arith, front-length, records-fit first second)

  module _ (out : List ℕ) (o : out ≡ front ++ drop (length first - 1) l) where
    pub copied : out ≡ over (records_of (bodies_in first)) l
    copied =
        o ∙ ap (λ m. m ++ drop (length first - 1) l) front-records
        ∙ ap (λ k. records_of (bodies_in first) ++ drop k l) front-length

    pub begins : Written first second out out (length first - 1) 0 0
    begins =
        let records = records_of (bodies_in first) in
        record {
          walk = walk_begins second;
          room = rw (copied, over-length records l (omega (arith, records-fit first second))) fits;
          ends = front-length ∙ ap length (sym (up-to-none first second));
          is = rw (up-to-none first second, copied, over-over records records l (omega arith));
        }

module _ {first second l out : List ℕ} {to at i : ℕ} (w : Written first second l out to at i) where
  out-length : length out ≡ length l
  out-length = ap length w.is ∙ over-length (up_to first second i) l (omega (arith, up_to_fits first second i, w.room))

  pub to_inside : to < length out
  to_inside = omega (arith, up_to_fits first second i, w.room, w.ends, out-length)

  -- A whole record stands at `at`.
  module _ (n : ℕ) (e : n ≡ whole_at second at) (h : (n ≡ 0 → ⊥)) (marks : List Bool) (m : Marks (bodies_in first) (bodies_in second) marks) where
    abbrev pub part : List ℕ
    part = if_wanted (get_or marks i false) (take (at + 1 + n - at) (drop at second))

    more : up_to first second (i + 1) ≡ up_to first second i ++ part
    more =
        let some = walk-some w.walk n e h in
        let z : at + 1 + n - at ≡ 1 + n = omega arith in
        rw (z, record-at second at n e (omega arith), m i some, ← walk-body w.walk n e h)
        (rw (walk-size w.walk n e h) at (records-more (bodies_in first) (bodies_in second) i some))

    pub part-fits : to + length part ≤ length out
    part-fits = omega (arith, up_to_fits first second (i + 1), w.room, w.ends, out-length, simp length-append at (ap length more))

    pub again : (new : List ℕ) → new ≡ placed out to part → Written first second l new (to + length part) (at + 1 + n) (i + 1)
    again new o = record {
      walk = walk-next w.walk n e h;
      room = w.room;
      ends = rw (more, length-append, w.ends);
      is = o ∙ rw (w.is, w.ends, more) (over-placed (up_to first second i) part l);
    }

  -- No whole record stands at `at`. The output was `entry` before the first book was copied into it.
  pub done : whole_at second at ≡ 0 → (entry : List ℕ) → l ≡ over (records_of (bodies_in first)) entry
      → set out to 0 ≡ over (whole first second) entry
  done z entry o =
      let all : up_to first second i ≡ records_of (merged (bodies_in first) (bodies_in second)) = rw (walk_ends w.walk z, take-length) in
      let h : length (up_to first second i) < length l = omega (arith, to_inside, w.ends, out-length) in
      rw (w.is, w.ends, over-set (up_to first second i) l 0 h, all, o)
      (over-over (records_of (bodies_in first)) (whole first second) entry (omega (arith, records-fit first second)))
