-- A sweep round by round: how it begins, what a round does, where it ends, and that its counts stay small.
use Prim.Native.Nat.{ℕ, suc, ◌+◌, ◌-◌, ◌*◌, ◌≤◌, ◌<◌, ◌^◌}
use Rattle.std.proofs.Common.{arith, ap, sym, subst, ◌∙◌, length-append}
use Rattle.std.specs.Prelude.{◌≡◌, length}
use Rattle.std.proofs.Math.Path.{refl}
use mathlib.Core.List.{List, [], ◌∷◌, ◌++◌, append-nil, append_assoc}
use Rattle.rules.specs.Rules.{Stretch, Event, done, trace}
use Rattle.rules.specs.Words.{all_words}
use Rattle.rules.specs.Tokens.{of_tokens, shift_of, shortest_of, longest_of}
use Rattle.rules.specs.Sweep.{happens, bytes_of, places, recalls, looks, hits}
use Rattle.rules.specs.Stretches.{loose}
use Rattle.rules.proofs.Laws.Limit.Looks.{looks-split}
use Rattle.rules.proofs.Laws.Exact.Shift.{shift-ge, shift-upto}
use Rattle.book.specs.Book.{read_book, accepted, max_image, max_body}
use Rattle.rules.proofs.Laws.Lengths.{shortest-is}
use Rattle.book.proofs.Laws.Accepted.{accepted-setting, accepted-longest, accepted-some, accepted-fit}
use Rattle.book.proofs.Laws.Sweep.{book-looks}
use Rattle.whole.specs.Image.{hits_of, fetches_of, spares_of}
use Rattle.image.specs.Rounds.{Reached, reached, met, lowest, start_at, fetches_from, spares_from}
use Rattle.image.specs.Spans.{places_of, in_use, renewed, Fits}
use Rattle.image.specs.Rule5.{tokens_of}
use Rattle.image.specs.Sweeping.{Standing, Stands}
use Rattle.image.proofs.Laws.Round.{Round, afterwards, round, first-starts}
use Rattle.image.proofs.Laws.Events.{trace-few, trace-over}
use Rattle.image.proofs.Laws.Places.{loose-places, ended-places, spans_fit, spans-few}

module _ (book image : List ℕ) where
  abbrev ts : List (List ℕ)
  ts = tokens_of book

  abbrev S : ℕ
  S = shortest_of ts

  abbrev D : ℕ
  D = longest_of ts

  pub short-upto : read_book book ≡ accepted ts → S ≤ max_body
  short-upto read = let s = shortest-is ts (accepted-some book ts read) in omega (arith, (accepted-fit book ts read).each s.0 s.1)

  -- At the start nothing is found.
  pub begins : (at : Standing) → read_book book ≡ accepted ts → at.boundary ≡ S → in_use at.spans ≡ [] → at.spans.used ≡ 0 → at.fetched ≡ 0
      → at.spared ≡ 0 → at.hits ≡ 0 → Stands book image at []
  unfolding happens
  begins at read e u w f g h =
      let setting = accepted-setting book ts read in
      let fuel = suc (length image) * (D + 2) in
      record {
        read = read;
        stretches = [];
        fuel = fuel;
        count = 0;
        starts = rw e (first-starts ts S D setting image);
        remembered = u;
        few = omega arith;
        finds = rw e refl;
        fetches = let z : fetches_from ts S D setting image fuel 0 at.boundary [] ≡ fetches_of ts image = rw e refl in omega (arith, f);
        spares = let z : spares_from ts S D setting image fuel 0 at.boundary [] ≡ spares_of ts image = rw e refl in omega (arith, g);
        counted = h;
        positive = omega (arith, e, setting.positive);
        near = omega (arith, e, short-upto read);
      }

  abbrev all : List (Event (List ℕ))
  all = happens ts (length image) (bytes_of image)

  -- All looks are few enough to count, and so is all that is fetched, spared and found.
  module _ (read : read_book book ≡ accepted ts) (small : length image ≤ max_image) where
    few-looks : length (looks all) ≤ 16777216 * 1024
    few-looks = book-looks book ts read (length image) (bytes_of image) small

    few-hits : length (hits all) ≤ 16777216 * 1024
    unfolding happens
    few-hits =
        let fuel = suc (length image) * (D + 2) in
        omega (arith, trace-few (of_tokens ts S) (length image) (bytes_of image) fuel 0 (start_at S []), few-looks)

  module _ (at : Standing) (found : List (ℕ × ℕ)) (s : Stands book image at found) where
    -- Past the image nothing is left: all is found, and all was fetched and spared.
    module _ (h : length image < at.boundary) where
      none : {A : Type 0} (f : List (Event (List ℕ)) → List A) → f [] ≡ [] → f (done ∷ []) ≡ []
          → f (trace (of_tokens ts S) (length image) (bytes_of image) s.fuel s.count (start_at at.boundary s.stretches)) ≡ []
      none f e g = trace-over (of_tokens ts S) (length image) (bytes_of image) f e g s.fuel s.count (start_at at.boundary s.stretches) h

      pub all_found : found ≡ hits_of ts image
      all_found = sym (append-nil found) ∙ ap (λ l. found ++ l) (sym (none hits refl refl)) ∙ s.finds

      pub all-counted : (at.fetched ≡ fetches_of ts image) × (at.spared ≡ spares_of ts image)
      all-counted = omega (arith, s.fetches, s.spares, ap length (none places refl refl), ap length (none recalls refl refl))

    -- What the code asks of the counts and of the stretches.
    module _ (small : length image ≤ max_image) where
      pub hits-small : at.hits ≤ 2 ^ 36
      hits-small =
          let l = ap length s.finds in
          omega (arith, s.counted, rw length-append at l, few-hits s.read small)

      pub looks-small : at.fetched + at.spared ≤ 2 ^ 36
      looks-small = omega (arith, s.fetches, s.spares, looks-split all, few-looks s.read small)

      pub stands-fit : Fits at.boundary at.spans
      stands-fit = record {
        few = s.few;
        each = rw s.remembered (spans_fit D at.boundary 0 s.stretches (omega (arith, s.near)) s.starts.spans);
      }

    -- A round.
    module _ (h : at.boundary ≤ length image) where
      abbrev b : ℕ
      b = at.boundary

      abbrev r : Reached (List ℕ)
      r = reached (of_tokens ts S) image b

      abbrev by : ℕ
      by = shift_of (all_words ts) S r.node r.closing

      turn : Round ts S D (accepted-setting book ts s.read) image b s.stretches s.fuel s.count
      turn = round ts S D (accepted-setting book ts s.read) image b s.stretches s.fuel s.count s.starts h

      abbrev ss : List (Stretch (List ℕ))
      ss = afterwards ts S D (accepted-setting book ts s.read) image b s.stretches

      after-places : places_of ss ≡ renewed (b - r.depth) b (b + by) (in_use at.spans)
      after-places =
          ended-places (of_tokens ts S) (record { boundary = b; node = r.node; depth = r.depth; stretches = s.stretches }) by
          ∙ ap (renewed (b - r.depth) b (b + by)) (sym s.remembered)

      pub renewed-few : length (renewed (b - r.depth) b (b + by) (in_use at.spans)) ≤ 5
      renewed-few =
          let d = accepted-longest book ts s.read in
          subst (λ l. length l ≤ 5) after-places (spans-few D (b + by) ss d.0 d.1 turn.starts.spans)

      loose_same : loose b (lowest b r) (in_use at.spans) ≡ loose b (lowest b r) s.stretches
      loose_same = ap (loose b (lowest b r)) s.remembered ∙ loose-places b (lowest b r) s.stretches

      pub raised : (1 ≤ by) × (by ≤ max_body)
      raised = (
        shift-ge (all_words ts) S r.node r.closing,
        omega (arith, short-upto s.read, shift-upto (all_words ts) S (accepted-setting book ts s.read).positive r.node r.closing),
      )

      -- How deep it goes: it matches as many bytes.
      pub depths : (r.depth ≤ b) × (r.depth ≤ max_body)
      depths = (turn.inside, omega (arith, turn.short, accepted-longest book ts s.read))

      pub matches : r.depth ≡ length r.node
      matches = turn.deep

      pub turns : (after : Standing) → after.boundary ≡ b + by
          → in_use after.spans ≡ renewed (b - r.depth) b (b + by) (in_use at.spans) → after.spans.used ≤ 5
          → after.fetched ≡ at.fetched + loose b (lowest b r) (in_use at.spans)
          → lowest b r + loose b (lowest b r) (in_use at.spans) + after.spared ≡ b + at.spared
          → after.hits ≡ at.hits + length (met (of_tokens ts S) image b)
          → Stands book image after (found ++ met (of_tokens ts S) image b)
      turns after e u w f p g = record {
        read = s.read;
        stretches = ss;
        fuel = turn.left;
        count = turn.count;
        starts = rw e turn.starts;
        remembered = u ∙ sym after-places;
        few = w;
        finds =
            rw e (append_assoc found (met (of_tokens ts S) image b) _ ∙ ap (λ l. found ++ l) (sym turn.finds) ∙ s.finds);
        fetches = rw e (omega (arith, f, loose_same, turn.fetches, s.fetches));
        spares = rw e (omega (arith, p, loose_same, turn.spares, s.spares));
        counted = g ∙ rw length-append (omega (arith, s.counted));
        positive = omega (arith, s.positive);
        near = omega (arith, e, raised);
      }
