-- The end of a round: what the skip cache learns, that the shift is as the rules say, and so what is fetched and remembered.
use Prim.Native.Nat.{ℕ, suc, ◌+◌, ◌-◌, ◌*◌, ◌^◌, ◌≤◌, ◌<◌, max}
use native.Mathlib.Omega.{arith}
use mathlib.Core.Path.{◌≡◌, refl, ap, sym, ◌∙◌}
use mathlib.Core.List.{List, [], ◌∷◌}
use mathlib.Core.Bool.{true, ◌&&◌}
use mathlib.Core.Option.{Option, some, none}
use borrow.Author.Tests.{eqb-true, ltb-true}
use lib.Dec.{eqb, ltb}
use lib.ListN.{length, get_or}
use Rattle.rules.specs.Lists.{any_of}
use Rattle.rules.specs.Tokens.{fits, node_shift, byte_shift, of_tokens, shift_of, shortest_of}
use Rattle.rules.specs.Stretches.{loose}
use Rattle.rules.proofs.Laws.Tests.{and_l, and_r, least-ge}
use Rattle.std.specs.Prelude.{Option as Answer, Some, None}
use Rattle.rules.specs.Options.{option_of}
use Rattle.image.specs.declared.walk.Arrival.{Arrival}
use Rattle.image.specs.declared.turn.Outcome.{Outcome}
use Rattle.image.specs.Rounds.{Reached, lowest}
use Rattle.book.specs.Book.{max_image}
use Rattle.image.specs.declared.spans.Spans.{Spans}
use Rattle.image.specs.Spans.{in_use, renewed, Fits}
use Rattle.image.specs.Rule5.{tokens_of, words_in, Accepted}
use Rattle.image.specs.Sweeping.{Standing, Known, lowest_of, Learns, end_at, shift_at, Sees, Ended}
use Rattle.image.proofs.Laws.Roots.{first-shut, down-closes}
use Rattle.image.proofs.Laws.Places.{none-renewed, none-loose, loose-upto}
use Rattle.image.proofs.Laws.RoundByRound.{depths, matches, raised, renewed-few, stands-fit, looks-small}

-- The leftmost place.
lowest-same : {E : Type 0} (b depth : ℕ) (stop : Answer ℕ) (r : Reached E) → depth ≡ r.depth → option_of stop ≡ r.closing
    → lowest_of b depth stop ≡ lowest b r
lowest-same b depth None r e c = cc
lowest-same b depth (Some x) r e c = cc

empty : (l : List ℕ) → length l ≡ 0 → l ≡ []
empty [] e = refl
empty (x ∷ l) e = absurd (omega arith)

-- The round from a standing ended where the rules say, at a node with its shift.
pub record Arrives (book image shift : List ℕ) (shortest : ℕ) (at : Standing) (arrival : Arrival) : Type 0 where
  pub read : Accepted book shortest
  pub known : Known book image at
  pub place : at.boundary ≤ length image
  pub held : arrival.node < length shift
  pub entry : get_or shift arrival.node 0 ≡ node_shift (words_in book) shortest (end_at book image at.boundary).node
  pub deep : arrival.depth ≡ (end_at book image at.boundary).depth
  pub closing : option_of arrival.closing ≡ (end_at book image at.boundary).closing
  pub many : arrival.met ≡ length (end_at book image at.boundary).tokens

module _ {book image shift : List ℕ} {S : ℕ} {at : Standing} {arrival : Arrival} (a : Arrives book image shift S at arrival) where
  abbrev b : ℕ
  b = at.boundary

  abbrev d : ℕ
  d = arrival.depth

  abbrev r : Reached (List ℕ)
  r = end_at book image b

  pub arrives-deep : d ≤ b
  arrives-deep = omega (arith, a.deep, depths book image at a.known.found a.known.stands a.place)

  long : d ≡ length r.node
  long = a.deep ∙ matches book image at a.known.found a.known.stands a.place

  pub arrives-some : 1 ≤ get_or shift arrival.node 0
  arrives-some = rw a.entry (least-ge (λ s. any_of (λ w. fits r.node w s) (words_in book)) 1 (S - 1))

  -- Its shift.
  module _ (by : ℕ) (e : by ≡ max (get_or shift arrival.node 0) (byte_shift (words_in book) S d (option_of arrival.closing))) where
    by-rule : by ≡ shift_of (words_in book) S r.node r.closing
    by-rule = rw (a.entry, long, a.closing) at e

    by-is : by ≡ shift_at book image b
    by-is = by-rule ∙ ap (λ n. shift_of (words_in book) n r.node r.closing) a.read.short

    pub by_near : by ≤ 1024
    by_near = rw by-is (raised book image at a.known.found a.known.stands a.place).1

    pub learns : Learns book S d arrival.closing by
    learns = record {
      none = λ x z c.
          first-shut (tokens_of book) (shortest_of (tokens_of book)) image b x (sym a.deep ∙ z) (sym a.closing ∙ c);
      right = λ x z c. rw (empty r.node (sym long ∙ z), sym a.closing ∙ c) at by-rule;
    }

    pub sees : (x : ℕ) → x ≡ get_or image (b - 1) 0 → Sees book image x d arrival.closing arrival.met by
    sees x is = record {
      seen = λ y one bare c.
          let shut = sym a.closing ∙ c in
          let deep = sym a.deep ∙ one in
          let k = down-closes (of_tokens (tokens_of book) (shortest_of (tokens_of book))) image b (suc b) [] 0 [] y shut in
          let p : b - 1 - r.depth ≡ b - 2 = omega arith in
          record {
            b = b;
            before = omega (arith, k.1, arrives-deep);
            first = sym is;
            second = rw p at k.0;
            deep = deep;
            closing = shut;
            unmet = empty (end_at book image b).tokens (sym a.many ∙ bare);
            shift = by-is;
          };
    }

    pub ended : (low hits : ℕ) → low ≡ lowest_of b d arrival.closing
        → Ended book image b (record { depth = d; low = low; by = by; hits = hits })
    ended low hits l = record { deep = a.deep; low = l ∙ lowest-same b d arrival.closing r a.deep a.closing; by = by-is }

-- Rules 4 to 6 from one standing to the next.
pub record Turned (book image : List ℕ) (at after : Standing) (hits : ℕ) : Type 0 where
  pub boundary : after.boundary ≡ at.boundary + shift_at book image at.boundary
  pub spans : in_use after.spans
      ≡ renewed (at.boundary - (end_at book image at.boundary).depth) at.boundary (at.boundary + shift_at book image at.boundary) (in_use at.spans)
  pub few : after.spans.used ≤ 5
  pub fetched : after.fetched ≡ at.fetched + loose at.boundary (lowest at.boundary (end_at book image at.boundary)) (in_use at.spans)
  pub spared : let low = lowest at.boundary (end_at book image at.boundary) in
      low + loose at.boundary low (in_use at.spans) + after.spared ≡ at.boundary + at.spared
  pub counted : after.hits ≡ hits

pub turned_as : {book image : List ℕ} {at : Standing} {b hits f g m n : ℕ} {s t : Spans} → s ≡ t → f ≡ g → m ≡ n
    → Turned book image at (record { boundary = b; spans = t; fetched = g; spared = n; hits = hits }) hits
    → Turned book image at (record { boundary = b; spans = s; fetched = f; spared = m; hits = hits }) hits
turned_as p q o w = rw (p, q, o) w

low-before : (b d : ℕ) (o : Option ℕ) → elim o [ none ↦ b - d | some x ↦ b - 1 - d ] ≤ b
low-before b d none = omega arith
low-before b d (some x) = omega arith

module _ {book image : List ℕ} {at : Standing} {a : Outcome} (k : Known book image at) (h : at.boundary ≤ length image)
    (w : length image ≤ max_image) (e : Ended book image at.boundary a) where
  abbrev here : ℕ
  here = at.boundary

  pub ended-numbers : (a.depth ≤ here) × (a.low ≤ here) × (1 ≤ a.by) × (a.by ≤ 1024) × (here ≤ max_image) × (at.fetched + at.spared ≤ 2 ^ 36)
  ended-numbers =
      let n = raised book image at k.found k.stands h in (
        omega (arith, e.deep, depths book image at k.found k.stands h),
        omega (arith, e.low, low-before here (end_at book image here).depth (end_at book image here).closing),
        omega (arith, e.by, n),
        omega (arith, e.by, n),
        omega (arith, h, w),
        looks-small book image at k.found k.stands w,
      )

  pub ended-fits : Fits here at.spans
  ended-fits = stands-fit book image at k.found k.stands w

  pub ended-few : length (renewed (here - a.depth) here (here + a.by) (in_use at.spans)) ≤ 5
  ended-few = rw (e.deep, e.by) (renewed-few book image at k.found k.stands h)

  pub ended-loose : loose here a.low (in_use at.spans) ≤ here - a.low
  ended-loose = loose-upto here a.low (in_use at.spans) ended-numbers.1 ended-fits.each

  -- With what is then fetched and remembered, the round is over;
  pub turned : (spans : Spans) (n hits : ℕ)
      → (in_use spans ≡ renewed (here - a.depth) here (here + a.by) (in_use at.spans)) × (spans.used ≤ 5)
      → n ≡ loose here a.low (in_use at.spans)
      → Turned book image at
      (record { boundary = here + a.by; spans = spans; fetched = at.fetched + n; spared = at.spared + (here - a.low - n); hits = hits }) hits
  turned spans n hits u f = record {
    boundary = ap (λ n. here + n) e.by;
    spans = u.0 ∙ rw (e.deep, e.by) refl;
    few = u.1;
    fetched = ap (λ n. at.fetched + n) (f ∙ ap (λ q. loose here q (in_use at.spans)) e.low);
    spared = rw (sym e.low, sym f) (omega (arith, ended-numbers.1, f, ended-loose));
    counted = refl;
  }

  -- mostly nothing is remembered, before and after.
  pub turned-bare : (hits : ℕ) → (eqb at.spans.used 0 && ltb a.depth (4 * a.by)) ≡ true
      → Turned book image at
      (record { boundary = here + a.by; spans = at.spans; fetched = at.fetched + (here - a.low); spared = at.spared; hits = hits }) hits
  turned-bare hits t =
      let n = ended-numbers in
      let bare : at.spans.used ≡ 0 = eqb-true _ _ (and_l (eqb at.spans.used 0) _ t) in
      let l : a.depth < 4 * a.by = ltb-true _ _ (and_r (eqb at.spans.used 0) _ t) in
      turned_as refl refl (omega arith)
      (turned at.spans (here - a.low) hits
      (none-renewed at.spans bare here a.depth a.by n.0 n.2 l, k.stands.few)
      (sym (none-loose at.spans bare here a.low)))
