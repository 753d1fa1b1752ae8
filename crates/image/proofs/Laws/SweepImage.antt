-- What the sweep of an image answers, from what reading the book, or building its tables, answered.
use Prim.Native.Nat.{ℕ, ◌+◌, ◌≤◌, ◌<◌, min}
use native.Mathlib.Omega.{arith}
use mathlib.Core.Path.{◌≡◌, refl, ap, sym, subst, ◌∙◌}
use mathlib.Core.Bool.{true, false}
use mathlib.Core.List.{List, map}
use borrow.Author.Tests.{lt-ltb, le-ltb}
use lib.ListN.{length, take, drop, length-append, length-take, length-drop, length-map}
use Rattle.rules.specs.Words.{all_words}
use Rattle.rules.specs.Tokens.{body_bytes}
use Rattle.rules.proofs.Laws.Tests.{decide, clash}
use Rattle.book.specs.Book.{Verdict, Reading, accepted, refused, Totals, summary, read_book, max_image, too_long}
use Rattle.book.proofs.Laws.Accepted.{Summed, accepted-fit, accepted-some}
use Rattle.tables.specs.Tables.{Tables, nodes, built, Lent, written, too_short, shortest_table, Sizes, sizes_of, Building, build}
use Rattle.tables.proofs.Laws.Made.{written-lent, answer_to, build-made}
use Rattle.tables.proofs.Laws.Represents.{built-represents}
use Rattle.whole.specs.Image.{Swept, room, hits_of, fetches_of, spares_of, counted, noted, sweep_image}
use Rattle.book.specs.Answers as reading
use Rattle.trie.specs.Answers as trie
use Rattle.trie.specs.declared.Refusal.{Refusal as Unbuilt}
use Rattle.trie.specs.declared.Refusal.TheVariants.{Unread, TooShort}
use Rattle.image.specs.declared.Found.{Found}
use Rattle.image.specs.declared.Refusal.{Refusal}
use Rattle.image.specs.Results.{swept_of, fetched_of, spared_of, unbuilt, refusal_for}
use Rattle.std.specs.Prelude.{Result, Ok, Err}
use Rattle.std.specs.Result.{IsErr, IsErrAnd}
use Rattle.image.specs.Rule5.{tokens_in, tokens_of}
use Rattle.image.specs.Sweeping.{Given}

-- The answers to a reading: where the image is over its limit, and in general.
abbrev refusal_to : Tables → Reading → Verdict ℕ
refusal_to t r = elim r [
  | refused k v ↦ refused k v
  | accepted tokens ↦ elim (too_short t tokens) [ true ↦ refused 7 (1 + body_bytes tokens) | false ↦ refused 8 max_image ]
]

module _ (image : List ℕ) (t : Tables) (ends numbers : List ℕ) where
  -- nothing is touched
  abbrev untouched : Verdict ℕ → Swept
  untouched v = record { answer = v; fetched = 0; spared = 0; tables = t; ends = ends; tokens = numbers }

  abbrev whole : List (List ℕ) → Swept
  whole tokens = let found = hits_of tokens image in
      let r = room ends numbers in
      record {
        answer = counted r (length found);
        fetched = fetches_of tokens image;
        spared = spares_of tokens image;
        tables = written (built tokens) t;
        ends = noted (λ h. h.0) r found ends;
        tokens = noted (λ h. h.1) r found numbers;
      }

  abbrev swept_to : Reading → Swept
  swept_to r = elim r [
    | refused k v ↦ untouched (refused k v)
    | accepted tokens ↦ elim (too_short t tokens) [
      | true ↦ untouched (refused 7 (1 + body_bytes tokens))
      | false ↦ elim (too_long (length image)) [ true ↦ untouched (refused 8 max_image) | false ↦ whole tokens ]
    ]
  ]

module _ (book : List ℕ) (t : Tables) where
  -- refusals 1 to 6
  pub refusal-unread : (k v : ℕ) → refused k v ≡ summary (read_book book) → refused k v ≡ refusal_for book t
  refusal-unread k v = go (read_book book)
    where
      go : (r : Reading) → refused k v ≡ summary r → refused k v ≡ refusal_to t r
      go (accepted tokens) q = absurd (let z : ◌≡◌ {A = ℕ} 0 1 = cc in omega arith)
      go (refused l w) q = cc

  -- 7 and 8
  module _ (totals : Totals) (s : Summed book totals) (entries : ℕ) (e : entries ≡ shortest_table t) where
    bodies : totals.bodies ≡ body_bytes s.tokens
    bodies = ap (λ a. a.bodies) s.sums

    to-short : too_short t s.tokens ≡ true → refused 7 (1 + body_bytes s.tokens) ≡ refusal_to t (accepted s.tokens)
    to-short q = cc

    to-long : too_short t s.tokens ≡ false → refused 8 max_image ≡ refusal_to t (accepted s.tokens)
    to-long q = cc

    pub refusal-short : entries < 1 + totals.bodies → refused 7 (1 + totals.bodies) ≡ refusal_for book t
    refusal-short h =
        ap (λ n. refused 7 (1 + n)) bodies
        ∙ to-short (lt-ltb (shortest_table t) (1 + body_bytes s.tokens) (omega (arith, bodies)))
        ∙ ap (refusal_to t) (sym s.read)

    pub refusal-long : 1 + totals.bodies ≤ entries → refused 8 max_image ≡ refusal_for book t
    refusal-long h =
        to-long (le-ltb (shortest_table t) (1 + body_bytes s.tokens) (omega (arith, bodies))) ∙ ap (refusal_to t) (sym s.read)

module _ (book image : List ℕ) (t : Tables) (ends numbers : List ℕ) where
  -- an image over its limit
  pub answer-long : max_image < length image → (v : Verdict ℕ) (f g : ℕ) → v ≡ refusal_for book t → f ≡ 0 → g ≡ 0
      → record { answer = v; fetched = f; spared = g; tables = t; ends = ends; tokens = numbers } ≡ sweep_image book image t ends numbers
  answer-long h v f g e z y = rw (z, y) (ap (untouched image t ends numbers) e ∙ go (read_book book))
    where
      long : too_long (length image) ≡ true
      long = lt-ltb max_image (length image) h

      go : (r : Reading) → untouched image t ends numbers (refusal_to t r) ≡ swept_to image t ends numbers r
      go (refused k v) = refl
      go (accepted tokens) =
          decide (λ v. untouched image t ends numbers v ≡ swept_to image t ends numbers (accepted tokens)) (too_short t tokens) _ _ (λ q. cc) (λ q. cc long)

  -- building is refused
  module _ (k v : ℕ) (u : Tables) where
    abbrev here : Building
    here = record { answer = refused k v; tables = u }

    abbrev there : Swept
    there = record { answer = refused k v; fetched = 0; spared = 0; tables = u; ends = ends; tokens = numbers }

    same : (l w : ℕ) → here ≡ record { answer = refused l w; tables = t } → there ≡ untouched image t ends numbers (refused l w)
    same l w e =
        let a : ◌≡◌ {A = Verdict Sizes} (refused k v) (refused l w) = ap (λ b. b.answer) e in
        let b : u ≡ t = ap (λ b. b.tables) e in
        cc

    other : (sizes : Sizes) (u : Tables) → here ≡ record { answer = accepted sizes; tables = u } → ⊥
    other sizes u e =
        let a : ◌≡◌ {A = Verdict Sizes} (refused k v) (accepted sizes) = ap (λ b. b.answer) e in
        let z : ◌≡◌ {A = ℕ} 0 1 = cc in
        omega arith

    to-untouched : (tokens : List (List ℕ)) → too_short t tokens ≡ true
        → untouched image t ends numbers (refused 7 (1 + body_bytes tokens)) ≡ swept_to image t ends numbers (accepted tokens)
    to-untouched tokens q = cc

    by-reading : (r : Reading) → here ≡ answer_to t r → there ≡ swept_to image t ends numbers r
    by-reading (refused l w) = same l w
    by-reading (accepted tokens) =
        decide (λ b. here ≡ b → there ≡ swept_to image t ends numbers (accepted tokens)) (too_short t tokens) _ _
        (λ q e. same 7 (1 + body_bytes tokens) e ∙ to-untouched tokens q)
        (λ _ e. absurd (other _ _ e))

    answer-refused : here ≡ build book t → there ≡ sweep_image book image t ends numbers
    answer-refused = by-reading (read_book book)

  pub answer-unbuilt : (why : Unbuilt) (r : Result Found Refusal) (u : Tables) → IsErr r × IsErrAnd r (λ e. e ≡ unbuilt why)
      → record { answer = refused (trie.refusal_of why).0 (trie.refusal_of why).1; tables = u } ≡ build book t
      → record { answer = swept_of r; fetched = fetched_of r; spared = spared_of r; tables = u; ends = ends; tokens = numbers }
      ≡ sweep_image book image t ends numbers
  answer-unbuilt why (Ok found) u e q = absurd (clash false e.0 refl)
  answer-unbuilt (Unread why) (Err r) u e q = rw e.1 (answer-refused (reading.refusal_of why).0 (reading.refusal_of why).1 u q)
  answer-unbuilt (TooShort n) (Err r) u e q = rw e.1 (answer-refused 7 n u q)

-- The tables are built.
pub record Built (book : List ℕ) (t u : Tables) (sizes : Sizes) : Type 0 where
  pub read : read_book book ≡ accepted (tokens_of book)
  pub long : too_short t (tokens_of book) ≡ false
  pub sized : sizes ≡ sizes_of (tokens_of book)
  pub filled : u ≡ written (built (tokens_of book)) t

module _ (book : List ℕ) (t u : Tables) (sizes : Sizes) where
  abbrev made : Building
  made = record { answer = accepted sizes; tables = u }

  pub is-built : made ≡ build book t → Built book t u sizes
  is-built q =
      let b = build-made book t sizes (sym (ap (λ b. b.answer) q)) in
      let is : tokens_of book ≡ b.tokens = ap tokens_in b.read in
      record {
        read = b.read ∙ ap accepted (sym is);
        long = ap (too_short t) is ∙ b.fits;
        sized = b.sized ∙ ap sizes_of (sym is);
        filled = ap (λ b. b.tables) q ∙ b.filled ∙ ap (λ ts. written (built ts) t) (sym is);
      }

module _ {book : List ℕ} (image : List ℕ) {t u : Tables} {sizes : Sizes} (b : Built book t u sizes) (small : length image ≤ max_image) where
  abbrev ts : List (List ℕ)
  ts = tokens_of book

  -- what the sweep over the built tables asks for
  pub built-given : (lent : Tables) → lent ≡ u → Given book image lent sizes.nodes sizes.shortest
  built-given lent e =
      let fit = accepted-fit book ts b.read in
      let r = built-represents ts fit (accepted-some book ts b.read) u (subst (λ u. Lent u (built ts)) (sym b.filled) (written-lent (built ts) t)) in
      let n : sizes.nodes ≡ length (nodes (all_words ts)) = ap (λ s. s.nodes) b.sized in
      rw e (record {
        read = record { read = b.read; short = ap (λ s. s.shortest) b.sized };
        stands = rw n r;
        within = small;
      })

  module _ (ends numbers : List ℕ) where
    abbrev found : List (ℕ × ℕ)
    found = hits_of ts image

    -- a buffer stays as long as it was
    noted-long : (part : ℕ × ℕ → ℕ) (r : ℕ) (l : List ℕ) → r ≤ length l → length (noted part r found l) ≡ length l
    noted-long part r l h =
        let m = map part (take r found) in
        length-append m (drop (length m) l) ∙ omega (arith, length-drop (length m) l, length-map (take r found) part, length-take r found)

    to_whole : whole image t ends numbers ts ≡ swept_to image t ends numbers (accepted ts)
    to_whole =
        let s = b.long in
        let l : too_long (length image) ≡ false = le-ltb max_image (length image) small in
        cc

    module _ {hits fetched spared : ℕ} {ends' numbers' : List ℕ} (h : hits ≡ length found) (f : fetched ≡ fetches_of ts image) (s : spared ≡ spares_of ts image)
        (p : ends' ≡ noted (λ h. h.0) (room ends numbers) found ends) (q : numbers' ≡ noted (λ h. h.1) (room ends numbers) found numbers)
        {r : ℕ} (e : r ≡ min (length ends') (length numbers')) where
      room-same : r ≡ room ends numbers
      room-same =
          omega (arith, e, ap length p, ap length q, noted-long (λ h. h.0) (room ends numbers) ends (omega arith), noted-long (λ h. h.1) (room ends numbers) numbers (omega arith))

      pub answer-built : (v : Verdict ℕ) (g i : ℕ) → v ≡ counted r hits → g ≡ fetched → i ≡ spared
          → record { answer = v; fetched = g; spared = i; tables = u; ends = ends'; tokens = numbers' } ≡ sweep_image book image t ends numbers
      answer-built v g i z k l =
          rw (z, k, l, room-same, h, f, s, b.filled, p, q) (to_whole ∙ ap (swept_to image t ends numbers) (sym b.read))
