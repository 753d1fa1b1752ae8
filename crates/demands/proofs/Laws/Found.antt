-- What a sweep that has come to its end has found: with an accepted book, the occurrences of its tokens. And such sweeps there are.
use Rattle.std.specs.Prelude.{ℕ, zero, suc, ◌+◌, ◌≤◌, ◌≡◌, refl, List, [], ◌∷◌, ◌++◌, map, ltb, length, take, replicate}
use Rattle.std.proofs.Common.{arith, sym, subst, ◌∙◌, le-ltb, ltb-false, length-append, take_all, take_at}
use Rattle.std.proofs.Math.Path.{ap}
use Rattle.std.proofs.lemmas.List.{length-map, length-replicate}
use Rattle.std.proofs.Math.Seq.{take-nil, take-length}
use Rattle.rules.specs.Tokens.{body_bytes}
use Rattle.rules.specs.Sweep.{happens, bytes_of, hits_of}
use Rattle.rules.proofs.Laws.Tests.{decide}
use Rattle.book.specs.Book.{read_book, accepted, refused, max_image, too_long}
use Rattle.book.proofs.Laws.Sweep.{book-exact}
use Rattle.tables.specs.Tables.{Tables, Sizes, sizes_of, too_short, build}
use Rattle.scan.specs.declared.Scan.{Scan}
use Rattle.scan.specs.Start.{started, start}
use Rattle.scan.specs.Calls.{Answer, fetch, found, over, refused as denied}
use Rattle.scan.specs.Answers.{hits_in}
use Rattle.whole.specs.Image.{Swept, room, counted, noted, sweep_image}
use Rattle.demands.specs.Demand2.{Demand2, Demand2For}
use Rattle.demands.specs.Merge.{ByBytes, AsWhole, Sweep, by_bytes, as_whole, EndsFor}
use Rattle.demands.proofs.Laws.Swept.{Ends, answers-end}
use Rattle.demands.proofs.Laws.Demand2.{demand2}

not_none : (before : List Answer) → [] ≡ before ++ (over ∷ []) → ⊥
not_none before e = omega (arith, simp length-append at (ap length e))

-- First answers that end with done are all answers of the sweep, so they have all hits.
all_found : (todo : List Answer) → Ends todo → (calls : ℕ) (before : List Answer) → take calls todo ≡ before ++ (over ∷ [])
    → hits_in before ≡ hits_in todo
all_found todo h zero before e = absurd (not_none before e)
all_found [] h (suc calls) before e = absurd h
all_found (fetch p ∷ todo) h (suc calls) [] e = absurd (let z : ◌≡◌ {A = ℕ} 0 1 = cc in omega arith)
all_found (fetch p ∷ todo) h (suc calls) (a ∷ before) e =
    let z : a ≡ fetch p = cc in
    rw z (all_found todo h calls before (cc))
all_found (found b i ∷ todo) h (suc calls) [] e = absurd (let z : ◌≡◌ {A = ℕ} 0 1 = cc in omega arith)
all_found (found b i ∷ todo) h (suc calls) (a ∷ before) e =
    let z : a ≡ found b i = cc in
    rw z (ap (λ l. (b, i) ∷ l) (all_found todo h calls before (cc)))
all_found (over ∷ todo) h (suc calls) [] e = rw h
all_found (over ∷ todo) h (suc calls) (a ∷ before) e =
    absurd (not_none before (sym (ap (take calls) h ∙ take-nil calls) ∙ (cc)))
all_found (denied k v ∷ todo) h (suc calls) before e = absurd h

-- Pairs are known by their parts.
same-pairs : (l m : List (ℕ × ℕ)) → map (λ h. h.0) l ≡ map (λ h. h.0) m → map (λ h. h.1) l ≡ map (λ h. h.1) m → l ≡ m
same-pairs [] [] d e = refl
same-pairs [] (b ∷ m) d e = absurd (omega (arith, ap length d))
same-pairs (a ∷ l) [] d e = absurd (omega (arith, ap length d))
same-pairs (a ∷ l) (b ∷ m) d e =
    let p : a.0 ≡ b.0 = cc in
    let q : a.1 ≡ b.1 = cc in
    let r = same-pairs l m (cc) (cc) in
    let ab : a ≡ b = λ i. (p i, q i) in
    cc

-- Where there is room for all hits, a buffer begins with them.
noted-all : (part : ℕ × ℕ → ℕ) (n : ℕ) (hits : List (ℕ × ℕ)) (buffer : List ℕ) → length hits ≤ n
    → take (length hits) (noted part n hits buffer) ≡ map part hits
noted-all part n hits buffer h = rw (take_all n hits h) (take_at (map part hits) _ (length hits) (length-map hits part))

module _ {book image : List ℕ} {said : ℕ → List Answer} {last : ℕ → Scan} {packets : (ℕ → ℕ) → ℕ → List Answer} {sweep : List ℕ → List ℕ → Swept} {t : Tables}
    (d : Demand2 book image said last packets sweep t) where
  last_done : (calls : ℕ) (before : List Answer) → said calls ≡ before ++ (over ∷ []) → hits_in before ≡ hits_in d.whole
  last_done calls before e =
      let es = happens d.tokens (length image) (bytes_of image) in
      all_found d.whole (subst Ends (sym d.rules) (answers-end es (book-exact book d.tokens d.read image).whole)) calls before
      (sym (d.answered calls) ∙ e)

  -- As many calls as there are answers come to done.
  all-calls : said (length d.whole) ≡ d.ends.0 ++ (over ∷ [])
  all-calls = d.answered (length d.whole) ∙ take-length d.whole ∙ d.ends.1

-- A sweep of an image within its limit starts.
starts : (image : List ℕ) → length image ≤ max_image → (sizes : Sizes)
    → start (length image) sizes.shortest sizes.nodes ≡ accepted (started (length image) sizes.shortest sizes.nodes)
starts image h sizes = cc (le-ltb max_image (length image) h)

module _ (book : List ℕ) (tokens : List (List ℕ)) (read : read_book book ≡ accepted tokens) (image : List ℕ) (lent : Tables)
    (hits : List (ℕ × ℕ)) where
  by_bytes_lem : ByBytes book image lent hits → hits ≡ hits_of tokens image
  unfolding Demand2For
  by_bytes_lem b =
      let d = demand2 book lent b.sizes b.builds image b.state b.starts in
      let same : d.tokens ≡ tokens = cc d.read in
      b.finds ∙ last_done d b.calls b.before b.answers ∙ d.finds ∙ ap (λ ts. hits_of ts image) same

  -- A sweep of the whole image that is not refused before the hits are counted could have been made by single bytes too.
  abbrev Takes : Swept → Type 0
  Takes s = (n : ℕ) → s.answer ≡ accepted n → ((build book lent).answer ≡ accepted (sizes_of tokens)) × (length image ≤ max_image)

  refuses : (k v : ℕ) (ends numbers : List ℕ) → Takes (record { answer = refused k v; fetched = 0; spared = 0; tables = lent; ends = ends; tokens = numbers })
  refuses k v ends numbers n e = absurd (let z : ◌≡◌ {A = ℕ} 0 1 = cc in omega arith)

  takes : (ends numbers : List ℕ) → Takes (sweep_image book image lent ends numbers)
  takes ends numbers = rw (read, sweep_image)
      (decide Takes (too_short lent tokens) _ _ (λ _. refuses 7 (1 + body_bytes tokens) ends numbers)
      (λ f. decide Takes (too_long (length image)) _ _ (λ _. refuses 8 max_image ends numbers) (λ l n e. (cc (read, f), ltb-false max_image (length image) l))))

  -- Hits that are as many as these, and stand in both buffers as these do, are these.
  counts : (all : List (ℕ × ℕ)) (r : ℕ) (ends numbers : List ℕ) → counted r (length all) ≡ accepted (length hits)
      → take (length hits) (noted (λ h. h.0) r all ends) ≡ map (λ h. h.0) hits
      → take (length hits) (noted (λ h. h.1) r all numbers) ≡ map (λ h. h.1) hits → hits ≡ all
  counts all r ends numbers =
      decide (λ v. v ≡ accepted (length hits) → take (length hits) (noted (λ h. h.0) r all ends) ≡ map (λ h. h.0) hits
      → take (length hits) (noted (λ h. h.1) r all numbers) ≡ map (λ h. h.1) hits → hits ≡ all) (ltb r (length all)) _ _
      (λ _ e. absurd (let z : ◌≡◌ {A = ℕ} 0 1 = cc in omega arith))
      (λ f e p q.
      let n : length all ≡ length hits = cc in
      let fits = ltb-false r (length all) f in
      let a = noted-all (λ h. h.0) r all ends fits in
      let b = noted-all (λ h. h.1) r all numbers fits in
      same-pairs hits all (sym p ∙ rw n at a) (sym q ∙ rw n at b))

  as-whole : AsWhole book image lent hits → hits ≡ hits_of tokens image
  unfolding Demand2For
  as-whole w =
      let t = takes w.ends w.numbers (length hits) w.answers in
      let sizes = sizes_of tokens in
      let d = demand2 book lent sizes t.0 image (started (length image) sizes.shortest sizes.nodes) (starts image t.1 sizes) in
      let same : d.tokens ≡ tokens = cc d.read in
      counts (hits_in d.whole) (room w.ends w.numbers) w.ends w.numbers (sym (d.counts w.ends w.numbers) ∙ w.answers)
      (ap (take (length hits)) (sym (d.notes-ends w.ends w.numbers)) ∙ w.finds-ends)
      (ap (take (length hits)) (sym (d.notes-tokens w.ends w.numbers)) ∙ w.finds-tokens)
      ∙ d.finds ∙ ap (λ ts. hits_of ts image) same

pub sweep-finds : (book : List ℕ) (tokens : List (List ℕ)) → read_book book ≡ accepted tokens → (image : List ℕ) (hits : List (ℕ × ℕ))
    → Sweep book image hits → hits ≡ hits_of tokens image
sweep-finds book tokens read image hits (by_bytes lent b) = by_bytes_lem book tokens read image lent hits b
sweep-finds book tokens read image hits (as_whole lent w) = as-whole book tokens read image lent hits w

-- Buffers with an entry for each hit are enough.
whole-ends : (book image : List ℕ) (lent : Tables) {said : ℕ → List Answer} {last : ℕ → Scan} {packets : (ℕ → ℕ) → ℕ → List Answer} {t : Tables}
    → (d : Demand2 book image said last packets (sweep_image book image lent) t) → AsWhole book image lent (hits_in d.whole)
whole-ends book image lent d =
    let n = length (hits_in d.whole) in
    let buffer : List ℕ = replicate n 0 in
    let fits : n ≤ room buffer buffer = omega (arith, length-replicate {A = ℕ} n 0) in
    record {
      ends = buffer;
      numbers = buffer;
      answers = d.counts buffer buffer ∙ cc (le-ltb (room buffer buffer) n fits);
      finds-ends = ap (take n) (d.notes-ends buffer buffer) ∙ noted-all (λ h. h.0) _ (hits_in d.whole) buffer fits;
      finds-tokens = ap (take n) (d.notes-tokens buffer buffer) ∙ noted-all (λ h. h.1) _ (hits_in d.whole) buffer fits;
    }

pub sweeps-end : EndsFor
unfolding EndsFor Demand2For
sweeps-end book lent sizes made image h =
    let s = started (length image) sizes.shortest sizes.nodes in
    let e = starts image h sizes in
    let d = demand2 book lent sizes made image s e in (
      hits_in d.whole,
      record {
        sizes = sizes;
        builds = made;
        state = s;
        starts = e;
        calls = length d.whole;
        before = d.ends.0;
        answers = all-calls d;
        finds = sym (last_done d (length d.whole) d.ends.0 (all-calls d));
      },
      whole-ends book image lent d,
    )
