-- Demand 2 holds.
use Rattle.std.specs.Prelude.{ℕ, suc, ◌+◌, ◌*◌, ◌≤◌, ◌≡◌, refl, false, List, length}
use Rattle.std.proofs.Common.{arith, ap, sym, subst, ◌∙◌, le-ltb}
use Rattle.rules.specs.Words.{all_words}
use Rattle.rules.specs.Rules.{fresh}
use Rattle.rules.specs.Tokens.{shortest_of, longest_of}
use Rattle.rules.specs.Sweep.{happens, bytes_of, places, recalls, hits, Occurrences}
use Rattle.rules.proofs.Laws.Limit.Ends.{steps-enough}
use Rattle.book.specs.Book.{read_book, accepted, max_image}
use Rattle.book.proofs.Laws.Sweep.{book-exact}
use Rattle.tables.specs.Tables.{Tables, nodes, built, Lent, too_short, written}
use Rattle.tables.specs.Walks.{of_tables}
use Rattle.scan.specs.declared.Scan.{Scan}
use Rattle.scan.specs.Start.{started, start}
use Rattle.scan.specs.Calls.{carry_on}
use Rattle.scan.specs.Answers.{answers}
use Rattle.whole.specs.Image.{room, counted, noted, sweep_image}
use Rattle.scan.proofs.Laws.Bill.{bill_of, plan}
use Rattle.scan.proofs.Laws.Walk.{fresh-sat, fresh-left}
use Rattle.scan.proofs.Laws.Settle.{Settled, carry-settles}
use Rattle.tables.proofs.Laws.Made.{written-lent, build-made}
use Rattle.demands.specs.Demand2.{swept, swept_to, sent, Demand2, Demand2For}
use Rattle.demands.proofs.Laws.Ready.{start-fresh, given, same-plan, uncapped}
use Rattle.demands.proofs.Laws.Swept.{answers-end, answers-places, answers-hits, ends-over, swept-right, bills-right, sent-right}
use Rattle.demands.proofs.Laws.History.{bill-total}

module _ (book : List ℕ) (tokens : List (List ℕ)) (read : read_book book ≡ accepted tokens) (t : Tables) (lent : Lent t (built tokens))
    (image : List ℕ) where
  -- The first call settles what the rules say in all.
  first-settles : (h : length image ≤ max_image)
      → Settled (given book tokens read t lent (length image) h) (bytes_of image) 0 (plan 0 (happens tokens (length image) (bytes_of image)))
      (carry_on t (started (length image) (shortest_of tokens) (length (nodes (all_words tokens)))))
  first-settles h =
      let n = length image in
      let S = shortest_of tokens in
      let g = given book tokens read t lent n h in
      let fuel = suc n * (longest_of tokens + 2) in
      carry-settles g (bytes_of image) (fresh (of_tables t (length (nodes (all_words tokens))) S) S) 0 0 0 0 (fresh-sat g) _ (
        fuel,
        λ _. steps-enough n (longest_of tokens) S fuel g.setting.positive (omega arith),
        same-plan book tokens read t lent n h (bytes_of image),
      ) (fresh-left g)

  -- The sweep of the whole image, by what the rules say.
  module _ (tables : Tables) (fits : too_short tables tokens ≡ false) (h : length image ≤ max_image) (ends numbers : List ℕ) where
    whole-image : sweep_image book image tables ends numbers ≡ (let es = happens tokens (length image) (bytes_of image) in
        let r = room ends numbers in
        record {
          answer = counted r (length (hits es));
          fetched = length (places es);
          spared = length (recalls es);
          tables = written (built tokens) tables;
          ends = noted (λ h. h.0) r (hits es) ends;
          tokens = noted (λ h. h.1) r (hits es) numbers;
        })
    whole-image = cc (read, fits, le-ltb max_image (length image) h)

  -- Demand 2 over any tables that begin with the built ones, be they long enough to build into or not; the whole image is swept with any
  -- others that are.
  pub image-demand2 : (tables : Tables) → too_short tables tokens ≡ false → (s : Scan)
      → start (length image) (shortest_of tokens) (length (nodes (all_words tokens))) ≡ accepted s
      → let r = carry_on t s in
      Demand2 book image (λ calls. swept t image calls r) (λ calls. swept_to t image calls r) (λ size calls. sent t image size calls r)
      (sweep_image book image tables)
      (written (built tokens) tables)
  image-demand2 tables fits s e =
      let f = start-fresh (length image) (shortest_of tokens) (length (nodes (all_words tokens))) s e in
      let es = happens tokens (length image) (bytes_of image) in
      let x = book-exact book tokens read image in
      let done = answers-end es x.whole in
      let found = answers-hits es x.whole in
      let call = whole-image tables fits f.0 in
      record {
        tokens = tokens;
        read = read;
        whole = answers es;
        rules = refl;
        answered = λ calls.
            rw f.1 (swept-right (given book tokens read t lent (length image) f.0) image calls 0 (answers es) (bill_of 0 es) done _
            (first-settles f.0));
        ends = ends-over (answers es) done;
        by-packets = λ size sizes calls few.
            rw f.1 (sent-right (given book tokens read t lent (length image) f.0) image calls size sizes 0 (answers es) (bill_of 0 es) done few _
            (first-settles f.0));
        fetches = answers-places es x.whole;
        finds = found;
        occurrences = subst (Occurrences tokens image) (sym found) x.occurrences;
        spares = λ calls few.
            rw f.1 (bills-right (given book tokens read t lent (length image) f.0) image calls 0 (answers es) (bill_of 0 es) done few
            (0 + length (recalls es)) (bill-total es x.whole 0) _ (first-settles f.0)
            ∙ uncapped book tokens read (length image) f.0 (bytes_of image) (0 + length (recalls es)) (omega arith) ∙ omega arith);
        counts = λ ends numbers. ap (λ r. r.answer) (call ends numbers)
            ∙ ap (λ l. counted (room ends numbers) (length l)) (sym found);
        counts-fetches = λ ends numbers. ap (λ r. r.fetched) (call ends numbers) ∙ ap length (sym (answers-places es x.whole));
        counts-spared = λ ends numbers. ap (λ r. r.spared) (call ends numbers);
        builds = λ ends numbers. ap (λ r. r.tables) (call ends numbers);
        notes-ends = λ ends numbers. ap (λ r. r.ends) (call ends numbers) ∙ ap (λ l. noted (λ h. h.0) (room ends numbers) l ends) (sym found);
        notes-tokens = λ ends numbers. ap (λ r. r.tokens) (call ends numbers) ∙ ap (λ l. noted (λ h. h.1) (room ends numbers) l numbers) (sym found);
      }

pub demand2 : Demand2For
unfolding Demand2For
demand2 book lent sizes made image s e =
    let b = build-made book lent sizes made in
    let t = written (built b.tokens) lent in
    subst (λ t. let r = carry_on t s in
    Demand2 book image (λ calls. swept t image calls r) (λ calls. swept_to t image calls r) (λ size calls. sent t image size calls r)
    (sweep_image book image lent) t) (sym b.filled)
    (image-demand2 book b.tokens b.read t (written-lent (built b.tokens) lent) image lent b.fits s
    (subst (λ z. start (length image) z.shortest z.nodes ≡ accepted s) b.sized e))
