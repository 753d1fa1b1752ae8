-- Demand 3 holds.
use Rattle.std.specs.Prelude.{ℕ, suc, ◌+◌, ◌*◌, ◌≤◌, ◌≡◌, refl, List, length, get_or}
use Rattle.std.proofs.Common.{arith, ap, sym, subst, ◌∙◌}
use Rattle.std.proofs.Math.Option.{none}
use Rattle.rules.specs.Words.{all_words}
use Rattle.rules.specs.Rules.{fresh, trace}
use Rattle.rules.specs.Tokens.{shortest_of, longest_of}
use Rattle.rules.specs.Sweep.{happens}
use Rattle.rules.proofs.Laws.Limit.Ends.{steps-enough}
use Rattle.rules.proofs.Laws.Limit.Looks.{looks-split}
use Rattle.book.specs.Book.{read_book, accepted, max_image}
use Rattle.book.proofs.Laws.Sweep.{book-ends, book-few}
use Rattle.tables.specs.Tables.{Tables, nodes, built, Lent, written}
use Rattle.tables.specs.Walks.{of_tables}
use Rattle.tables.proofs.Laws.Made.{written-lent, build-made}
use Rattle.scan.specs.declared.Scan.{Scan}
use Rattle.scan.specs.Start.{started, start}
use Rattle.scan.proofs.Laws.Bill.{plan}
use Rattle.scan.proofs.Laws.Walk.{fresh-sat, fresh-left}
use Rattle.demands.specs.Demand3.{Call, ran, expected, history, Demand3, Demand3For}
use Rattle.demands.proofs.Laws.Ready.{start-fresh, given, same-plan, uncapped}
use Rattle.demands.proofs.Laws.History.{whole-closes, history-few}
use Rattle.demands.proofs.Laws.Lists.{calls-right}

module _ (book : List ℕ) (tokens : List (List ℕ)) (read : read_book book ≡ accepted tokens) (t : Tables) (lent : Lent t (built tokens)) where
  fresh-demand3 : (n : ℕ) → n ≤ max_image → (calls : List Call)
      → Demand3 book (longest_of tokens) n calls (ran t (started n (shortest_of tokens) (length (nodes (all_words tokens)))) calls)
  fresh-demand3 n h calls =
      let S = shortest_of tokens in
      let D = longest_of tokens in
      let count = length (nodes (all_words tokens)) in
      let g = given book tokens read t lent n h in
      let all = (ran t (started n S count) calls).taken in
      let fuel = suc n * (D + 2) in
      let c = fresh (of_tables t count S) S in
      let ask : ℕ → ℕ → ℕ = λ k p. get_or all k 0 in
      let es = happens tokens n ask in
      let same = same-plan book tokens read t lent n h ask in
      let i = calls-right g all calls c none 0 0 0 0 (plan 0 (trace (of_tables t count S) n ask fuel 0 c)) es
      (fresh-sat g) (fresh-left g)
      (fuel, λ _. steps-enough n D S fuel g.setting.positive (omega arith), refl) tt (sym same) (whole-closes es (book-ends book tokens read n ask))
      refl in
      record {
        tokens = tokens;
        read = read;
        events = es;
        rules = refl;
        said = i.said ∙ ap (λ q. expected none q.0 calls) (sym same);
        counted = i.counted ∙ omega arith;
        looked =
            let past = history (ran t (started n S count) calls).said es in
            let bill = i.bill ∙ uncapped book tokens read n h ask _ (omega (arith, history-few (ran t (started n S count) calls).said es)) in
            omega (arith, bill, i.counted, i.fetches, looks-split past);
        limited = omega (arith, i.limited);
        few_now = i.few;
        few_between = book-few book tokens read n ask;
      }

  -- Demand 3 over any tables that begin with the built ones, be they long enough to build into or not.
  pub calls-demand3 : (n : ℕ) (s : Scan) → start n (shortest_of tokens) (length (nodes (all_words tokens))) ≡ accepted s → (calls : List Call)
      → Demand3 book (longest_of tokens) n calls (ran t s calls)
  calls-demand3 n s e calls = let f = start-fresh n (shortest_of tokens) (length (nodes (all_words tokens))) s e in rw f.1 (fresh-demand3 n f.0 calls)

pub demand3 : Demand3For
unfolding Demand3For
demand3 book lent sizes made n s e calls =
    let b = build-made book lent sizes made in
    let t = written (built b.tokens) lent in
    let started = subst (λ z. start n z.shortest z.nodes ≡ accepted s) b.sized e in
    subst (λ t. Demand3 book sizes.longest n calls (ran t s calls)) (sym b.filled)
    (subst (λ z. Demand3 book z.longest n calls (ran t s calls)) (sym b.sized)
    (calls-demand3 book b.tokens b.read t (written-lent (built b.tokens) lent) n s started calls))
