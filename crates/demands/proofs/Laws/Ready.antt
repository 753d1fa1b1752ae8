-- What is given once a book is built and a sweep is started: tables that represent the tokens, and the fresh state.
use Prim.Native.Nat.{ℕ, suc, ◌+◌, ◌*◌, ◌≤◌}
use Rattle.std.proofs.Common.{arith, ◌∙◌, ltb-false}
use Rattle.std.specs.Prelude.{◌≡◌, refl, List}
use Rattle.std.proofs.Math.Path.{ap}
use Rattle.std.proofs.Math.ListN.{length}
use Rattle.rules.specs.Words.{all_words}
use Rattle.rules.specs.Rules.{fresh, trace}
use Rattle.rules.specs.Tokens.{shortest_of, longest_of}
use Rattle.rules.specs.Sweep.{happens, recalls}
use Rattle.rules.proofs.Laws.Tests.{decide}
use Rattle.rules.proofs.Laws.Alike.{trace-same}
use Rattle.rules.proofs.Laws.Limit.Looks.{looks-split}
use Rattle.book.specs.Book.{read_book, accepted, refused, max_image, too_long}
use Rattle.book.proofs.Laws.Sweep.{book-looks}
use Rattle.book.proofs.Laws.Accepted.{accepted-fit, accepted-some, accepted-shortest, accepted-setting, accepted-longest}
use Rattle.tables.specs.Tables.{Tables, nodes, built, Lent}
use Rattle.tables.specs.Walks.{ending, of_tables}
use Rattle.tables.proofs.Laws.Represents.{built-represents}
use Rattle.scan.specs.declared.Scan.{Scan}
use Rattle.scan.specs.Start.{started, start}
use Rattle.scan.proofs.Laws.Bill.{plan, capped, events-plan}
use Rattle.scan.proofs.Laws.Walk.{Given, alike, fresh-sat}

-- Starting takes an image within its limit, and hands back the fresh state.
pub start-fresh : (n S count : ℕ) (s : Scan) → start n S count ≡ accepted s → (n ≤ max_image) × (s ≡ started n S count)
start-fresh n S count s =
    decide (λ v. v ≡ accepted s → (n ≤ max_image) × (s ≡ started n S count)) (too_long n) (refused 8 max_image) (accepted (started n S count))
    (λ _ e. absurd (let z : ◌≡◌ {A = ℕ} 0 1 = cc in omega arith))
    (λ f e. (ltb-false max_image n f, cc))

-- What is taken from stretches in a sweep never comes to where the count stops: no more than N × D bytes are looked at.
pub uncapped : (book : List ℕ) (tokens : List (List ℕ)) → read_book book ≡ accepted tokens → (n : ℕ) → n ≤ max_image → (ask : ℕ → ℕ → ℕ) (m : ℕ)
    → m ≤ length (recalls (happens tokens n ask)) → capped m ≡ m
uncapped book tokens read n h ask m few =
    omega (arith, looks-split (happens tokens n ask), book-looks book tokens read n ask h)

module _ (book : List ℕ) (tokens : List (List ℕ)) (read : read_book book ≡ accepted tokens) (t : Tables) (lent : Lent t (built tokens)) where
  pub given : (n : ℕ) → n ≤ max_image → Given tokens (shortest_of tokens) (longest_of tokens) t (length (nodes (all_words tokens))) n
  given n h =
      let f = accepted-fit book tokens read in
      let r = built-represents tokens f (accepted-some book tokens read) t lent in
      record {
        setting = accepted-setting book tokens read;
        shortest = refl;
        long = (accepted-longest book tokens read).0;
        short = (accepted-longest book tokens read).1;
        first = (accepted-shortest book tokens read).1;
        represents = r;
        nodes = omega (arith, r.few, f.bodies);
        image = h;
      }

  -- What the rules say over the tokens they say over the tables.
  pub same-plan : (n : ℕ) → n ≤ max_image → (ask : ℕ → ℕ → ℕ)
      → plan 0 (happens tokens n ask)
      ≡ plan 0 (trace (of_tables t (length (nodes (all_words tokens))) (shortest_of tokens)) n ask (suc n * (longest_of tokens + 2)) 0
      (fresh (of_tables t (length (nodes (all_words tokens))) (shortest_of tokens)) (shortest_of tokens)))
  unfolding happens
  same-plan n h ask =
      let S = shortest_of tokens in
      let count = length (nodes (all_words tokens)) in
      let g = given n h in
      let fuel = suc n * (longest_of tokens + 2) in
      let c = fresh (of_tables t count S) S in
      ap (plan 0) (trace-same (alike g) n ask fuel 0 c (fresh-sat g).apt)
      ∙ events-plan (ending t) 0 (trace (of_tables t count S) n ask fuel 0 c)
