-- Sweeps with an accepted book: the hits are the occurrences, the sweep ends, its fetches are within the limit, its looks and stretches few.
use Rattle.std.specs.Prelude.{ℕ, ◌*◌, ◌≤◌, ◌≡◌, List}
use Rattle.std.proofs.Common.{arith, mul-le-mul}
use Rattle.std.proofs.Math.Nat.{le_trans}
use Rattle.std.proofs.Math.ListN.{length}
use Rattle.rules.specs.Tokens.{of_tokens, shortest_of, longest_of}
use Rattle.rules.specs.Sweep.{limit, happens, bytes_of, places, looks, Few}
use Rattle.rules.proofs.Laws.Limit.{stretches-few, fetches-all}
use Rattle.rules.proofs.Laws.Limit.Ends.{Whole, Finite, sweep-ends}
use Rattle.rules.proofs.Laws.Limit.Looks.{looks-all}
use Rattle.rules.proofs.Laws.Exact.{Exact, tokens-finite, happens-exact}
use Rattle.book.specs.Book.{read_book, accepted, max_image}
use Rattle.book.proofs.Laws.Accepted.{accepted-setting, accepted-longest}

module _ (book : List ℕ) (tokens : List (List ℕ)) (read : read_book book ≡ accepted tokens) where
  -- The sweep of an image finds every token wherever it stands, and nothing else, each once, from left to right; and it ends.
  pub book-exact : (image : List ℕ) → Exact tokens image (happens tokens (length image) (bytes_of image))
  book-exact = happens-exact tokens (accepted-setting book tokens read)

  finite : Finite (of_tokens tokens (shortest_of tokens)) length (longest_of tokens)
  finite = tokens-finite tokens (shortest_of tokens) (longest_of tokens) (accepted-setting book tokens read)

  -- Whatever the fetches are answered, the sweep ends,
  pub book-ends : (n : ℕ) (ask : ℕ → ℕ → ℕ) → Whole (happens tokens n ask)
  unfolding happens
  book-ends n ask =
      sweep-ends _ length (longest_of tokens) finite n (shortest_of tokens) (accepted-setting book tokens read).positive ask _ (omega arith)

  -- fetches at most the limit,
  pub book-limit : (n : ℕ) (ask : ℕ → ℕ → ℕ) → length (places (happens tokens n ask)) ≤ limit n (longest_of tokens)
  unfolding happens
  book-limit n ask =
      fetches-all _ length (longest_of tokens) (shortest_of tokens) finite (accepted-longest book tokens read).0
      (accepted-setting book tokens read).positive n ask _

  -- looks at N × D bytes at most, and so at 2^34 in an image within its limit,
  pub book-looks : (n : ℕ) (ask : ℕ → ℕ → ℕ) → n ≤ max_image → length (looks (happens tokens n ask)) ≤ 16777216 * 1024
  unfolding happens
  book-looks n ask h =
      le_trans (looks-all _ length (longest_of tokens) finite n ask (shortest_of tokens) (accepted-setting book tokens read).positive _)
      (mul-le-mul {n₁ = n} {m₁ = longest_of tokens} {n₂ = 16777216} {m₂ = 1024} h (accepted-longest book tokens read).1)

  -- and each round leaves few stretches.
  pub book-few : (n : ℕ) (ask : ℕ → ℕ → ℕ) → Few (longest_of tokens) (happens tokens n ask)
  unfolding happens
  book-few n ask =
      stretches-few _ length (longest_of tokens) (shortest_of tokens) finite (accepted-longest book tokens read).0
      (accepted-setting book tokens read).positive n ask _
