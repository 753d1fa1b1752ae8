-- What the tokens of an accepted book are: some, not too many nor too long, and none a word of another; so they make a `Setting`. And what a
-- reader's answer says of the book.
use Rattle.std.specs.Prelude.{ℕ, zero, suc, ◌+◌, ◌≤◌, ◌<◌, ◌≡◌, refl, true, false, List, [], ◌∷◌, ◌++◌, length, get_or}
use Rattle.std.proofs.Common.{arith, ap, length-append}
use Rattle.rules.specs.Lists.{any_of}
use Rattle.rules.specs.Words.{words_of, is_word}
use Rattle.rules.specs.Tokens.{total, body_bytes, shortest_of, longest_of}
use Rattle.rules.proofs.Laws.Tests.{clash, any_of-in}
use Rattle.rules.proofs.Laws.Words.{word-sym, total-append, bytes-snoc}
use Rattle.rules.proofs.Laws.Lengths.{shortest-le, longest-ge, shortest-is, longest-is}
use Rattle.rules.specs.Setting.{Setting}
use Rattle.book.specs.Book.{Reading, accepted, refused, max_tokens, max_bodies, max_body, body_at, read_book, Totals, totals_of, summary}
use Rattle.book.proofs.Laws.Taken.{Taken, Closed, opened-range, opened-length, accepted-keeps}

-- What holds of the tokens read so far.
pub record Fit (tokens : List (List ℕ)) : Type 0 where
  pub each : (i : ℕ) → i < length tokens → (1 ≤ length (get_or tokens i [])) × (length (get_or tokens i []) ≤ max_body)
  pub count : length tokens ≤ max_tokens
  pub bodies : body_bytes tokens ≤ max_bodies
  pub distinct : (i j : ℕ) → i < length tokens → j < length tokens → is_word (get_or tokens i []) (get_or tokens j []) ≡ true → i ≡ j

-- One token more.
each_snoc : (P : ℕ → List ℕ → Type 0) (l : List (List ℕ)) (a : List ℕ) → ((i : ℕ) → i < length l → P i (get_or l i [])) → P (length l) a
    → (i : ℕ) → i < length (l ++ (a ∷ [])) → P i (get_or (l ++ (a ∷ [])) i [])
each_snoc P [] a f p zero h = p
each_snoc P [] a f p (suc i) h = absurd (omega arith)
each_snoc P (x ∷ l) a f p zero h = f 0 (omega arith)
each_snoc P (x ∷ l) a f p (suc i) h = each_snoc (λ i. P (suc i)) l a (λ i h. f (suc i) (omega arith)) p i (omega arith)

pub total-snoc : (l : List (List ℕ)) (a : List ℕ) → total (l ++ (a ∷ [])) ≡ total l + length a
total-snoc l a = omega (arith, total-append l (a ∷ []))

fit-snoc : (tokens : List (List ℕ)) (body : List ℕ) → Fit tokens → (1 ≤ length body) × (length body ≤ max_body) → length tokens < max_tokens
    → body_bytes tokens + total (words_of body) ≤ max_bodies → any_of (is_word body) tokens ≡ false → Fit (tokens ++ (body ∷ []))
fit-snoc tokens body f b n m new = record {
  each = each_snoc (λ i t. (1 ≤ length t) × (length t ≤ max_body)) tokens body f.each b;
  count = rw length-append (omega arith);
  bodies = rw bytes-snoc (omega arith);
  distinct = λ i j i< j<.
      each_snoc (λ i t. is_word t (get_or (tokens ++ (body ∷ [])) j []) ≡ true → i ≡ j) tokens body
      (λ i i<. each_snoc (λ j u. is_word (get_or tokens i []) u ≡ true → i ≡ j) tokens body (λ j j<. f.distinct i j i< j<) (λ e. absurd (other i i< (word-sym (get_or tokens i []) body e))) j j<)
      (each_snoc (λ j u. is_word body u ≡ true → length tokens ≡ j) tokens body (λ j j< e. absurd (other j j< e)) (λ e. refl) j j<)
      i i<;
}
  where
    other : (i : ℕ) → i < length tokens → is_word body (get_or tokens i []) ≡ true → ⊥
    other i i< e = clash (any_of (is_word body) tokens) (any_of-in (is_word body) tokens [] i i< e) new

module _ (book : List ℕ) (tokens : List (List ℕ)) (read : read_book book ≡ accepted tokens) where
  more : (at : ℕ) (ts : List (List ℕ)) → Taken book at ts → Fit ts → Fit (ts ++ (body_at book at ∷ []))
  more at ts t f =
      let long = opened-length book at t.opened in
      fit-snoc ts (body_at book at) f (rw long (opened-range book at t.opened)) t.few t.small t.new

  read_all : ((at : ℕ) × Fit tokens × Closed book at) × (1 ≤ length tokens)
  read_all =
      accepted-keeps book (λ _. Fit) more tokens read
      (record { each = λ i h. absurd (omega arith); count = omega arith; bodies = omega arith; distinct = λ i j h. absurd (omega arith) })

  pub accepted-some : 1 ≤ length tokens
  accepted-some = read_all.1

  pub accepted-fit : Fit tokens
  accepted-fit = read_all.0.1

  pub accepted-shortest : (1 ≤ shortest_of tokens) × (shortest_of tokens ≤ max_body)
  accepted-shortest = let r = shortest-is tokens accepted-some in omega (arith, accepted-fit.each r.0 r.1)

  pub accepted-setting : Setting tokens (shortest_of tokens) (longest_of tokens)
  accepted-setting = record {
    positive = accepted-shortest.0;
    shortest = shortest-le tokens;
    longest = longest-ge tokens;
    distinct = accepted-fit.distinct;
  }

  pub accepted-longest : (1 ≤ longest_of tokens) × (longest_of tokens ≤ max_body)
  accepted-longest = let r = longest-is tokens accepted-some in omega (arith, accepted-fit.each r.0 r.1)

-- The book is accepted, and these are its totals.
pub record Summed (book : List ℕ) (totals : Totals) : Type 0 where
  pub tokens : List (List ℕ)
  pub read : read_book book ≡ accepted tokens
  pub sums : totals ≡ totals_of tokens

pub summed : (book : List ℕ) (totals : Totals) → accepted totals ≡ summary (read_book book) → Summed book totals
summed book totals = go (read_book book) refl
  where
    go : (r : Reading) → read_book book ≡ r → accepted totals ≡ summary r → Summed book totals
    go (accepted tokens) e q = record { tokens = tokens; read = e; sums = cc }
    go (refused k v) e q = absurd (let z : ◌≡◌ {A = ℕ} 0 1 = cc in omega arith)

pub summed-small : (book : List ℕ) (totals : Totals) → Summed book totals → totals.bodies ≤ max_bodies
summed-small book totals s = omega (arith, ap (λ a. a.bodies) s.sums, (accepted-fit book s.tokens s.read).bodies)

-- The book is refused.
pub refused_as : (r : Reading) (k v : ℕ) → refused k v ≡ summary r → r ≡ refused k v
refused_as (accepted tokens) k v q = absurd (let z : ◌≡◌ {A = ℕ} 0 1 = cc in omega arith)
refused_as (refused l w) k v q = cc
