-- A record that the reader takes, and what holds of all that an accepted book consists of.
use Rattle.std.specs.Prelude.{ℕ, zero, suc, ◌+◌, ◌-◌, ◌≤◌, ◌<◌, ◌≡◌, refl, false, ◌||◌, List, [], ◌∷◌, ◌++◌, leb, length}
use Rattle.std.proofs.Common.{arith, ap, leb-true, leb-false, ltb-false, eqb-true, le-ltb, length-take, length-drop}
use Rattle.std.proofs.Math.Nat.{pow-le-pow_right}
use Rattle.std.proofs.lemmas.Bool.{eqb-false, lt-leb}
use Rattle.rules.specs.Words.{words_of}
use Rattle.rules.specs.Tokens.{total, body_bytes}
use Rattle.rules.proofs.Laws.Tests.{decide, clash, or-nl, or-nr}
use Rattle.book.specs.Book.{Reading, accepted, refused, max_tokens, max_bodies, max_body, body_length, kind_at, size_at, body_at, kind_missing, kind_unknown, closes, body_short, whole_at, over_limits, repeats, trailing, no_token, closed, read_from, read_book}

-- What `whole_at` says: the body's length where a whole record stands, and else 0.
module _ (book : List ℕ) (at : ℕ) where
  abbrev pub Whole : Type 0
  Whole = (at < length book) × (kind_at book at ≤ 68) × (at + 1 + size_at book at ≤ length book)

  pub whole-cases : (P : ℕ → Type 0) → ((Whole → ⊥) → P 0) → (Whole → P (size_at book at)) → P (whole_at book at)
  whole-cases P f g =
      decide P (kind_missing book at || kind_unknown book at || body_short book at) _ _
      (λ t. f (λ w. clash _ t (cc (lt-leb (length book) at w.0, le-ltb 68 (kind_at book at) w.1, le-ltb _ _ w.2))))
      (λ t. g (
        leb-false (length book) at (or-nl _ _ (or-nl _ _ t)),
        ltb-false 68 (kind_at book at) (or-nr (kind_missing book at) _ (or-nl _ _ t)),
        ltb-false (length book) (at + 1 + size_at book at) (or-nr (kind_missing book at || kind_unknown book at) _ t),
      ))

  pub whole_is : Whole → whole_at book at ≡ size_at book at
  whole_is w = whole-cases (λ n. n ≡ size_at book at) (λ f. absurd (f w)) (λ _. refl)

  pub whole-none : (Whole → ⊥) → whole_at book at ≡ 0
  whole-none f = whole-cases (λ n. n ≡ 0) (λ _. refl) (λ w. absurd (f w))

  pub whole-closed : kind_at book at ≡ 0 → whole_at book at ≡ 0
  whole-closed z = whole-cases (λ n. n ≡ 0) (λ _. refl) (λ _. ap body_length z)

  pub whole-some : 1 ≤ whole_at book at → Whole
  whole-some = whole-cases (λ n. 1 ≤ n → Whole) (λ _ h. absurd (omega arith)) (λ w _. w)

  -- It never reaches past the end.
  pub whole-inside : at < length book → at + 1 + whole_at book at ≤ length book
  whole-inside h = whole-cases (λ n. at + 1 + n ≤ length book) (λ _. omega arith) (λ w. w.2)

-- A whole record with a body stands at `at`.
pub record Opened (book : List ℕ) (at : ℕ) : Type 0 where
  pub there : at < length book
  pub known : kind_at book at ≤ 68
  pub opens : kind_at book at ≡ 0 → ⊥
  pub inside : at + 1 + size_at book at ≤ length book

-- It is taken, with these tokens before it.
pub record Taken (book : List ℕ) (at : ℕ) (tokens : List (List ℕ)) : Type 0 where
  pub opened : Opened book at
  pub few : length tokens < max_tokens
  pub small : body_bytes tokens + total (words_of (body_at book at)) ≤ max_bodies
  pub new : repeats book at tokens ≡ false

pub body_length-range : (kind : ℕ) → 1 ≤ kind → kind ≤ 68 → (1 ≤ body_length kind) × (body_length kind ≤ max_body)
body_length-range kind h k =
    decide (λ n. (1 ≤ n) × (n ≤ max_body)) (leb kind 64) _ _ (λ t. omega (arith, leb-true kind 64 t))
    (λ f. omega (
      arith,
      leb-false kind 64 f,
      pow-le-pow_right {n = 2} (omega arith) {i = 0} {j = kind - 65} (omega arith),
      pow-le-pow_right {n = 2} (omega arith) {i = kind - 65} {j = 3} (omega arith),
    ))

module _ (book : List ℕ) (at : ℕ) (o : Opened book at) where
  pub opened-range : (1 ≤ size_at book at) × (size_at book at ≤ max_body)
  opened-range = let z = o.opens in body_length-range (kind_at book at) (omega arith) o.known

  pub opened-length : length (body_at book at) ≡ size_at book at
  opened-length = simp (length-take, length-drop) (omega arith)

-- The last byte of the book, at place `at`, is 00h.
pub record Closed (book : List ℕ) (at : ℕ) : Type 0 where
  pub last : at + 1 ≡ length book
  pub zero : kind_at book at ≡ 0

-- What each record that is taken hands on holds in the end, at the last byte, which closes the book.
module _ (book : List ℕ) (P : ℕ → List (List ℕ) → Type 0)
    (more : (at : ℕ) (ts : List (List ℕ)) → Taken book at ts → P at ts → P (at + 1 + size_at book at) (ts ++ (body_at book at ∷ []))) where
  module _ (tokens : List (List ℕ)) where
    abbrev Result : Reading → Type 0
    Result r = r ≡ accepted tokens → ((at : ℕ) × P at tokens × Closed book at) × (1 ≤ length tokens)

    refuses : (k v : ℕ) → Result (refused k v)
    refuses k v e = absurd (let z : ◌≡◌ {A = ℕ} 0 1 = cc in omega arith)

    closed-keeps : (at : ℕ) (ts : List (List ℕ)) → at < length book → kind_at book at ≡ 0 → P at ts → Result (closed book at ts)
    closed-keeps at ts h z p =
        decide Result (trailing book at) _ _ (λ _. refuses 3 (at + 1))
        (λ l. decide Result (no_token ts) _ _ (λ _. refuses 6 0)
        (λ e.
        let last : at + 1 ≡ length book = omega (arith, ltb-false (at + 1) (length book) l) in
        let some : 1 ≤ length ts = omega (arith, eqb-false (length ts) 0 e) in
        λ q. let e : tokens ≡ ts = cc in rw e ((at, p, record { last = last; zero = z }), some)))

    read_keeps : (fuel at : ℕ) (ts : List (List ℕ)) → P at ts → Result (read_from book fuel at ts)
    read_keeps zero at ts p = refuses 1 (length book)
    read_keeps (suc fuel) at ts p =
        decide Result (kind_missing book at) _ _ (λ _. refuses 1 (length book))
        (λ a. decide Result (kind_unknown book at) _ _ (λ _. refuses 2 at)
        (λ b. decide Result (closes book at) _ _ (λ c. closed-keeps at ts (leb-false (length book) at a) (eqb-true (kind_at book at) 0 c) p)
        (λ c. decide Result (body_short book at) _ _ (λ _. refuses 1 at)
        (λ d. decide Result (over_limits book at ts) _ _ (λ _. refuses 5 at)
        (λ e. decide Result (repeats book at ts) _ _ (λ _. refuses 4 at)
        (λ f.
        let t : Taken book at ts = record {
          opened = record {
            there = leb-false (length book) at a;
            known = ltb-false 68 (kind_at book at) b;
            opens = eqb-false (kind_at book at) 0 c;
            inside = ltb-false (length book) (at + 1 + size_at book at) d;
          };
          few = leb-false max_tokens (length ts) (or-nl _ _ e);
          small = ltb-false max_bodies (body_bytes ts + total (words_of (body_at book at))) (or-nr (leb max_tokens (length ts)) _ e);
          new = f;
        } in
        read_keeps fuel (at + 1 + size_at book at) (ts ++ (body_at book at ∷ [])) (more at ts t p)))))))

  pub accepted-keeps : (tokens : List (List ℕ)) → read_book book ≡ accepted tokens → P 0 []
      → ((at : ℕ) × P at tokens × Closed book at) × (1 ≤ length tokens)
  accepted-keeps tokens read p = read_keeps tokens (suc (length book)) 0 [] p read
