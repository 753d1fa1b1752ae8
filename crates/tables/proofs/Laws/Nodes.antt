-- What the nodes stand for, from the facts of the built tables: children, leaves, token numbers, words, bytes and ancestors.
use Rattle.std.specs.Prelude.{ℕ, zero, suc, ◌+◌, ◌-◌, ◌≤◌, ◌<◌, ◌≡◌, refl, Bool, true, false, ◌&&◌, not, List, [], ◌∷◌, ◌++◌, eqb, ltb, length, get_or, take, drop}
use Rattle.std.proofs.Common.{arith, ap, sym, ◌∙◌, eqb-true, lt-ltb, ltb-true, length-append}
use Rattle.std.proofs.Math.Option.{Option, some, none}
use Rattle.std.proofs.lemmas.Bool.{eqb-false}
use Rattle.std.proofs.Math.Seq.{append_snoc}
use Rattle.rules.specs.Lists.{any_of}
use Rattle.rules.specs.Tokens.{fits, ends, grown, byte_shift}
use Rattle.rules.proofs.Laws.Tests.{clash, same_test, not_test, and_l, and_r, or_r, below_suc, split, any_of-in, any_of-out, least-same}
use Rattle.rules.proofs.Laws.Endings.{ends→front, front→ends, ends-shorter}
use Rattle.tables.specs.Tables.{Tables}
use Rattle.tables.specs.Walks.{child_by, ending, depth, lifted, words}
use Rattle.tables.proofs.Laws.Shape.{Found, falling, way-lifts, child-found, ending-step, ending-cons, ending-apart}
use Rattle.tables.proofs.Laws.WordsAdded.{Facts}
use Rattle.tables.proofs.Laws.Numbering.{Numbering}
use Rattle.tables.specs.Represents.{Stand}
use Rattle.tables.specs.Shape.{up, tag, head, Shape, num}

-- the words that tables have
module _ (t : Tables) where
  word_in : (p : List ℕ → Bool) (v m : ℕ) (l : List (List ℕ)) → 0 < m → p (ending t v) ≡ true
      → any_of p (elim m [ zero ↦ l | suc i ↦ ending t v ∷ l ]) ≡ true
  word_in p v zero l h e = absurd (omega arith)
  word_in p v (suc i) l h e = cc

  word_more : (p : List ℕ → Bool) (v m : ℕ) (l : List (List ℕ)) → any_of p l ≡ true → any_of p (elim m [ zero ↦ l | suc i ↦ ending t v ∷ l ]) ≡ true
  word_more p v zero l h = h
  word_more p v (suc i) l h = or_r (p (ending t v)) _ (λ _. h)

  words-in : (p : List ℕ → Bool) (n w : ℕ) → w < n → 0 < num t w → p (ending t w) ≡ true → any_of p (words t n) ≡ true
  words-in p zero w h k e = absurd (omega arith)
  words-in p (suc n) w h k e = below_suc w n h
      (λ w<. word_more p n (num t n) (words t n) (words-in p n w w< k e))
      (λ q. word_in p n (num t n) (words t n) (rw (← q) k) (rw (← q) e))

  abbrev Word : (List ℕ → Bool) → ℕ → Type 0
  Word p n = (w : ℕ) × (w < n) × (0 < num t w) × (p (ending t w) ≡ true)

  word_out : (p : List ℕ → Bool) (n m : ℕ) (b : Bool) (l : List (List ℕ)) → num t n ≡ m → p (ending t n) ≡ b
      → (any_of p l ≡ true → Word p n) → any_of p (elim m [ zero ↦ l | suc i ↦ ending t n ∷ l ]) ≡ true → Word p (suc n)
  word_out p n zero b l z y f e = let q = f e in (q.0, omega (arith, q.1), q.2, q.3)
  word_out p n (suc i) true l z y f e = (n, omega arith, omega arith, y)
  word_out p n (suc i) false l z y f e = let q = f (rw y at e) in (q.0, omega (arith, q.1), q.2, q.3)

  words-out : (p : List ℕ → Bool) (n : ℕ) → any_of p (words t n) ≡ true → Word p n
  words-out p zero e = absurd (clash _ e refl)
  words-out p (suc n) e = word_out p n (num t n) (p (ending t n)) (words t n) refl refl (words-out p n) e

pub shift_same : (a b : List (List ℕ)) → ((p : List ℕ → Bool) → any_of p a ≡ any_of p b) → (S d : ℕ) (c : Option ℕ) → byte_shift a S d c ≡ byte_shift b S d c
shift_same a b f S d none = refl
shift_same a b f S d (some x) = least-same (λ s. any_of (λ t. fits (x ∷ []) t (d + s)) a) _ (λ s. f _) 1 (S - 1)

module _ (ws : List (List ℕ)) (number : List ℕ → ℕ) (t : Tables) (n : ℕ) (fs : Facts ws number (length ws) t n) where
  s : Shape t n
  s = fs.shape

  pub real : (v : ℕ) → 0 < v → v < n → any_of (ends (ending t v)) ws ≡ true
  real v a h = let q = fs.real v a h in any_of-in (ends (ending t v)) ws [] q.0 q.1 q.2

  pub deep : (D : ℕ) → ((j : ℕ) → j < length ws → length (get_or ws j []) ≤ D) → (v : ℕ) → v < n → depth t v ≤ D
  deep D most v h = split v 0 (λ e. rw e (omega arith))
      (λ e. let q = fs.real v (omega arith) h in
      omega (arith, ends-shorter (ending t v) (get_or ws q.0 []) q.2, most q.0 q.1))

  -- the way up from a node passes through every ending of its ending
  above : (f u : List ℕ) (w : ℕ) → w < n → ending t w ≡ f ++ u → (v : ℕ) × (v < n) × (ending t v ≡ u)
  above [] u w h e = (w, h, e)
  above (x ∷ f) u w h e =
      let q = ending-cons t n s w x (f ++ u) h e in
      above f u (up t w) (omega (arith, s.ups w q.0 h)) q.2

  -- and where it is longer, through a child of it
  child-above : (f u : List ℕ) (w : ℕ) → w < n → ending t w ≡ f ++ u → 0 < length f → (v : ℕ) × (v < n) × (0 < v) × (ending t (up t v) ≡ u)
  child-above [] u w h e k = absurd (omega arith)
  child-above (x ∷ []) u w h e k = let q = ending-cons t n s w x u h e in (w, h, q.0, q.2)
  child-above (x ∷ y ∷ f) u w h e k =
      let q = ending-cons t n s w x (y ∷ (f ++ u)) h e in
      child-above (y ∷ f) u (up t w) (omega (arith, s.ups w q.0 h)) q.2 (omega arith)

  pub stands : (u : List ℕ) → any_of (ends u) ws ≡ true → (w : ℕ) × (w < n) × (ending t w ≡ u)
  stands u e =
      let q = any_of-out (ends u) ws [] e in
      let w = fs.node q.0 q.1 in
      let y = get_or ws q.0 [] in
      above (take (length y - length u) y) u w.0 w.1 (w.2 ∙ ends→front u y q.2)

  pub child : (v x : ℕ) → v < n → Stand t n (child_by t n v x) (grown ws (ending t v) x)
  child v x h = go (child_by t n v x) (child-found t n s v x h) (any_of (ends (x ∷ ending t v)) ws) refl
    where
      go : (o : Option ℕ) → Found t n v 0 x o → (b : Bool) → any_of (ends (x ∷ ending t v)) ws ≡ b
          → Stand t n o (elim b [ true ↦ some (x ∷ ending t v) | false ↦ none ])
      go none f true e =
          let w = stands (x ∷ ending t v) e in
          let q = ending-cons t n s w.0 x (ending t v) w.1 w.2 in
          f w.0 q.0 w.1 (ending-apart t n s (up t w.0) v (omega (arith, s.ups w.0 q.0 w.1, w.1)) h q.2) q.1
      go none f false e = tt
      go (some w) f true e = (f.1, cc (ending-step t n s w f.0 f.1))
      go (some w) f false e =
          let q : ending t w ≡ x ∷ ending t v = cc (ending-step t n s w f.0 f.1) in
          clash _ (rw q at (real w f.0 f.1)) e

  pub leaf : (v : ℕ) → v < n → eqb (head t v) 0 ≡ not (any_of (λ u. ltb (length (ending t v)) (length u) && ends (ending t v) u) ws)
  leaf v h = not_test (eqb (head t v) 0) _
      (λ a b. let q = any_of-out (λ u. ltb (length (ending t v)) (length u) && ends (ending t v) u) ws [] b in
      let u = get_or ws q.0 [] in
      let long : length (ending t v) < length u = ltb-true _ _ (and_l (ltb (length (ending t v)) (length u)) (ends (ending t v) u) q.2) in
      let f = take (length u - length (ending t v)) u in
      let front : u ≡ f ++ ending t v = ends→front (ending t v) u (and_r (ltb (length (ending t v)) (length u)) (ends (ending t v) u) q.2) in
      let w = fs.node q.0 q.1 in
      let c = child-above f (ending t v) w.0 w.1 (w.2 ∙ front) (omega (arith, ap length front ∙ length-append f (ending t v))) in
      omega (
        arith,
        eqb-true (head t v) 0 a,
        (s.heads v h).least c.0 c.2 c.1
            (ending-apart t n s (up t c.0) v (omega (arith, s.ups c.0 c.2 c.1, c.1)) h c.3),
      ))
      (λ a. let c = (s.heads v h).node (omega (arith, eqb-false (head t v) 0 a)) in
      let q = fs.real (head t v) c.0 c.1 in
      let u = get_or ws q.0 [] in
      let e : ending t (head t v) ≡ tag t (head t v) ∷ ending t v = cc (ending-step t n s (head t v) c.0 c.1) in
      let r = rw e at q.2 in
      let f = take (length u - suc (length (ending t v))) u in
      any_of-in (λ u. ltb (length (ending t v)) (length u) && ends (ending t v) u) ws [] q.0 q.1
      (cc (
        lt-ltb (length (ending t v)) (length u) (ends-shorter (tag t (head t v) ∷ ending t v) u r),
        front→ends (f ++ (tag t (head t v) ∷ [])) (ending t v) u
            (ends→front (tag t (head t v) ∷ ending t v) u r ∙ sym (append_snoc f (tag t (head t v)) (ending t v))),
      )))

  under : (v : ℕ) → 0 < depth t v → 0 < v
  under zero k = absurd (omega arith)
  under (suc v) k = omega arith

  pub bytes : (j v : ℕ) → v < n → j < depth t v → tag t (lifted t j v) ≡ get_or (ending t v) j 0
  bytes zero v h k = cc (ending-step t n s v (under v k) h)
  bytes (suc j) v h k =
      let a = under v (omega arith) in
      let e = ending-step t n s v a h in
      cc (bytes j (up t v) (omega (arith, s.ups v a h)) (omega (arith, ap length e)))

  pub lifts : (j v : ℕ) → v < n → (lifted t j v < n) × (ending t (lifted t j v) ≡ drop j (ending t v))
  lifts = way-lifts t n (falling t n s)

  -- a word's node has its number
  word_number : (v j : ℕ) → v < n → j < length ws → get_or ws j [] ≡ ending t v → num t v ≡ number (ending t v)
  word_number v j h j< e =
      let w = fs.node j j< in
      ap (num t) (sym (ending-apart t n s w.0 v w.1 h (w.2 ∙ e))) ∙ w.3 ∙ ap number e

  module _ (ns : Numbering ws number) where
    pub token : (v : ℕ) → v < n → num t v ≡ number (ending t v)
    token v h = split (number (ending t v)) 0
        (λ e. split (num t v) 0 (λ z. z ∙ sym e) (λ d. let j = fs.word v h (omega arith) in word_number v j.0 h j.1 (sym j.2)))
        (λ d. let j = ns.only (ending t v) (omega arith) in word_number v j.0 h j.1 j.2)

    -- the words that the tables have are the words
    pub words-pass : (p : List ℕ → Bool) → any_of p (words t n) ≡ any_of p ws
    words-pass p = same_test (any_of p (words t n)) (any_of p ws)
        (λ e. let q = words-out t p n e in
        let j = fs.word q.0 q.1 q.2 in
        any_of-in p ws [] j.0 j.1 (rw (← j.2) q.3))
        (λ e. let q = any_of-out p ws [] e in
        let w = fs.node q.0 q.1 in
        words-in t p n w.0 w.1 (omega (arith, w.3, ns.least q.0 q.1)) (rw w.2 q.2))
