-- A packet gives what its bytes give singly, keeps a state in its ranges, and is judged once; over any tables.
use Rattle.std.specs.Prelude.{ℕ, zero, suc, ◌-◌, ◌≤◌, ◌<◌, ◌≡◌, refl, Bool, true, false, ◌||◌, not, List, [], ◌∷◌, length, take}
use Rattle.std.proofs.Common.{arith, ap, sym, subst, ◌∙◌}
use Rattle.std.proofs.Math.Option.{Option, some, none}
use Rattle.std.proofs.lemmas.Bool.{eqb-false}
use Rattle.rules.specs.Rules.{Tree, Config, Next, finished, wants, goes, place, is_done, stops, recall, end_round, look, next}
use Rattle.rules.proofs.Laws.Tests.{clash, or-nr}
use Rattle.tables.specs.Tables.{Tables}
use Rattle.scan.specs.declared.Scan.{Scan}
use Rattle.scan.specs.State.{config_of, tree_of, wants_byte, in_range}
use Rattle.scan.specs.Calls.{Answer, fetch, refused, Stepped, stepped, settle, enough, judged, fed, supply}
use Rattle.scan.specs.Packets.{Delivered, is_below, none_used, one_more, feed, feed_due, overlong, supply_packet, singly}
use Rattle.scan.proofs.Laws.Within.{ready, within, dues}
use Rattle.scan.proofs.Laws.Settle.{is_fetch, on_left, on_judged}
use Rattle.scan.proofs.Laws.Kept.{admitted, supply-kept}

-- A packet by whether its next byte is used: `rest` is what comes after that byte, `r` the answer so far.
abbrev pub on_below : Delivered → Stepped → Bool → Delivered
on_below rest r b = elim b [ true ↦ one_more rest | false ↦ none_used r ]

module _ (t : Tables) where
  -- What is given, answer and state, is what the used bytes give singly from the state s; where none is used, the answer is a.
  abbrev pub Singly : Scan → Answer → List ℕ → Delivered → Type 0
  Singly s a xs d = (d.step ≡ singly t (record { state = s; answer = a }) (take d.used xs)) × (d.used ≤ length xs)

  feed-singly : (last : ℕ) (s : Scan) (a : Answer) (xs : List ℕ) → Singly s a xs (feed t last (record { state = s; answer = a }) xs)
  feed-singly last s a [] = (refl, omega arith)
  feed-singly last s a (x ∷ xs) =
      let r = supply t s x in go (is_below last a) (feed-singly (last - 1) r.state r.answer xs)
    where
      rest : Delivered
      rest = feed t (last - 1) (supply t s x) xs

      go : (b : Bool) → Singly (supply t s x).state (supply t s x).answer xs rest
          → Singly s a (x ∷ xs) (on_below rest (record { state = s; answer = a }) b)
      go true ih = (ih.0, omega (arith, ih.1))
      go false ih = (refl, omega arith)

  -- A packet is its used bytes supplied singly.
  pub packet-singly : (s : Scan) (xs : List ℕ) → overlong xs ≡ false → Singly s (supply_packet t s []).step.answer xs (supply_packet t s xs)
  packet-singly s xs fits = rw (supply_packet, fits) (go (judged t s true))
    where
      by : Option Answer → List ℕ → Delivered
      by j xs = elim j [ some a ↦ none_used (record { state = s; answer = a }) | none ↦ feed_due t s xs ]

      go : (j : Option Answer) → Singly s (by j []).step.answer xs (by j xs)
      go (some a) = (refl, omega arith)
      go none = feed-singly (suc (place (config_of s))) s (fetch (place (config_of s))) xs

  -- A state stays in its ranges.
  supply-range : (s : Scan) (x : ℕ) → in_range t s ≡ true → in_range t (supply t s x).state ≡ true
  supply-range s x h = go (judged t s true) refl
    where
      go : (j : Option Answer) → judged t s true ≡ j → in_range t (supply t s x).state ≡ true
      go (some a) e = ap (λ j. in_range t (on_judged s (settle t (enough s) (fed t s x)) j).state) e ∙ h
      go none e = supply-kept t s e x

  feed-range : (last : ℕ) (r : Stepped) (xs : List ℕ) → in_range t r.state ≡ true → in_range t (feed t last r xs).step.state ≡ true
  feed-range last r [] h = h
  feed-range last r (x ∷ xs) h =
      go (is_below last r.answer) (feed-range (last - 1) (supply t r.state x) xs (supply-range r.state x h))
    where
      go : (b : Bool) → in_range t (feed t (last - 1) (supply t r.state x) xs).step.state ≡ true
          → in_range t (on_below (feed t (last - 1) (supply t r.state x) xs) r b).step.state ≡ true
      go true ih = ih
      go false ih = h

  pub packet-kept : (s : Scan) (xs : List ℕ) → in_range t s ≡ true → in_range t (supply_packet t s xs).step.state ≡ true
  packet-kept s xs h = go (overlong xs) (judged t s true)
    where
      go : (b : Bool) (j : Option Answer)
          → in_range t (elim b as (λ b. Delivered) [
            | true ↦ none_used (record { state = s; answer = refused 15 0 })
            | false ↦ elim j [ some a ↦ none_used (record { state = s; answer = a }) | none ↦ feed_due t s xs ]
          ]).step.state ≡ true
      go true j = h
      go false (some a) = h
      go false none = feed-range (suc (place (config_of s))) _ xs h

-- A packet that is too long meets 15.
pub overlong-refused : (t : Tables) (s : Scan) (xs : List ℕ) → overlong xs ≡ true → supply_packet t s xs ≡ none_used (record { state = s; answer = refused 15 0 })
overlong-refused t s xs e = cc

-- Going on keeps the count of nodes, and a byte is due then exactly if the answer is a place to fetch.
module _ (t : Tables) where
  abbrev Turned : Scan → Stepped → Type 0
  Turned s r = (r.state.count ≡ s.count) × (r.state.due ≡ is_fetch r.answer)

  settle-turned : (fuel : ℕ) (s : Scan) → s.due ≡ false → Turned s (settle t fuel s)
  settle-turned zero s idle = (refl, idle)
  settle-turned (suc fuel) s idle = go s.hit (next (tree_of t s) s.image (config_of s)) (settle-turned fuel)
    where
      go : (v : ℕ) (x : Next ℕ) → ((s : Scan) → s.due ≡ false → Turned s (settle t fuel s)) → Turned s (on_left t fuel s x v)
      go (suc v) x ih = (refl, idle)
      go zero finished ih = (refl, idle)
      go zero (wants at) ih = (refl, refl)
      go zero (goes w) ih = ih (stepped t s w) idle

  -- After a byte that is answered with a place to fetch no refusal comes for the next.
  pub supply-again : (s : Scan) (x : ℕ) → judged t s true ≡ none → is_fetch (supply t s x).answer ≡ true
      → judged t (supply t s x).state true ≡ none
  supply-again s x e f =
      let is : supply t s x ≡ settle t (enough s) (fed t s x) = ap (on_judged s (settle t (enough s) (fed t s x))) e in
      let turned : Turned s (supply t s x) = subst (Turned s) (sym is) (settle-turned (enough s) (fed t s x) refl) in
      cc ((admitted t s true e).0, supply-kept t s e x, turned.0, turned.1, f)

-- A place is fetched only where the round looks at it, and has not ended.
pub next_place : {E : Type 0} (tree : Tree E) (n : ℕ) (c : Config E) (p : ℕ) → next tree n c ≡ wants p → (p ≡ place c) × (stops tree c ≡ false)
next_place {E} tree n c p = go (is_done n c) (stops tree c) (recall tree c.stretches (place c))
  where
    go : (d s : Bool) (o : Option ℕ)
        → ◌≡◌ {A = Next E} (elim d [ true ↦ finished | false ↦ elim s [ true ↦ goes (end_round tree c none) | false ↦ look tree c o ] ]) (wants p)
        → (p ≡ place c) × (s ≡ false)
    go true s o e = absurd (let z : ◌≡◌ {A = ℕ} 0 1 = cc in omega arith)
    go false true o e = absurd (let z : ◌≡◌ {A = ℕ} 0 1 = cc in omega arith)
    go false false none e = (cc, refl)
    go false false (some x) e = absurd (let z : ◌≡◌ {A = ℕ} 0 1 = cc in omega arith)

-- With a byte due the round has not come to the image's start.
pub due-inside : (t : Tables) (s : Scan) → judged t s true ≡ none → s.depth < s.boundary
due-inside t s e =
    let a = admitted t s true e in
    let r = ready t s a.1 a.0 in
    let h = (within t s a.1 r.tree).held in
    let going : stops (tree_of t s) (config_of s) ≡ false =
    go (next (tree_of t s) s.image (config_of s)) refl
    (subst (λ d. (not d || wants_byte (next (tree_of t s) s.image (config_of s))) ≡ true) a.2 (dues t s a.1)) in
    omega (arith, h.inside, eqb-false s.depth s.boundary (or-nr ((tree_of t s).leaf s.node) _ going))
  where
    go : (x : Next ℕ) → next (tree_of t s) s.image (config_of s) ≡ x → wants_byte x ≡ true → stops (tree_of t s) (config_of s) ≡ false
    go finished q w = absurd (clash false w refl)
    go (wants p) q w = (next_place (tree_of t s) s.image (config_of s) p q).1
    go (goes w') q w = absurd (clash false w refl)
