-- Filling gives each node its shift: the walks of the shortened words and handing down leave rule 5's node shifts, and nothing behind the
-- nodes is touched.
use Rattle.std.specs.Prelude.{ℕ, ◌-◌, ◌≤◌, ◌<◌, min, ◌≡◌, false, List, [], map, reverse, length, get_or, set, replicate}
use Rattle.std.proofs.Common.{arith, ap, sym, ◌∙◌, length-set, get_or-set_other}
use Rattle.std.proofs.lemmas.List.{reverse-reverse, length-replicate, get_or-replicate}
use Rattle.std.proofs.Math.ListN.{get_or-append}
use Rattle.std.proofs.Math.Seq.{take-length}
use Rattle.rules.specs.Lists.{over}
use Rattle.rules.specs.Tokens.{node_shift, shortened}
use Rattle.tables.specs.Tables.{Tables, nodes}
use Rattle.tables.specs.Walks.{child_by, ending}
use Rattle.tables.specs.Shape.{up, tag, Shape}
use Rattle.tables.proofs.Laws.Shape.{ending-step}
use Rattle.tables.proofs.Laws.Order.{Listed}
use Rattle.tables.proofs.Laws.WordsAdded.{Facts}
use Rattle.tables.proofs.Laws.Same.{mapped}
use Rattle.trie.specs.Filling.{Lows, lows, walked_at, words_walked, handed_down}
use Rattle.trie.proofs.Laws.Over.{over-set}
use Rattle.trie.proofs.Laws.Filling.Least.{cut, least_for, least-for-between, words-low}
use Rattle.trie.proofs.Laws.Filling.Shift.{met_by, whole_by, below_by, root_below, root-shift, node-below, node-shift}
use Rattle.trie.proofs.Laws.Filling.Walk.{set-low, Front, Walked, walks}
use Rattle.trie.proofs.Laws.Filling.Down.{downs}
pub mod Least
pub mod Shift
pub mod Walk
pub mod Down

-- a list that says f of each node, in front of met
fronted : (t : Tables) (n : ℕ) (s : Shape t n) (us : List (List ℕ)) → Listed t n us → (f : List ℕ → ℕ) (met l : List ℕ) → Front n met l
    → ((v : ℕ) → v < n → get_or l v 0 ≡ f (ending t v)) → l ≡ over (map f us) met
fronted t n s us listed f met l m e =
    m.2 ∙ ap (λ m. over m met) (mapped t n s us listed f m.0 m.1 (λ v h.
    sym (get_or-append m.0 _ 0 v (omega (arith, m.1))) ∙ ap (λ l. get_or l v 0) (sym m.2) ∙ e v h))

module _ (ws : List (List ℕ)) (t : Tables) (n S : ℕ) (met whole : List ℕ) where
  -- every entry is S, but the root's `met` is 1; then all words are walked
  abbrev start : Lows
  start = lows (set (over (replicate n S) met) 0 1) whole

  abbrev walked : Lows
  walked = words_walked (child_by t n) S ws start

  module _ (s : Shape t n) (positive : 1 ≤ S) (wholes₀ : (v : ℕ) → v < n → get_or whole v 0 ≡ S) where
    start-at : (v : ℕ) → v < n → get_or (over (replicate n S) met) v 0 ≡ S
    start-at v h = get_or-append (replicate n S) _ 0 v (rw length-replicate h) ∙ get_or-replicate n v S 0 h

    walk : (w : List ℕ) (k : ℕ) (l : Lows)
        → Walked t n s k (reverse (shortened w k)) [] l (walked_at (child_by t n) k (reverse (shortened w k)) 0 l)
    walk w k l = walks t n s k (reverse (shortened w k)) 0 l s.size

    -- what the walks leave
    mets : (v a : ℕ) → v < n → a ≤ S → get_or start.met v 0 ≡ a → get_or walked.met v 0 ≡ min a (least_for ws S (met_by (ending t v)))
    mets v a h = words-low (child_by t n) (met_by (ending t v)) (λ a l. get_or l.met v 0 ≡ a)
        (λ w k a l q. (walk w k l).mets v h ∙ ap (cut (met_by (ending t v) w k) k) q) S positive ws a start

    root-met : get_or walked.met 0 0 ≡ 1
    root-met =
        mets 0 1 s.size positive (set-low (over (replicate n S) met) 0 1 (omega (arith, start-at 0 s.size)))
        ∙ omega (arith, least-for-between ws S positive (met_by []))

    node-met : (v : ℕ) → 0 < v → v < n → get_or walked.met v 0 ≡ least_for ws S (met_by (ending t v))
    node-met v a h =
        mets v S h (omega arith) (get_or-set_other (over (replicate n S) met) 0 v 1 0 (λ e. omega arith) ∙ start-at v h)
        ∙ omega (arith, least-for-between ws S positive (met_by (ending t v)))

    wholes : (v : ℕ) → v < n → get_or walked.whole v 0 ≡ least_for ws S (whole_by (ending t v))
    wholes v h =
        words-low (child_by t n) (whole_by (ending t v)) (λ a l. get_or l.whole v 0 ≡ a)
        (λ w k a l q. (rw reverse-reverse at ((walk w k l).wholes v h)) ∙ ap (cut (whole_by (ending t v) w k) k) q)
        S positive ws S start (omega arith) (wholes₀ v h)
        ∙ omega (arith, least-for-between ws S positive (whole_by (ending t v)))

    front : Front n met walked.met
    front =
        words-low (child_by t n) (λ w k. false) (λ a l. Front n met l.met) (λ w k a l q. (walk w k l).fronts met q) S positive ws 0 start (omega arith)
        (set (replicate n S) 0 1, length-set (replicate n S) 0 1 ∙ length-replicate n S, over-set (replicate n S) met 0 1 (rw length-replicate s.size))

    -- and what handing down makes of it
    filled : 1 ≤ length ws → Listed t n (nodes ws) → (handed_down t.parent (n - 1) 1 walked).met ≡ over (map (node_shift ws S) (nodes ws)) met
    filled some listed =
        let last = downs n t.parent met (λ v. least_for ws S (met_by (ending t v))) (λ v. least_for ws S (whole_by (ending t v)))
        (λ v. node_shift ws S (ending t v)) (λ v. least_for ws S (below_by (ending t v))) s.ups
        (λ v a h. rw (ending-step t n s v a h) (node-below ws S (tag t v) (ending t (up t v))))
        (λ v a h. rw (ending-step t n s v a h) (node-shift ws S (tag t v) (ending t (up t v))))
        (n - 1) 1 walked (omega arith) (omega (arith, s.size)) (record {
          done = λ u h. let z : u ≡ 0 = omega arith in rw z (root-met ∙ sym (root-shift ws S some), wholes 0 s.size ∙ sym (root_below ws S));
          rest = λ u a h. (node-met u a h, wholes u h);
          front = front;
        }) in
        fronted t n s (nodes ws) listed (node_shift ws S) met (handed_down t.parent (n - 1) 1 walked).met last.front (λ v h. (last.done v h).0)

module _ (ws : List (List ℕ)) (number : List ℕ → ℕ) (t : Tables) (n : ℕ) (fs : Facts ws number (length ws) t n)
    (S : ℕ) (some : 1 ≤ length ws) (positive : 1 ≤ S) where
  pub filled-shifts : (met whole : List ℕ) → ((v : ℕ) → v < n → get_or whole v 0 ≡ S)
      → (handed_down t.parent (n - 1) 1 (words_walked (child_by t n) S ws (lows (set (over (replicate n S) met) 0 1) whole))).met
      ≡ over (map (node_shift ws S) (nodes ws)) met
  filled-shifts met whole whole-S = filled ws t n S met whole fs.shape positive whole-S some (rw take-length at fs.listed)
