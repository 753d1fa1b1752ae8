-- What a climb finds does not hang on the tables that it does not read: of tables that pass refusal 9 the lists of parents, labels and
-- token numbers alone give the same depths, endings, words and stretches.
use Rattle.std.specs.Prelude.{ℕ, zero, suc, ◌+◌, ◌-◌, ◌^◌, ◌≤◌, ◌<◌, min, max, ◌≡◌, refl, Bool, true, false, List, [], ◌∷◌, ◌++◌, get_or, length}
use Rattle.std.proofs.Common.{arith, ap, ◌∙◌, ne_eqb}
use Rattle.std.proofs.Math.Option.{Option, some}
use Rattle.book.specs.Book.{max_body}
use Rattle.rules.specs.Lists.{select, All}
use Rattle.rules.specs.Rules.{Stretch, Config, left_over, cut, kept, recall, ended}
use Rattle.rules.specs.Tokens.{byte_shift}
use Rattle.rules.proofs.Laws.All.{all_map}
use Rattle.rules.proofs.Laws.Tests.{split}
use Rattle.tables.specs.Tables.{Tables}
use Rattle.tables.specs.Walks.{climb, ending, depth, nearest, carrier, words, lifted, shift_from, of_tables}
use Rattle.tables.specs.Unbroken.{Unbroken}
use Rattle.trie.specs.Answers.{tables, tree_only}
use Rattle.scan.specs.declared.Stretch.{Stretch as Slot}
use Rattle.scan.specs.State.{laid, max_stretches}
use Rattle.scan.specs.Memory.{covers}
use Rattle.scan.specs.Within.{Ready, Fits, Within}

-- as far as endings go
abbrev pub paths : List ℕ → List ℕ → Tables
paths parent label = tree_only parent label [] [] []

-- as far as the nodes that carry a token go
abbrev pub marks : List ℕ → List ℕ → Tables
marks parent token = tree_only parent [] token [] []

-- Parents of nodes below the count are smaller nodes; the root's is itself.
pub record Rises (parent : List ℕ) (count : ℕ) : Type 0 where
  pub size : 0 < count
  pub held : count ≤ length parent
  pub root : get_or parent 0 0 ≡ 0
  pub ups : (v : ℕ) → 0 < v → v < count → get_or parent v 0 < v

-- A node to climb from.
pub record Climbs (parent : List ℕ) (node : ℕ) : Type 0 where
  pub count : ℕ
  pub rises : Rises parent count
  pub below : node < count

-- A node to climb from, past token numbers.
pub record Marked (parent token : List ℕ) (node : ℕ) : Type 0 where
  pub count : ℕ
  pub rises : Rises parent count
  pub below : node < count
  pub tokens : count ≤ length token

-- Nodes below the count with endings to spell, and their token numbers.
pub record Readable (parent label token : List ℕ) (count : ℕ) : Type 0 where
  pub rises : Rises parent count
  pub labels : count ≤ length label
  pub tokens : count ≤ length token
  pub deep : (v : ℕ) → v < count → depth (paths parent label) v ≤ max_body

-- A node with an ending to spell.
pub record Spells (parent label : List ℕ) (node : ℕ) : Type 0 where
  pub count : ℕ
  pub rises : Rises parent count
  pub below : node < count
  pub labels : count ≤ length label
  pub deep : depth (paths parent label) node ≤ max_body

-- Rule 2 asks nothing of the other tables, nor of the node count and S.
abbrev pub recall_by : List ℕ → List ℕ → List (Stretch ℕ) → ℕ → Option ℕ
recall_by parent label ms at = recall (of_tables (paths parent label) 0 0) ms at

-- Stretches with nodes to climb from, as long as these are deep.
pub record Remembers (parent label : List ℕ) (ms : List (Stretch ℕ)) : Type 0 where
  pub count : ℕ
  pub rises : Rises parent count
  pub labels : count ≤ length label
  pub fits : All (Fits (paths parent label) count) ms

-- A round ends at a node that is d deep, and its boundary moves.
pub record Ends (parent : List ℕ) (node d boundary next : ℕ) : Type 0 where
  pub deep : depth (paths parent []) node ≡ d
  pub inside : d ≤ boundary
  pub moves : boundary ≤ next
  pub small : next < 2 ^ 32

-- Rules 4 and 6 ask nothing of the other tables, nor of the node count and S.
abbrev pub remember_by : List ℕ → List (Stretch ℕ) → ℕ → ℕ → ℕ → ℕ → List Slot
remember_by parent ms node d boundary next =
    laid max_stretches (select (kept next) (ended (of_tables (paths parent []) 0 0)
    (record { boundary = boundary; node = node; depth = d; stretches = ms })))

-- the words with node v's too
abbrev more : ℕ → List ℕ → List (List ℕ) → List (List ℕ)
more n w ws = elim n [ zero ↦ ws | suc i ↦ w ∷ ws ]

module _ (t u : Tables) (up : t.parent ≡ u.parent) where
  pub lifted-alike : (n v : ℕ) → lifted t n v ≡ lifted u n v
  lifted-alike zero v = refl
  lifted-alike (suc n) v = cc (lifted-alike n (get_or t.parent v 0))

  climb-long : (f v : ℕ) → length (climb t f v) ≡ length (climb u f v)
  climb-long zero v = refl
  climb-long (suc f) v =
      split v 0 (λ e. rw e)
      (λ e. rw (ne_eqb v 0 e, length) (ap suc (climb-long f (get_or t.parent v 0) ∙ ap (λ l. length (climb u f (get_or l v 0))) up)))

  pub depth-alike : (v : ℕ) → depth t v ≡ depth u v
  depth-alike v = climb-long v v

  module _ (num : t.token ≡ u.token) where
    nearest-alike : (f v : ℕ) → nearest t f v ≡ nearest u f v
    nearest-alike zero v = refl
    nearest-alike (suc f) v = cc (nearest-alike f (get_or t.parent v 0))

    pub carrier-alike : (v : ℕ) → carrier t v ≡ carrier u v
    carrier-alike v = nearest-alike v v

  module _ (tag : t.label ≡ u.label) where
    climb-alike : (f v : ℕ) → climb t f v ≡ climb u f v
    climb-alike zero v = refl
    climb-alike (suc f) v = cc (climb-alike f (get_or t.parent v 0))

    pub ending-alike : (v : ℕ) → ending t v ≡ ending u v
    ending-alike v = climb-alike v v

    pub words-alike : t.token ≡ u.token → (v : ℕ) → words t v ≡ words u v
    words-alike num zero = refl
    words-alike num (suc v) =
        ap (λ l. more (get_or l v 0) (ending t v) (words t v)) num
        ∙ ap (λ w. more (get_or u.token v 0) w (words t v)) (ending-alike v) ∙ ap (more (get_or u.token v 0) (ending u v)) (words-alike num v)

pub spells : (parent label token : List ℕ) (count v : ℕ) → Readable parent label token count → v < count → Spells parent label v
spells parent label token count v r h =
    record { count = count; rises = r.rises; below = h; labels = r.labels; deep = r.deep v h }

pub unbroken-rises : (t : Tables) (count : ℕ) → Unbroken t count → Rises t.parent count
unbroken-rises t count u = record {
  size = u.falling.size;
  held = omega (arith, u.held);
  root = u.falling.root-up;
  ups = u.falling.ups;
}

pub unbroken-readable : (t : Tables) (count : ℕ) → Unbroken t count → Readable t.parent t.label t.token count
unbroken-readable t count u = record {
  rises = unbroken-rises t count u;
  labels = omega (arith, u.held);
  tokens = omega (arith, u.held);
  deep = λ v h. rw (ending-alike (paths t.parent t.label) t refl refl v) (u.deep v h);
}

pub unbroken-marked : (t : Tables) (count v : ℕ) → Unbroken t count → v < count → Marked t.parent t.token v
unbroken-marked t count v u h =
    record { count = count; rises = unbroken-rises t count u; below = h; tokens = omega (arith, u.held) }

module _ (t : Tables) (count S : ℕ) where
  -- Rule 5, over the four tables that it reads.
  pub shift_by : (v : ℕ) (o : Option ℕ)
      → shift_from (tables t.parent t.label t.token [] [] t.shift) count S v o ≡ shift_from t count S v o
  shift_by v o =
      let u = tables t.parent t.label t.token [] [] t.shift in
      ap (λ b. min S (max (get_or t.shift v 0) b))
      (ap (λ ws. byte_shift ws S (depth u v) o) (words-alike u t refl refl refl count)
      ∙ ap (λ d. byte_shift (words t count) S d o) (depth-alike u t refl v))

  -- Rule 2, over the two that it reads.
  pub recall-by : (ms : List (Stretch ℕ)) (at : ℕ) → recall_by t.parent t.label ms at ≡ recall (of_tables t count S) ms at
  recall-by [] at = refl
  recall-by (m ∷ ms) at =
      let u = paths t.parent t.label in
      let k = m.right - 1 - at in
      let far = ap (λ d. d - 1 - k) (depth-alike u t refl m.node) in
      let byte = ap (λ v. get_or t.label v 0) (ap (λ n. lifted u n m.node) far ∙ lifted-alike u t refl (depth t m.node - 1 - k) m.node) in
      ap (λ b. found (covers at m) b (recall_by t.parent t.label ms at)) byte
      ∙ ap (found (covers at m) (get_or t.label (lifted t (depth t m.node - 1 - k) m.node) 0)) (recall-by ms at)
    where
      found : Bool → ℕ → Option ℕ → Option ℕ
      found b x o = elim b [ true ↦ some x | false ↦ o ]

  -- Rules 4 and 6, over the parents.
  pub remember-by : (c : Config ℕ) (next : ℕ) → remember_by t.parent c.stretches c.node c.depth c.boundary next
      ≡ laid max_stretches (select (kept next) (ended (of_tables t count S) c))
  remember-by c next =
      let u = paths t.parent [] in
      let from = c.boundary - c.depth in
      let rest = left_over from c.stretches in
      let far = ap (λ d. d - (c.boundary - cut from rest)) (depth-alike u t refl c.node) in
      ap (λ v. laid max_stretches (select (kept next) (rest ++ (stretch (cut from rest) c.boundary v ∷ []))))
      (ap (λ n. lifted u n c.node) far ∙ lifted-alike u t refl (depth t c.node - (c.boundary - cut from rest)) c.node)
    where
      stretch : ℕ → ℕ → ℕ → Stretch ℕ
      stretch l r v = record { left = l; right = r; node = v }

-- A configuration in its ranges.
module _ {t : Tables} {count n S : ℕ} (ready : Ready t count n S) (c : Config ℕ) (w : Within t count n c) where
  pub within-climbs : Climbs t.parent c.node
  within-climbs = record { count = count; rises = unbroken-rises t count ready.tree; below = w.node }

  pub within-remembers : Remembers t.parent t.label c.stretches
  within-remembers =
      let u = paths t.parent t.label in
      record {
        count = count;
        rises = unbroken-rises t count ready.tree;
        labels = omega (arith, ready.tree.held);
        fits = all_map (Fits t count) (Fits u count) (λ m f. (f.0, depth-alike u t refl m.node ∙ f.1)) c.stretches w.fits;
      }

  pub within-ends : (s : ℕ) → s ≤ S → Ends t.parent c.node c.depth c.boundary (c.boundary + s)
  within-ends s h = record {
    deep = depth-alike (paths t.parent []) t refl c.node ∙ w.held.sized;
    inside = w.held.inside;
    moves = omega arith;
    small = omega (arith, w.near, ready.image, ready.first);
  }
