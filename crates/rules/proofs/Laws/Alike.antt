-- Two trees that say the same of each node and of its image: the rules do the same over both.
use Prim.Native.Nat.{ℕ, zero, suc, ◌+◌, ◌-◌, ◌≤◌, ◌<◌}
use Rattle.std.proofs.Common.{arith, ap, sym, ◌∙◌, leb-true, ltb-true}
use Rattle.std.specs.Prelude.{◌≡◌, Bool, true, false, ◌&&◌, ◌||◌, List, [], ◌∷◌, ◌++◌, leb, ltb, eqb}
use Rattle.std.proofs.Math.Path.{refl}
use Rattle.std.proofs.Math.Option.{Option, some, none}
use Rattle.rules.specs.Rules.{Tree, Stretch, Config, Event, shifted, Step, Next, finished, wants, goes, place, hit_at, left_over, cut, kept, hits_up, recall, ended, shifted_by, end_round, taken, take_byte, look, next, follow, trace}
use Rattle.rules.specs.Lists.{All}
use Rattle.rules.specs.Stretches.{stretches_of}
use Rattle.rules.proofs.Laws.Tests.{and_l, and_r, next-cases}
use Rattle.rules.proofs.Laws.Limit.Span.{cut-ge}
use Rattle.rules.proofs.Laws.All.{all_append, all-select}
use Rattle.rules.proofs.Laws.Image.{config_of, events_of, step_of, next_of, stretches-append, stretches-select, stretches-cut, events-append, events-hit}

-- rules 1 and 2: the arguments are whether the boundary is past the image, whether the round ends, and what is remembered
abbrev chosen : {E : Type 0} → Tree E → Config E → Bool → Bool → Option ℕ → Next E
chosen tree c past stop o = elim past [ true ↦ finished | false ↦ elim stop [ true ↦ goes (end_round tree c none) | false ↦ look tree c o ] ]

-- the children of a node and of its image: both missing, or a node and its image
abbrev pub Both : {E F : Type 0} → (E → F) → (E → Type 0) → Option E → Option F → Type 0
Both f P none none = Unit {0}
Both f P none (some u) = ⊥
Both f P (some w) none = ⊥
Both f P (some w) (some u) = P w × (f w ≡ u)

-- `f` sends the nodes of which `P` holds, those of `here`, to nodes of `there`, whose sizes are known.
pub record Alike {E F : Type 0} (here : Tree E) (there : Tree F) (f : E → F) (P : E → Type 0) (size : F → ℕ) : Type 0 where
  pub root_in : P here.root
  pub root : f here.root ≡ there.root
  pub bare : size there.root ≡ 0
  pub child : (v : E) (x : ℕ) → P v → Both f P (here.child v x) (there.child (f v) x)
  pub grows : (u : F) (x : ℕ) (w : F) → there.child u x ≡ some w → size w ≡ suc (size u)
  pub leaf : (v : E) → P v → here.leaf v ≡ there.leaf (f v)
  pub token : (v : E) → P v → here.token v ≡ there.token (f v)
  pub byte_at : (v : E) (k : ℕ) → P v → k < size (f v) → here.byte_at v k ≡ there.byte_at (f v) k
  pub ancestor-in : (v : E) (k : ℕ) → P v → k ≤ size (f v) → P (here.ancestor v k)
  pub ancestor : (v : E) (k : ℕ) → P v → k ≤ size (f v) → f (here.ancestor v k) ≡ there.ancestor (f v) k
  pub lifted : (u : F) (k : ℕ) → k ≤ size u → size (there.ancestor u k) ≡ k
  pub shift : (v : E) (o : Option ℕ) → P v → here.shift v o ≡ there.shift (f v) o

module _ {E F : Type 0} {here : Tree E} {there : Tree F} {f : E → F} {P : E → Type 0} {size : F → ℕ} (alike : Alike here there f P size) where
  -- Stretches and configurations of such nodes.
  abbrev pub AptStretch : Stretch E → Type 0
  AptStretch s = P s.node × (size (f s.node) ≡ s.right - s.left)

  pub record Apt (c : Config E) : Type 0 where
    pub node : P c.node
    pub sized : size (f c.node) ≡ c.depth
    pub stretches : All AptStretch c.stretches

  recall-same : (ss : List (Stretch E)) (at : ℕ) → All AptStretch ss → recall there (stretches_of f ss) at ≡ recall here ss at
  recall-same [] at a = refl
  recall-same (s ∷ ss) at a = go (leb s.left at && ltb at s.right) refl (recall-same ss at a.1)
    where
      go : (b : Bool) → (leb s.left at && ltb at s.right) ≡ b → recall there (stretches_of f ss) at ≡ recall here ss at
          → ◌≡◌ {A = Option ℕ}
          (elim b [ true ↦ some (there.byte_at (f s.node) (s.right - 1 - at)) | false ↦ recall there (stretches_of f ss) at ])
          (elim b [ true ↦ some (here.byte_at s.node (s.right - 1 - at)) | false ↦ recall here ss at ])
      go true t ih =
          let from = leb-true s.left at (and_l _ _ t) in
          let upto = ltb-true at s.right (and_r (leb s.left at) _ t) in
          cc (alike.byte_at s.node (s.right - 1 - at) a.0.0 (omega (arith, a.0.1)))
      go false t ih = ih

  module _ (c : Config E) (a : Apt c) where
    rest-same : left_over (c.boundary - c.depth) (stretches_of f c.stretches) ≡ stretches_of f (left_over (c.boundary - c.depth) c.stretches)
    rest-same = stretches-select f _ _ (λ s. refl) c.stretches

    high : c.boundary - cut (c.boundary - c.depth) (left_over (c.boundary - c.depth) c.stretches) ≤ size (f c.node)
    high = omega (arith, a.sized, cut-ge (c.boundary - c.depth) (left_over (c.boundary - c.depth) c.stretches))

    ended_same : ended there (config_of f c) ≡ stretches_of f (ended here c)
    ended_same =
        let from = c.boundary - c.depth in
        let r = left_over from c.stretches in
        rw (stretches-append f r _, rest-same, stretches-cut f from r, alike.ancestor c.node (c.boundary - cut from r) a.node high)

    ended-apt : All AptStretch (ended here c)
    ended-apt =
        let from = c.boundary - c.depth in
        let r = left_over from c.stretches in
        let k = c.boundary - cut from r in
        all_append AptStretch r _ (all-select AptStretch _ c.stretches a.stretches) (
          (
            alike.ancestor-in c.node k a.node high,
            ap size (alike.ancestor c.node k a.node high) ∙ alike.lifted (f c.node) k high,
          ),
          tt,
        )

    shifted-same : (s : ℕ) → shifted_by there (config_of f c) s ≡ config_of f (shifted_by here c s)
    shifted-same s = cc (
      ended_same,
      alike.root,
      stretches-select f (kept (c.boundary + s)) (kept (c.boundary + s)) (λ s. refl) (ended here c),
    )

    hits-same : (end k : ℕ) → k ≤ size (f c.node) → hits_up there end (f c.node) k ≡ events_of f (hits_up here end c.node k)
    hits-same end zero h = refl
    hits-same end (suc k) h =
        let w = here.ancestor c.node (suc k) in
        let same : there.token (there.ancestor (f c.node) (suc k)) ≡ here.token w =
        ap there.token (sym (alike.ancestor c.node (suc k) a.node h)) ∙ sym (alike.token w (alike.ancestor-in c.node (suc k) a.node h)) in
        cc (same, hits-same end k (omega arith), events-append f (hit_at end (here.token w)) (hits_up here end c.node k), events-hit f end (here.token w))

    end_same : (o : Option ℕ) → end_round there (config_of f c) o ≡ step_of f (end_round here c o)
    end_same o =
        let hits = hits_up here c.boundary c.node c.depth in
        let c' = (end_round here c o).config in
        ap {B = Step F} (λ d. ended_at (hits_up there c.boundary (f c.node) c.depth) d)
        (ap (shifted_by there (config_of f c)) (sym (alike.shift c.node o a.node)) ∙ shifted-same (here.shift c.node o))
        ∙ ap (λ es. ended_at es (config_of f c')) (hits-same c.boundary c.depth (omega (arith, a.sized)))
        ∙ cc (events-append f hits (shifted c'.boundary c'.stretches ∷ []))
      where
        ended_at : List (Event F) → Config F → Step F
        ended_at es d = record { events = es ++ (shifted d.boundary d.stretches ∷ []); config = d }

    end-apt : (o : Option ℕ) → Apt (end_round here c o).config
    end-apt o =
        let b = c.boundary + here.shift c.node o in
        record {
          node = alike.root_in;
          sized = ap size alike.root ∙ alike.bare;
          stretches = all-select AptStretch (kept b) (ended here c) ended-apt;
        }

    taken-same : (x : ℕ) (o : Option E) (q : Option F) → Both f P o q → taken there (config_of f c) x q ≡ step_of f (taken here c x o)
    taken-same x none none h = end_same (some x)
    taken-same x none (some u) h = absurd h
    taken-same x (some w) none h = absurd h
    taken-same x (some w) (some u) h = cc h.1

    pub take_same : (x : ℕ) → take_byte there (config_of f c) x ≡ step_of f (take_byte here c x)
    take_same x = taken-same x (here.child c.node x) (there.child (f c.node) x) (alike.child c.node x a.node)

    taken-apt : (x : ℕ) (o : Option E) (q : Option F) → Both f P o q → there.child (f c.node) x ≡ q → Apt (taken here c x o).config
    taken-apt x none none h e = end-apt (some x)
    taken-apt x none (some u) h e = absurd h
    taken-apt x (some w) none h e = absurd h
    taken-apt x (some w) (some u) h e = record {
      node = h.0;
      sized = ap size h.1 ∙ alike.grows (f c.node) x u e ∙ omega (arith, a.sized);
      stretches = a.stretches;
    }

    pub take-apt : (x : ℕ) → Apt (take_byte here c x).config
    take-apt x = taken-apt x (here.child c.node x) (there.child (f c.node) x) (alike.child c.node x a.node) refl

    look-same : (o : Option ℕ) → look there (config_of f c) o ≡ next_of f (look here c o)
    look-same none = refl
    look-same (some x) = cc (take_same x)

    chosen-same : (s t : Bool) (o : Option ℕ) → chosen there (config_of f c) s t o ≡ next_of f (chosen here c s t o)
    chosen-same true t o = refl
    chosen-same false true o = cc (end_same none)
    chosen-same false false o = look-same o

    -- What comes next is the same,
    pub next-same : (n : ℕ) → next there n (config_of f c) ≡ next_of f (next here n c)
    next-same n =
        let d = config_of f c in
        let s = ltb n c.boundary in
        ap (λ t. chosen there d s (t || eqb c.depth c.boundary) (recall there d.stretches (place c))) (sym (alike.leaf c.node a.node))
        ∙ ap (chosen there d s (here.leaf c.node || eqb c.depth c.boundary)) (recall-same c.stretches (place c) a.stretches)
        ∙ chosen-same s (here.leaf c.node || eqb c.depth c.boundary) (recall here c.stretches (place c))

    -- and it leads to such nodes.
    abbrev pub AptNext : Next E → Type 0
    AptNext finished = Unit {0}
    AptNext (wants at) = Unit {0}
    AptNext (goes s) = Apt s.config

    look-apt : (o : Option ℕ) → AptNext (look here c o)
    look-apt none = tt
    look-apt (some x) = take-apt x

    pub next-apt : (n : ℕ) → AptNext (next here n c)
    next-apt n = next-cases here n c AptNext (λ _. tt) (λ _ _. end-apt none) (λ _ _ _. look-apt (recall here c.stretches (place c)))

  -- So all that happens is the same.
  pub trace-same : (n : ℕ) (ask : ℕ → ℕ → ℕ) (fuel k : ℕ) (c : Config E) → Apt c
      → trace there n ask fuel k (config_of f c) ≡ events_of f (trace here n ask fuel k c)
  unfolding trace
  trace-same n ask zero k c a = refl
  trace-same n ask (suc fuel) k c a =
      rw (next-same c a n) (go (next here n c) (next-apt c a n) (trace-same n ask fuel))
    where
      go : (x : Next E) → AptNext c a x
          → ((k : ℕ) (c : Config E) → Apt c → trace there n ask fuel k (config_of f c) ≡ events_of f (trace here n ask fuel k c))
          → follow there ask (trace there n ask fuel) k (config_of f c) (next_of f x) ≡ events_of f (follow here ask (trace here n ask fuel) k c x)
      go finished h ih = refl
      go (wants at) h ih =
          let s = take_byte here c (ask k at) in
          let e = events-append f s.events (trace here n ask fuel (k + 1) s.config) in
          cc (take_same c a (ask k at), ih (k + 1) s.config (take-apt c a (ask k at)))
      go (goes s) h ih = cc (events-append f s.events (trace here n ask fuel k s.config), ih k s.config h)
