-- A round in an image at hand, as a whole: it does what the rules' steps do one by one, for what is fetched, spared and found.
use Rattle.std.specs.Prelude.{ℕ, zero, suc, ◌+◌, ◌-◌, ◌*◌, ◌≤◌, ◌<◌, ◌≡◌, true, false, ◌||◌, List, [], ◌∷◌, ◌++◌, eqb, length, get_or}
use native.Mathlib.Omega.{arith}
use Rattle.std.proofs.Common.{le_trans, ap, sym, subst, ◌∙◌, le-ltb}
use Rattle.std.proofs.Math.Path.{refl}
use Rattle.std.proofs.Math.Option.{Option, some, none}
use Rattle.std.proofs.lemmas.Bool.{eqb-false}
use Rattle.rules.specs.Rules.{Tree, Stretch, Config, Event, Step, goes, hits_up, recall, ended, shifted_by, end_round, taken, look, next, follow, trace}
use Rattle.rules.specs.Words.{all_words}
use Rattle.rules.specs.Tokens.{of_tokens, shift_of}
use Rattle.rules.specs.Sweep.{bytes_of, places, looks, hits}
use Rattle.rules.specs.Setting.{Setting}
use Rattle.rules.specs.Stretches.{Spans, loose}
use Rattle.rules.specs.Configs.{steps_left, byte_of, Inv}
use Rattle.rules.proofs.Laws.Tests.{or-nr}
use Rattle.rules.proofs.Laws.Limit.{ended-laid}
use Rattle.rules.proofs.Laws.Limit.Span.{kept_spans}
use Rattle.rules.proofs.Laws.Limit.Ends.{steps-enough, less-end}
use Rattle.rules.proofs.Laws.Limit.Looks.{looks-split, end-looks}
use Rattle.rules.proofs.Laws.Exact.Shift.{Known, shift-ge}
use Rattle.rules.proofs.Laws.Exact.Configs.{end-inv, recall-known}
use Rattle.rules.proofs.Laws.Exact.Walk.{NextGood, next-good}
use Rattle.image.specs.Rounds.{Reached, down, reached, met, lowest, start_at, fetches_from, spares_from, hits_from, Starts}
use Rattle.image.proofs.Laws.Down.{down-cases, met-is}
use Rattle.image.proofs.Laws.Loose.{cost, loose_at, loose_none}
use Rattle.image.proofs.Laws.Events.{end-places, end-hits}

module _ (tokens : List (List ℕ)) (S D : ℕ) (setting : Setting tokens S D) (image : List ℕ) where
  -- where the round ends, by how much the boundary is raised, and what is then remembered
  abbrev pub ending : ℕ → Reached (List ℕ)
  ending b = reached (of_tokens tokens S) image b

  abbrev pub raise : ℕ → ℕ
  raise b = shift_of (all_words tokens) S (ending b).node (ending b).closing

  abbrev pub afterwards : ℕ → List (Stretch (List ℕ)) → List (Stretch (List ℕ))
  afterwards b ss =
      (shifted_by (of_tokens tokens S)
      (record { boundary = b; node = (ending b).node; depth = (ending b).depth; stretches = ss }) (raise b)).stretches

  -- A round as a whole. Of the places from its lowest up to b it fetches those in no stretch, and spares the others.
  pub record Round (b : ℕ) (ss : List (Stretch (List ℕ))) (fuel k : ℕ) : Type 0 where
    pub left : ℕ
    pub count : ℕ
    pub starts : Starts tokens S D setting image (b + raise b) (afterwards b ss) left
    pub fetches : fetches_from tokens S D setting image fuel k b ss
        ≡ loose b (lowest b (ending b)) ss + fetches_from tokens S D setting image left count (b + raise b) (afterwards b ss)
    pub spares : lowest b (ending b) + loose b (lowest b (ending b)) ss + spares_from tokens S D setting image fuel k b ss
        ≡ b + spares_from tokens S D setting image left count (b + raise b) (afterwards b ss)
    pub finds : hits_from tokens S D setting image fuel k b ss
        ≡ met (of_tokens tokens S) image b ++ hits_from tokens S D setting image left count (b + raise b) (afterwards b ss)
    pub inside : (ending b).depth ≤ b
    pub short : (ending b).depth ≤ D
    pub deep : (ending b).depth ≡ length (ending b).node

  -- The round at boundary b.
  module _ (b : ℕ) (ss : List (Stretch (List ℕ))) (spans : Spans D b 0 ss) (h : b ≤ length image) where
    abbrev tree : Tree (List ℕ)
    tree = of_tokens tokens S

    abbrev here : List ℕ → ℕ → Config (List ℕ)
    here v d = record { boundary = b; node = v; depth = d; stretches = ss }

    abbrev run : ℕ → ℕ → Config (List ℕ) → List (Event (List ℕ))
    run = trace tree (length image) (bytes_of image)

    abbrev over : Reached (List ℕ) → Config (List ℕ)
    over r = (end_round tree (here r.node r.depth) r.closing).config

    -- From depth d on the events `es` are those of a walk that ends at r, and of what happens after the round.
    record Rest (d : ℕ) (r : Reached (List ℕ)) (es : List (Event (List ℕ))) : Type 0 where
      left : ℕ
      count : ℕ
      inv : Inv (byte_of image) D (here r.node r.depth)
      enough : steps_left (length image) D b r.depth ≤ left
      fetches : loose b (b - d) ss + length (places es) ≡ loose b (lowest b r) ss + length (places (run left count (over r)))
      looked : lowest b r + d + length (looks es) ≡ b + length (looks (run left count (over r)))
      finds : hits es ≡ hits (hits_up tree b r.node r.depth) ++ hits (run left count (over r))

    -- So it is where the round ends,
    end_rest : (fuel k e : ℕ) (r : Reached (List ℕ)) → Inv (byte_of image) D (here r.node r.depth)
        → steps_left (length image) D b r.depth ≤ fuel → b - e ≡ lowest b r → e ≤ b
        → Rest e r ((end_round tree (here r.node r.depth) r.closing).events ++ run fuel k (over r))
    end_rest fuel k e r i l z up =
        let c = here r.node r.depth in
        record {
          left = fuel;
          count = k;
          inv = i;
          enough = l;
          fetches = rw (z, end-places tree c r.closing (run fuel k (over r))) refl;
          looked = rw (end-looks tree c r.closing (run fuel k (over r))) (omega arith);
          finds = end-hits tree c r.closing (run fuel k (over r));
        }

    -- and with a byte in front, fetched or recalled.
    byte-rest : (x : Event (List ℕ)) (d : ℕ) (r : Reached (List ℕ)) (es : List (Event (List ℕ))) (o : Option ℕ)
        → d < b → recall tree ss (b - 1 - d) ≡ o → length (places (x ∷ es)) ≡ cost o + length (places es)
        → length (looks (x ∷ es)) ≡ suc (length (looks es)) → hits (x ∷ es) ≡ hits es → Rest (d + 1) r es → Rest d r (x ∷ es)
    byte-rest x d r es o d< e p l q w =
        let y : b - (d + 1) ≡ b - 1 - d = omega arith in
        let z : b - d ≡ suc (b - 1 - d) = omega arith in
        let c = rw e at (loose_at tree D b (b - 1 - d) 0 ss (omega arith) spans) in
        record {
          left = w.left;
          count = w.count;
          inv = w.inv;
          enough = w.enough;
          fetches = rw z (omega (arith, c, p, rw y at w.fetches));
          looked = omega (arith, l, w.looked);
          finds = q ∙ w.finds;
        }

    -- Each node has the walk of `down` before it.
    abbrev Walks : ℕ → ℕ → Type 0
    Walks f fuel = (k : ℕ) (v : List ℕ) (d : ℕ) (m : List ℕ) → Inv (byte_of image) D (here v d) → b < f + d
        → steps_left (length image) D b d < fuel → Rest d (down tree image b f v d m) (run fuel k (here v d))

    -- What comes next: the round stops, or looks at a place.
    module _ (v : List ℕ) (d : ℕ) where
      next-stop : (tree.leaf v || eqb d b) ≡ true → next tree (length image) (here v d) ≡ goes (end_round tree (here v d) none)
      next-stop t = cc (le-ltb (length image) b h)

      next-look : (tree.leaf v || eqb d b) ≡ false
          → next tree (length image) (here v d) ≡ look tree (here v d) (recall tree ss (b - 1 - d))
      next-look t = cc (le-ltb (length image) b h)

      below : (tree.leaf v || eqb d b) ≡ false → Inv (byte_of image) D (here v d) → d < b
      below t i = omega (arith, i.inside, eqb-false d b (or-nr (tree.leaf v) _ t))

    module _ (fuel k : ℕ) (v : List ℕ) (d : ℕ) (i : Inv (byte_of image) D (here v d)) where
      -- the step by the byte x, and what it leads to, going forward
      abbrev by : ℕ → Step (List ℕ)
      by x = taken tree (here v d) x (tree.child v x)

      abbrev After : Reached (List ℕ) → ℕ → ℕ → Type 0
      After r x k =
          Inv (byte_of image) D (by x).config
          → steps_left (length image) D (by x).config.boundary (by x).config.depth < steps_left (length image) D b d
          → Rest (d + 1) r ((by x).events ++ run fuel k (by x).config)

      module _ (r : Reached (List ℕ)) (t : (tree.leaf v || eqb d b) ≡ false) (w : (k : ℕ) → After r (get_or image (b - 1 - d) 0) k) where
        -- Whether its byte is remembered or not, the round takes the image's.
        look-rest : (o : Option ℕ) → recall tree ss (b - 1 - d) ≡ o → Known (byte_of image) (b - 1 - d) o
            → NextGood tokens S D setting image (here v d) (look tree (here v d) o)
            → Rest d r (follow tree (bytes_of image) (run fuel) k (here v d) (look tree (here v d) o))
        look-rest none e known g = byte-rest _ d r _ none (below v d t i) e (omega arith) refl refl (w (k + 1) g.inv g.less)
        look-rest (some x) e known g =
            byte-rest _ d r _ (some x) (below v d t i) e (omega arith) refl refl (subst (λ y. After r y k) (sym known) (w k) g.inv g.less)

        on-rest : Rest d r (follow tree (bytes_of image) (run fuel) k (here v d) (next tree (length image) (here v d)))
        on-rest =
            rw (next-look v d t) (look-rest _ refl (recall-known (byte_of image) tokens S b ss (b - 1 - d) i.holds)
            (rw (next-look v d t) at (next-good tokens S D setting image (here v d) i)))

    -- By the way down, and the steps left.
    walks-on : (f fuel : ℕ) → Walks f fuel → Walks (suc f) (suc fuel)
    unfolding trace
    walks-on f fuel ih k v d m i near l =
        let l' : steps_left (length image) D b d ≤ fuel = omega arith in
        down-cases tree image b f v d m (λ r. Rest d r (run (suc fuel) k (here v d)))
        (λ t. rw (next-stop v d t) (end_rest fuel k d _ i l' refl i.inside))
        (λ t e. on-rest fuel k v d i _ t (λ k _ _. rw e (end_rest fuel k (d + 1) _ i l' (omega arith) (omega (arith, below v d t i)))))
        (λ t w e. on-rest fuel k v d i _ t (λ k j less. rw e (ih k w (d + 1) _ (rw e at j) (omega arith) (le_trans (rw e at less) l'))))

    walks : (f fuel : ℕ) → Walks f fuel
    walks zero fuel k v d m i near l = absurd (omega (arith, i.inside))
    walks (suc f) zero k v d m i near l = absurd (omega arith)
    walks (suc f) (suc fuel) k v d m i near l = walks-on f fuel (walks f fuel) k v d m i near l

    -- What holds at the start of a round holds again after it.
    over-starts : (r : Reached (List ℕ)) (left : ℕ) → Inv (byte_of image) D (here r.node r.depth)
        → steps_left (length image) D b r.depth ≤ left → Starts tokens S D setting image (over r).boundary (over r).stretches left
    over-starts r left i l =
        let c = here r.node r.depth in
        let up : b < (over r).boundary = omega (arith, shift-ge (all_words tokens) S r.node r.closing) in
        record {
          inv = end-inv (byte_of image) tokens S D c r.closing i;
          spans = kept_spans D b (over r).boundary 0 (ended tree c) up
              (ended-laid tree length D c (record { sized = sym i.deep; deep = i.short; inside = i.inside; spans = spans }));
          enough = λ _. le_trans (less-end (length image) D b (over r).boundary r.depth h up i.short) l;
        }

    -- Nothing is loose at the start, so the walk from the root is the round.
    whole : (fuel k : ℕ) → Rest 0 (ending b) (run fuel k (start_at b ss)) → Round b ss fuel k
    whole fuel k w =
        let z : b - 0 ≡ b = omega arith in
        let fresh = rw z at w.fetches in
        let none = loose_none tree D b 0 ss spans in
        record {
          left = w.left;
          count = w.count;
          starts = over-starts (ending b) w.left w.inv w.enough;
          fetches = omega arith;
          spares = omega (arith, w.looked, looks-split (run fuel k (start_at b ss)), looks-split (run w.left w.count (over (ending b))));
          finds = w.finds ∙ ap (λ l. l ++ hits (run w.left w.count (over (ending b)))) (met-is tokens S b image);
          inside = w.inv.inside;
          short = w.inv.short;
          deep = w.inv.deep;
        }

  pub round : (b : ℕ) (ss : List (Stretch (List ℕ))) (fuel k : ℕ) → Starts tokens S D setting image b ss fuel → b ≤ length image → Round b ss fuel k
  round b ss fuel k s h =
      whole b ss s.spans h fuel k (walks b ss s.spans h (suc b) fuel k [] 0 [] s.inv (omega arith) (s.enough h))

  -- The first round starts so.
  pub first-starts : Starts tokens S D setting image S [] (suc (length image) * (D + 2))
  first-starts = record {
    inv = record { deep = refl; inside = omega arith; short = omega arith; reads = λ k k<. absurd (omega arith); holds = tt };
    spans = tt;
    enough = λ _. steps-enough (length image) D S _ setting.positive (omega arith);
  }
