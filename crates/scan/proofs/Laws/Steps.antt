-- What a step from a state in its ranges asks and leaves, over plain tables and numbers.
use Prim.Native.Nat.{ℕ, ◌+◌, min}
use native.Mathlib.Omega.{arith}
use mathlib.Core.Path.{◌≡◌, ap, sym, ◌∙◌}
use mathlib.Core.List.{List}
use mathlib.Core.Option.{Option}
use lib.ListN.{length}
use Rattle.std.specs.Prelude.{Option as Maybe, Some}
use Rattle.rules.specs.Options.{option_of}
use Rattle.rules.specs.Rules.{end_round, taken, take_byte}
use Rattle.rules.specs.Sweep.{recalls}
use Rattle.rules.proofs.Laws.Hits.{end-recalls}
use Rattle.tables.specs.Tables.{Tables}
use Rattle.tables.specs.Walks.{child_by, carrier, shift_from}
use Rattle.scan.specs.declared.Scan.{Scan}
use Rattle.scan.specs.declared.Stretch.{Stretch as Slot}
use Rattle.scan.specs.State.{config_of, tree_of, used, laid, max_spared, max_stretches}
use Rattle.scan.specs.Calls.{sparing, moved, owing, stepped}
use Rattle.scan.specs.Steps.{Stepping}
use Rattle.scan.specs.Within.{Counts, Goes}
use Rattle.scan.proofs.Laws.Slots.{slots-laid}
use Rattle.scan.proofs.Laws.StretchesRemember.{remembered}
use Rattle.scan.proofs.Laws.Stay.{first-hit}

-- the shift after a round of a state
abbrev pub shift_in : Tables → Scan → Option ℕ → ℕ
shift_in t s o = shift_from t s.count s.shortest s.node o

-- the same sweep, with a round that stands elsewhere
abbrev standing : Scan → ℕ → ℕ → ℕ → List Slot → Scan
standing s b v d l = record {
  image = s.image;
  shortest = s.shortest;
  count = s.count;
  boundary = b;
  node = v;
  depth = d;
  due = s.due;
  stretches = l;
  supplied = s.supplied;
  spared = s.spared;
  end = s.end;
  hit = s.hit;
}

-- Where nothing is taken from a stretch the count stays.
none-spared : (s : Scan) → Counts s → s ≡ sparing s 0
none-spared s few = let e : min max_spared (s.spared + 0) ≡ s.spared = omega arith in rw e

-- The state after a round has ended: rules 4 to 6, and its hits are left.
pub ended-state : {t : Tables} {s : Scan} → Goes t s → (o : Option ℕ) (by : ℕ) (slots : List Slot) (v : ℕ)
    → by ≡ shift_in t s o → slots ≡ remembered t s (s.boundary + by) → v ≡ carrier t s.node
    → (r : Scan) → r ≡ owing (standing s (s.boundary + by) 0 0 slots) s.boundary v → r ≡ stepped t s (end_round (tree_of t s) (config_of s) o)
ended-state {t} {s} g o by slots v p q h r is =
    let w = g.within in
    let hit = first-hit {t = t} g.ready.tree.falling s.shortest (config_of s) w.node w.held.sized o in
    let spared = none-spared s g.few ∙ ap (λ ps. sparing s (length ps)) (sym (end-recalls (tree_of t s) (config_of s) o)) in
    let to = end_round (tree_of t s) (config_of s) o in
    is ∙ ap (λ l. owing (standing s (s.boundary + by) 0 0 l) s.boundary v) q
    ∙ ap (λ b. owing (standing s (s.boundary + b) 0 0 (remembered t s (s.boundary + b))) s.boundary v) p
    ∙ ap (λ u. owing (moved u to.config) s.boundary v) spared
    ∙ ap (owing (moved (sparing s (length (recalls to.events))) to.config) s.boundary) (h ∙ sym hit)

-- the state at another node, one deeper
abbrev down : Scan → ℕ → List Slot → ℕ → ℕ → Scan
down s v l end hit = record {
  image = s.image;
  shortest = s.shortest;
  count = s.count;
  boundary = s.boundary;
  node = v;
  depth = s.depth + 1;
  due = s.due;
  stretches = l;
  supplied = s.supplied;
  spared = s.spared;
  end = end;
  hit = hit;
}

module _ (t : Tables) (s : Scan) (x : ℕ) (k : Maybe ℕ) (is : option_of k ≡ child_by t s.count s.node x) where
  -- the state that the byte leads to
  abbrev took : Scan
  took = stepped t s (take_byte (tree_of t s) (config_of s) x)

  -- The round goes to the child, and no hit is left.
  pub took-on : (v : ℕ) → k ≡ Some v → Stepping t s → down s v s.stretches s.end s.hit ≡ took
  took-on v e g =
      let l = laid max_stretches (used s.stretches) in
      ap (λ l. down s v l s.end s.hit) (slots-laid s g.goes.slots)
      ∙ ap (λ end. down s v l end s.hit) (g.goes.left.none g.none) ∙ ap (down s v l 0) g.none
      ∙ ap (λ u. down u v l 0 0) (none-spared s g.goes.few)
      ∙ ap (λ o. stepped t s (taken (tree_of t s) (config_of s) x o)) (sym (ap option_of e) ∙ is)
