-- The end of a round: the new stretch behind those that stay.
use Prim.Native.Nat.{ℕ, ◌-◌, ◌≤◌, ◌<◌, ◌^◌}
use native.Mathlib.Omega.{arith}
use mathlib.Core.Path.{◌≡◌, ap, sym, ◌∙◌}
use mathlib.Core.Bool.{Bool, true, false}
use mathlib.Core.List.{List, [], ◌∷◌, ◌++◌, append-nil}
use Rattle.rules.specs.Lists.{select, All}
use Rattle.rules.specs.Rules.{Stretch, Config, left_over, cut, kept, ended}
use Rattle.rules.specs.Stretches.{Lies, Spans, staying}
use Rattle.book.specs.Book.{max_body}
use Rattle.rules.proofs.Laws.All.{select-append}
use Rattle.rules.proofs.Laws.Remember.{new-lies}
use Rattle.rules.proofs.Laws.Limit.Span.{cut-ge}
use Rattle.tables.specs.Tables.{Tables}
use Rattle.tables.specs.Walks.{depth, lifted}
use Rattle.scan.specs.declared.Stretch.{Stretch as Slot}
use Rattle.scan.specs.declared.stretches.Filled.{Filled}
use Rattle.scan.specs.State.{slot_of, laid, max_stretches, used, config_of, tree_of}
use Rattle.scan.specs.declared.Scan.{Scan}
use Rattle.scan.specs.Memory.{put_in, filled_with}
use Rattle.scan.specs.Within.{Ready, Within, Goes}
use Rattle.scan.proofs.Laws.StretchesSift.{laid-full, put-filled}

-- Stretches of a configuration in its ranges lie before its boundary.
pub within-lies : {t : Tables} {count n S : ℕ} → Ready t count n S → (c : Config ℕ) → Within t count n c → All (Lies c.boundary) c.stretches
within-lies ready c w = go 0 c.stretches w.held.spans
  where
    go : (lo : ℕ) (ms : List (Stretch ℕ)) → Spans max_body c.boundary lo ms → All (Lies c.boundary) ms
    go lo [] p = tt
    go lo (m ∷ ms) p =
        (record { some-length = omega (arith, p.1, p.3); before = omega (arith, p.1); small = omega (arith, w.near, ready.image) }, go m.right ms p.4)

-- A round ended: the new stretch begins at `left` and has the node `up`, and f holds the stretches that stay.
pub record Ended (t : Tables) (s : Scan) (next left up : ℕ) (f : Filled) : Type 0 where
  pub goes : Goes t s
  pub moves : (s.boundary ≤ next) × (next < 2 ^ 32)
  pub edge : left ≡ cut (s.boundary - s.depth) (left_over (s.boundary - s.depth) (used s.stretches))
  pub lift : up ≡ lifted t (left - (s.boundary - s.depth)) s.node
  pub held : f ≡ filled_with (staying (s.boundary - s.depth) next (used s.stretches))

-- what rules 4 and 6 leave at boundary `next`
abbrev pub remembered : Tables → Scan → ℕ → List Slot
remembered t s next = laid max_stretches (select (kept next) (ended (tree_of t s) (config_of s)))

module _ {t : Tables} {s : Scan} {next left up : ℕ} {f : Filled} (w : Ended t s next left up f) where
  abbrev begin : ℕ
  begin = s.boundary - s.depth

  abbrev ms : List (Stretch ℕ)
  ms = used s.stretches

  abbrev stretch : ℕ → ℕ → Stretch ℕ
  stretch l v = record { left = l; right = s.boundary; node = v }

  abbrev new : Stretch ℕ
  new = stretch left up

  pub new-before : Lies next new
  new-before = new-lies s.boundary next w.moves.0 w.moves.1 ms (within-lies w.goes.ready (config_of s) w.goes.within) begin left up (omega arith) w.edge

  abbrev laid-with : Bool → List Slot
  laid-with x = laid max_stretches (staying begin next ms ++ elim x [ true ↦ new ∷ [] | false ↦ [] ])

  remembers : remembered t s next ≡ laid-with (kept next new)
  remembers =
      let rest = left_over begin ms in
      let far : depth t s.node - (s.boundary - cut begin rest) ≡ left - begin =
      omega (arith, w.edge, w.goes.within.held.sized, w.goes.within.held.inside, cut-ge begin rest, new-before.some-length) in
      let node-is : lifted t (depth t s.node - (s.boundary - cut begin rest)) s.node ≡ up = ap (λ n. lifted t n s.node) far ∙ sym w.lift in
      ap (λ v. laid max_stretches (select (kept next) (rest ++ (stretch (cut begin rest) v ∷ [])))) node-is
      ∙ ap (λ l. laid max_stretches (select (kept next) (rest ++ (stretch l up ∷ [])))) (sym w.edge)
      ∙ ap (laid max_stretches) (select-append (kept next) rest (new ∷ []))

  pub ends-full : max_stretches ≤ f.n → f.slots ≡ remembered t s next
  ends-full h =
      ap (λ f. f.slots) w.held
      ∙ sym (remembers ∙ laid-full max_stretches (staying begin next ms) _ (omega (arith, ap (λ f. f.n) w.held)))

  pub ends-dropped : kept next new ≡ false → f.slots ≡ remembered t s next
  ends-dropped k =
      ap (λ f. f.slots) w.held
      ∙ sym (remembers ∙ ap laid-with k ∙ ap (laid max_stretches) (append-nil (staying begin next ms)))

  pub ends-put : kept next new ≡ true → (g : Filled) → g ≡ put_in f (slot_of new) → g.slots ≡ remembered t s next
  ends-put k g p =
      ap (λ f. f.slots) (p ∙ ap (λ f. put_in f (slot_of new)) w.held ∙ put-filled (staying begin next ms) new) ∙ sym (remembers ∙ ap laid-with k)
