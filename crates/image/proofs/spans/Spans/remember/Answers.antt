use Prim.Native.Nat.{◌+◌, ◌≤◌, ◌<◌}
use mathlib.Core.Bool.{true, false}
use native.Mathlib.Omega.{arith}
use mathlib.Core.Path.{◌≡◌, refl, sym, ◌∙◌}
use lib.ListN.{length, set}
use Rattle.rules.proofs.Laws.Remember.{new-lies}
use Rattle.image.specs.declared.spans.Span.{Span}
use Rattle.image.specs.declared.spans.Spans.{Spans}
use Rattle.image.specs.Spans.{in_use, renewed}
use Rattle.image.proofs.Laws.SpansHold.{ends-dropped, has_room_lem, ends-put}
use Rattle.image.proofs.spans.Spans.remember.Goals.{After-keeps, then-keeps, else-keeps}
use Rattle.image.proofs.spans.Spans.remember.Goals as goal

pub keeps-requires : goal.keeps-requires
keeps-requires c =
    let a = c.args in
    let n = c.requires.numbers in
    new-lies a.b a.next n.1 n.2 (in_use a.self.now) c.requires.fits.each a.from _ tt n.0 c.edge.ensures

module _ (c : After-keeps) where
  -- the stretches that stay, and the new one
  abbrev held : Spans
  held = record { slots = c.hold-used.new.self.slots; used = c.hold-used.result }

  abbrev new : Span
  new = record { left = c.edge.result; right = c.args.b }

  module _ (size : length held.slots ≡ 5) (k : c.keeps.result ≡ true) where
    room : held.used < 5
    room =
        let a = c.args in
        let e = c.hold-used.ensures in
        has_room_lem (in_use a.self.now) a.from a.b a.next new c.edge.ensures refl held e.0 e.1 size c.requires.few (sym c.keeps.ensures ∙ k)

    put : (in_use (record { slots = set held.slots held.used new; used = held.used + 1 }) ≡ renewed c.args.from c.args.b c.args.next (in_use c.args.self.now))
        × (held.used + 1 ≤ 5)
    put =
        let a = c.args in
        let e = c.hold-used.ensures in (
          ends-put (in_use a.self.now) a.from a.b a.next new c.edge.ensures refl held e.0 e.1 size c.requires.few (sym c.keeps.ensures ∙ k),
          omega (arith, room),
        )

  dropped : c.keeps.result ≡ false → (in_use held ≡ renewed c.args.from c.args.b c.args.next (in_use c.args.self.now)) × (held.used ≤ 5)
  dropped k =
      let a = c.args in
      let e = c.hold-used.ensures in
      (ends-dropped (in_use a.self.now) a.from a.b a.next new c.edge.ensures refl held e.0 (sym c.keeps.ensures ∙ k), e.1)

pub bounds-self-used : goal.bounds-self-used
bounds-self-used c = omega (arith, room (goal.at.bounds-self-used c).After-keeps (omega arith) c.if-keeps.true)

pub returns : goal.returns
returns c =
    let at = (goal.at.returns c).After-keeps in
    elim c.if-keeps.branch [
      | then-keeps w ↦ rw (w.self-is, w.used-is) (put at (omega arith) w.if-keeps.true)
      | else-keeps w ↦ rw (w.self-is, w.used-is) (dropped at w.if-keeps.false)
    ]
