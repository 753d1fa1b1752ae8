use Prim.Native.Nat.{max}
use mathlib.Core.Path.{ap, sym, ◌∙◌}
use mathlib.Core.Option.{some, none}
use Rattle.rules.specs.Options.{option_of}
use Rattle.trie.specs.Lent.{tables_of}
use Rattle.scan.proofs.Laws.Shift.{byte-is, shift_is}
use Rattle.scan.proofs.shift.shift.Goals as goal
use Rattle.scan.proofs.shift.shift.Goals.{in-Some, in-None}

-- `shift` meets its contract: the entry, and the byte shift where there is a closing byte.
pub returns : goal.returns
returns c =
    let t = tables_of c.args.tables.now in
    let s = c.args.scan.now in
    elim c.match-closing.branch [
      | in-Some w ↦
          let x = w.in-Some.x in
          shift_is t s.count s.shortest s.node (option_of c.args.closing) (some x) (ap option_of w.in-Some.is) c.from-entry.ensures
          (w.by-is ∙ w.all_least-by.ensures ∙ ap (max c.from-entry.result) (byte-is t s.count s.shortest s.node s.depth x (sym c.requires.within.held.sized)))
          c.min.ensures
      | in-None w ↦
          shift_is t s.count s.shortest s.node (option_of c.args.closing) none (ap option_of w.in-None.is) c.from-entry.ensures
          (w.by-is ∙ w.max-by.ensures) c.min.ensures
    ]
