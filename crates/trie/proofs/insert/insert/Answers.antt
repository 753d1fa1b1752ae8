use native.Mathlib.Omega.{arith}
use mathlib.Core.List.{reverse}
use mathlib.Core.Path.{◌≡◌, ap, sym, subst}
use Prim.Native.Nat.{◌+◌, ◌-◌}
use lib.ListN.{length, set}
use borrow.Author.Rules.{rules}
use Rattle.trie.specs.Lent.{written_of, word_of}
use Rattle.trie.specs.InPlace.{Ready, placed, numbered}
use Rattle.trie.proofs.Laws.WordInPlace.{either-length, inserting-on, inserting-done, word-ready}
use Rattle.trie.proofs.insert.insert.Goals as goal

pub loop-i-preserved : goal.loop-i-preserved
loop-i-preserved c =
    let r = c.step-place.result in
    let n = length c.args.word.body.now in
    let i = c.loop-i.i in
    let more : n - i - 1 ≡ n - (i + 1) = omega arith in
    let last : n - 1 - i ≡ n - i - 1 = omega arith in (
      rw more at (inserting-on _ _ _ _ _ _ _ c.loop-i.invariant.0 (omega arith) _
          (record { tables = written_of c.step-place.new.tables; count = r.count; node = r.node })
          (rw last at c.from_end.ensures) c.step-place.ensures.placed),
      search rules,
    )

-- what the word and its number make of the tables
made : (c : goal.After-loop-i) → let a = c.args in let o = c.loop-i in
    let t = written_of o.tables in
    record {
      tables = record t { token = set t.token o.place.node a.number };
      count = o.place.count;
    }
    ≡ numbered (placed (written_of a.tables.now) a.count 0 (reverse (word_of a.word))) a.number
made c = ap (λ p. numbered p c.args.number) (inserting-done _ _ _ _ _ _ _ c.loop-i.invariant.0 (omega arith))

pub returns-clause-tables : goal.returns-clause-tables
returns-clause-tables c = made c

pub returns-clause-ready : goal.returns-clause-ready
returns-clause-ready c j r =
    let a = c.args in
    subst (λ q. Ready q.tables q.count 0 j) (sym (made c))
    (word-ready _ _ a.number _ (word_of a.word) r j (omega (arith, either-length a.word.reversed a.word.body.now)))
