-- `sweep::own::sweep` meets its contract: its tables are long enough.
use Prim.Native.Nat.{ℕ, ◌≤◌}
use native.Mathlib.Omega.{arith}
use mathlib.Core.Path.{◌≡◌}
use lib.ListN.{length, replicate, length-replicate}
use Rattle.tables.specs.Tables.{Tables, shortest_table}
use Rattle.trie.specs.Answers.{tables}
use Rattle.sweep.proofs.Laws.Own.{finds}
use Rattle.sweep.proofs.own.sweep.Goals as goal

abbrev zeros : Tables
zeros = tables (replicate 16385 0) (replicate 16385 0) (replicate 16385 0) (replicate 16385 0) (replicate 16385 0) (replicate 16385 0)

zeros-long : 16385 ≤ shortest_table zeros
zeros-long = let l : length {A = ℕ} (replicate 16385 0) ≡ 16385 = length-replicate {A = ℕ} 16385 0 in omega arith

pub returns : goal.returns
returns c = let a = c.args in
    let k = c.sweep_image in
    finds a.book.now a.image.now zeros a.hits.now.ends a.hits.now.tokens c.requires.0 c.requires.1 zeros-long k.result _ _ _ k.ensures.answer
