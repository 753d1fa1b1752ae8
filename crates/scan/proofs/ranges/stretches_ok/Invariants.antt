-- `stretches_ok` meets its contract: the slots that were passed are in range.
use mathlib.Core.Bool.{false}
use Rattle.trie.specs.Lent.{tables_of}
use Rattle.scan.proofs.Laws.RangesStretches.{Walked, stands}
use Rattle.scan.proofs.ranges.stretches_ok.Given as goal

abbrev pub invariant-loop-m : goal.invariant-loop-m
invariant-loop-m l =
    let t = tables_of l.tables in
    Walked (stands t l.scan l.over l.from) (stands t l.scan false 0) l.scan.stretches l.m-index
