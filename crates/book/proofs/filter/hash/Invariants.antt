-- `filter::hash` meets its contract. The loop's invariant: the pairs that are left, from here on, give the hash.
use Prim.Native.Nat.{◌-◌, ◌≤◌, ◌<◌}
use mathlib.Core.Path.{◌≡◌}
use lib.ListN.{length}
use Rattle.book.specs.Filter.{marks, hash_from, hash}
use Rattle.book.proofs.filter.hash.Given as goal

abbrev pub invariant-loop-i : goal.invariant-loop-i
invariant-loop-i l =
    (l.i ≤ l.pairs) × (l.pairs ≤ length l.body) × (l.sum < marks) × (hash_from l.body (l.pairs - l.i) l.i l.sum ≡ hash l.body)
