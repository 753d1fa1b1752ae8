-- A state's ranges: what the test of the count says, and that the last test tells where the others are passed.
use Prim.Native.Nat.{ℕ, ◌≤◌}
use mathlib.Core.Path.{◌≡◌, refl, sym, ◌∙◌}
use mathlib.Core.Bool.{Bool, true, ◌&&◌}
use mathlib.Core.Option.{none}
use borrow.Author.Tests.{leb-true}
use lib.Dec.{leb}
use Rattle.rules.proofs.Laws.Tests.{and_l, and_r}
use Rattle.tables.specs.Tables.{Tables}
use Rattle.tables.specs.Broken.{broken}
use Rattle.tables.specs.Unbroken.{Unbroken}
use Rattle.tables.proofs.Laws.Unbroken.{unbroken}
use Rattle.scan.specs.declared.Scan.{Scan}
use Rattle.scan.specs.State.{max_nodes, count_ok, image_ok, shortest_ok, node_ok, boundary_ok, supplied_ok, spared_ok, stretches_ok, due_ok, left_ok, in_range}

-- what a range says that is passed
pub range-out : (low x high : ℕ) → (leb low x && leb x high) ≡ true → (low ≤ x) × (x ≤ high)
range-out low x high e = (leb-true low x (and_l (leb low x) (leb x high) e), leb-true x high (and_r (leb low x) (leb x high) e))

-- Tables that pass refusal 9 are a tree, by the test of the count that was made.
pub passing-in : {t : Tables} {count : ℕ} → broken t count ≡ none → {b : Bool} → b ≡ (leb 1 count && leb count max_nodes) → b ≡ true → Unbroken t count
passing-in {t} {count} p e h = unbroken t count (range-out 1 count max_nodes (sym e ∙ h)).0 p

-- Where all tests but the last are passed, the last one tells.
pub range-last : (t : Tables) (s : Scan) {left : Bool} → count_ok s ≡ true → image_ok s ≡ true → shortest_ok s ≡ true
    → node_ok t s ≡ true → boundary_ok s ≡ true → supplied_ok s ≡ true → spared_ok s ≡ true
    → stretches_ok t s ≡ true → due_ok t s ≡ true → left ≡ left_ok t s → left ≡ in_range t s
range-last t s a b c d e f g h i l = l ∙ sym (rw (a, b, c, d, e, f, g, h, i) refl)
