-- Lists with others written over their fronts.
use Rattle.std.specs.Prelude.{ℕ, ◌+◌, ◌-◌, ◌≤◌, ◌≡◌, List, ◌++◌, length, drop}
use Rattle.std.proofs.Common.{arith, ap, ◌∙◌, length-append, length-drop, drop-drop}
use Rattle.std.proofs.Math.Seq.{drop-append-add}
use Rattle.rules.specs.Lists.{over}

pub over-length : (m l : List ℕ) → length m ≤ length l → length (over m l) ≡ length l
over-length m l h = simp (length-append, length-drop) (omega arith)

-- behind what is written the list is as it was
pub over-behind : (m l : List ℕ) (n : ℕ) → drop (length m + n) (over m l) ≡ drop (length m + n) l
over-behind m l n = drop-append-add m (drop (length m) l) n ∙ drop-drop n (length m) l

pub over-over : (m m' l : List ℕ) → length m ≤ length m' → over m' (over m l) ≡ over m' l
over-over m m' l h =
    let k = length m' - length m in
    let e : length m' ≡ length m + k = omega arith in
    ap (λ d. m' ++ d) (rw e (over-behind m l k))
