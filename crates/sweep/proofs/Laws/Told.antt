-- What is written, and what waits.
use Rattle.std.specs.Prelude.{◌≡◌, ◌++◌, ◌+◌, ◌-◌, ◌≤◌, ℕ, zero, suc, List, [], Option, Some, None, get_or, flat_map}
use Rattle.std.specs.List.{range_with_len}
use Rattle.std.proofs.Common.{append-nil, append_assoc, refl, ap, ◌∙◌, arith}
use Rattle.std.proofs.KnownBytes.{Appends-trans}
use Rattle.std.specs.Io.KnownBytes.{Appends, Keeps, append_known}
use Rattle.sweep.specs.declared.hits.Hits.{Hits}
use Rattle.sweep.specs.declared.lines.Line.{Line}
use Rattle.sweep.specs.declared.lines.Line.TheVariants.{Hit}
use Rattle.sweep.specs.Lines.{line_bytes, hit_lines}

-- What waits is written, and nothing waits.
pub flushed : (old new : Option (List ℕ)) (w e : List ℕ) → Appends old new w → e ≡ [] → Keeps (append_known old w) (append_known new e)
flushed None new w e h p = tt
flushed (Some xs) None w e h p = h
flushed (Some xs) (Some ys) w e h p = cc (h, p, append-nil ys)

-- A piece more stands behind the others.
more : (f : ℕ → List ℕ) (a n i : ℕ) → a + n ≡ i → flat_map f (range_with_len a (suc n)) ≡ flat_map f (range_with_len a n) ++ f i
more f a zero i e = let z : a ≡ i = omega arith in append-nil (f a) ∙ ap f z
more f a (suc n) i e = rw (more f (a + 1) n i (omega arith), append_assoc) refl

-- The line of the next hit stands behind those of the hits before it.
pub next_told : (hits : Hits) (from before i : ℕ) (l : Line) (a b c : Option (List ℕ)) → before ≤ i
    → l ≡ Hit (from + get_or hits.ends i 0) (get_or hits.tokens i 0)
    → Appends a b (hit_lines hits from (range_with_len before (i - before))) → Appends b c (line_bytes l)
    → Appends a c (hit_lines hits from (range_with_len before (i + 1 - before)))
next_told hits from before i l a b c h e p q =
    let n : i + 1 - before ≡ suc (i - before) = omega arith in
    rw (n, more _ before (i - before) i (omega arith)) (rw e at (Appends-trans a b c _ (line_bytes l) p q))
