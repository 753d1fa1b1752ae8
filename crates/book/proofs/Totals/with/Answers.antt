-- `Totals::with` meets its contract: how each amount grows by a token at the end.
use Prim.Native.Nat.{ℕ, ◌≤◌, min, max}
use native.Mathlib.Omega.{arith}
use mathlib.Core.Path.{◌≡◌, refl}
use mathlib.Core.List.{List, [], ◌∷◌, ◌++◌}
use lib.ListN.{length, length-append}
use Rattle.rules.specs.Tokens.{shortest_of, longest_of}
use Rattle.rules.proofs.Laws.Words.{bytes-snoc}
use Rattle.book.proofs.Totals.with.Goals as goal

shortest-snoc : (ts : List (List ℕ)) (t : List ℕ) → 1 ≤ length ts → shortest_of (ts ++ (t ∷ [])) ≡ min (shortest_of ts) (length t)
shortest-snoc [] t h = absurd (omega arith)
shortest-snoc (u ∷ []) t h = refl
shortest-snoc (u ∷ v ∷ ts) t h = omega (arith, shortest-snoc (v ∷ ts) t (omega arith))

longest-snoc : (ts : List (List ℕ)) (t : List ℕ) → longest_of (ts ++ (t ∷ [])) ≡ max (longest_of ts) (length t)
longest-snoc [] t = omega arith
longest-snoc (u ∷ ts) t = omega (arith, longest-snoc ts t)

pub returns : goal.returns
returns c = λ ts t a e f.
    let some = c.if-self-eq0.false in
    omega (arith, length-append ts (t ∷ []), bytes-snoc ts t, shortest-snoc ts t (omega arith), longest-snoc ts t)
