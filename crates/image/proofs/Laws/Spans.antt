-- The stretches in use: one after the other, and one more.
use Prim.Native.Nat.{ℕ, ◌+◌, ◌≤◌, ◌<◌, max}
use native.Mathlib.Numerals.{add-one}
use native.Mathlib.Omega.{arith}
use mathlib.Core.Path.{◌≡◌, ap, ◌∙◌}
use mathlib.Core.List.{List, [], ◌∷◌, ◌++◌, map, map-append}
use borrow.Author.Tests.{lt-ltb, le-ltb}
use lib.ListN.{length, get_or, take, drop, set, length-take, length-map, drop_of_length-le}
use lib.Seq.{drop-cons, take-suc-set}
use Rattle.rules.specs.Stretches.{farther_of}
use Rattle.image.specs.declared.spans.Span.{Span}
use Rattle.image.specs.declared.spans.Spans.{Spans}
use Rattle.image.specs.Spans.{Places, placed, in_use}

-- the stretches from i on
abbrev pub rest_from : List Span → ℕ → List Places
rest_from ss i = map placed (drop i ss)

pub more : (ss : List Span) (i : ℕ) (d : Span) → i < length ss → rest_from ss i ≡ placed (get_or ss i d) ∷ rest_from ss (i + 1)
more ss i d h = ap (map placed) (drop-cons ss i d h) ∙ rw add-one

pub past : (ss : List Span) (i : ℕ) → length ss ≤ i → rest_from ss i ≡ []
past ss i h = ap (map placed) (drop_of_length-le ss {i = i} h)

-- So many are in use; one is stored behind them.
pub counts : (f : Spans) → f.used ≤ length f.slots → length (in_use f) ≡ f.used
counts f few = length-map (take f.used f.slots) placed ∙ omega (arith, length-take f.used f.slots)

pub one_more_lem : (slots : List Span) (n : ℕ) (s : Span) → n < length slots
    → map placed (take (n + 1) (set slots n s)) ≡ map placed (take n slots) ++ (placed s ∷ [])
one_more_lem slots n s h =
    ap (λ k. map placed (take k (set slots n s))) (add-one n)
    ∙ ap (map placed) (take-suc-set slots n s h)
    ∙ map-append placed (take n slots) (s ∷ [])

-- One that begins left of `from` may reach farther, another does not.
pub farther-left : (from far : ℕ) (s : Places) {next : ℕ} → s.left < from → next ≡ max far s.right → next ≡ farther_of from far s
farther-left from far s h e = rw (lt-ltb s.left from h, farther_of) e

pub farther-right : (from far : ℕ) (s : Places) {next : ℕ} → from ≤ s.left → next ≡ far → next ≡ farther_of from far s
farther-right from far s h e = rw (le-ltb s.left from h, farther_of) e
