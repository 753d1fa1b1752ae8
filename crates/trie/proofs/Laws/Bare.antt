-- What the test of tables and a filling say of the lists alone that they read.
use Rattle.std.specs.Prelude.{ℕ, zero, suc, ◌+◌, ◌<◌, ◌≡◌, refl, List, [], get_or, length, drop, set, replicate}
use Rattle.std.proofs.Common.{arith, add-one, eq-eqb, ne_eqb, drop-cons}
use Rattle.std.proofs.lemmas.List.{length-replicate, replicate-append-replicate, set_at}
use Rattle.std.proofs.Math.Seq.{append_snoc}
use Rattle.rules.specs.Lists.{over}
use Rattle.rules.proofs.Laws.Tests.{split}
use Rattle.tables.specs.Walks.{climb, depth}
use Rattle.tables.specs.Broken.{first_break}
use Rattle.tables.specs.Shape.{Falling, up}
use Rattle.trie.specs.Answers.{tables, tree_only}

-- parents alone say how deep a node lies
module _ (parent label token first next shift : List ℕ) where
  climb-bare : (fuel v : ℕ) → length (climb (tables parent label token first next shift) fuel v) ≡ length (climb (tree_only parent [] [] [] []) fuel v)
  climb-bare zero v = refl
  climb-bare (suc fuel) v = let t = tree_only parent [] [] [] [] in split v 0
      (λ e. cc (eq-eqb v 0 e))
      (λ e. cc (ne_eqb v 0 e, climb-bare fuel (up t v)))

  pub depth-bare : (v : ℕ) → depth (tables parent label token first next shift) v ≡ depth (tree_only parent [] [] [] []) v
  depth-bare v = climb-bare v v

  pub falling-bare : (n : ℕ) → Falling (tables parent label token first next shift) n → Falling (tree_only parent [] [] [] []) n
  falling-bare n s = record { size = s.size; root-up = s.root-up; ups = s.ups }

-- Past the root, labels say nothing.
module _ (parent label token first next shift : List ℕ) where
  pub break-bare : (count fuel v : ℕ) → 0 < v
      → first_break (tables parent label token first next shift) count fuel v ≡ first_break (tables parent [] token first next shift) count fuel v
  break-bare count zero v h = refl
  break-bare count (suc fuel) v h =
      cc (ne_eqb v 0 (λ e. omega arith), depth-bare parent label token first next shift v, depth-bare parent [] token first next shift v, break-bare count fuel (v + 1) (omega arith))

-- One entry more at the front.
pub over-more : (v a : ℕ) (l : List ℕ) → v < length l → set (over (replicate v a) l) v a ≡ over (replicate (v + 1) a) l
over-more v a l h =
    rw (length-replicate, length-replicate, drop-cons l v 0 h, set_at (replicate v a) (get_or l v 0) (drop (suc v) l) a v (length-replicate v a), ← replicate-append-replicate v 1 a, add-one, append_snoc)
