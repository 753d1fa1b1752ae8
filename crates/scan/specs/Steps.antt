-- What the code of a step asks of a state, and what comes next, as the rules have it.
use Rattle.std.specs.Prelude.{◌≡◌}
use Rattle.std.proofs.Math.Option.{none}
use Rattle.rules.specs.Rules.{finished, wants, goes, place, recalled, end_round, after, take_byte, next}
use Rattle.tables.specs.Tables.{Tables}
use Rattle.scan.specs.declared.Scan.{Scan}
use Rattle.scan.specs.declared.steps.Move.{Move}
use Rattle.scan.specs.declared.steps.Move.TheVariants.{Finished, Wants, End, Take}
use Rattle.scan.specs.State.{config_of, tree_of}
use Rattle.scan.specs.Within.{Goes}

-- A state to step from: no hit is left.
pub record Stepping (t : Tables) (s : Scan) : Type 0 where
  pub goes : Goes t s
  pub none : s.hit ≡ 0

-- What comes next from a state, as the rules have it.
abbrev pub Chosen : Tables → Scan → Move → Type 0
Chosen t s Finished = next (tree_of t s) s.image (config_of s) ≡ finished
Chosen t s (Wants at) = next (tree_of t s) s.image (config_of s) ≡ wants at
Chosen t s End = next (tree_of t s) s.image (config_of s) ≡ goes (end_round (tree_of t s) (config_of s) none)
Chosen t s (Take x) =
    let c = config_of s in
    next (tree_of t s) s.image c ≡ goes (after (recalled (place c)) (take_byte (tree_of t s) c x))
