-- The state's numbers, in the place of the first.
use borrow.Author.Rules.{rules}
use Rattle.std.proofs.Common.{◌≡◌, ◌∙◌, sym, length, length-take-le}
use Rattle.probe.proofs.states.lay.Goals as goal

pub copy_from_slice-requires : goal.copy_from_slice-requires
copy_from_slice-requires c = let h : length c.numbers_of.result ≡ 26 = search rules in length-take-le _ _ c.requires ∙ sym h
