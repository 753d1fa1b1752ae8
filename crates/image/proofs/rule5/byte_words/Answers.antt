-- `rule5::byte_words` meets its contract: the reverse is searched below what the bytes in book order give.
use native.Mathlib.Omega.{arith}
use mathlib.Core.Path.{refl, sym, ◌∙◌}
use lib.Seq.{length-take-le}
use Rattle.rules.proofs.Laws.Words.{turned-bytes}
use Rattle.agree.specs.Tests.{byte_test}
use Rattle.image.proofs.Laws.Rule5.{two-words, reverse-size, reverse-front}
use Rattle.image.proofs.rule5.byte_words.Goals as goal

pub reverse_into-requires : goal.reverse_into-requires
reverse_into-requires c =
    let second = sym c.has_reverse.ensures ∙ c.if-not-has_reverse.false in
    ((turned-bytes c.args.body.now second).1, refl)

pub slice_bounds-word-end : goal.slice_bounds-word-end
slice_bounds-word-end c =
    let second = sym c.has_reverse.ensures ∙ c.if-not-has_reverse.false in
    let body = c.args.body.now in
    omega (arith, (turned-bytes body second).1, reverse-size body _ second c.reverse_into.ensures)

pub slice_bounds-byte_least-end : goal.slice_bounds-byte_least-end
slice_bounds-byte_least-end c =
    let second = sym c.has_reverse.ensures ∙ c.if-not-has_reverse.false in
    let body = c.args.body.now in
    sym (length-take-le _ _
    (omega (arith, (turned-bytes body second).1, reverse-size body _ second c.reverse_into.ensures)))

pub returns : goal.returns
returns c =
    let second = sym c.has_reverse.ensures ∙ c.if-not-has_reverse.false in
    let a = c.args in
    two-words (byte_test a.depth a.x) a.body.now c.requires c.byte_least-own.ensures second _
    (reverse-front a.body.now _ second c.reverse_into.ensures) c.byte_least.result c.byte_least.ensures
