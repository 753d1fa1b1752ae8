use Rattle.std.proofs.Common.{◌≡◌, arith, rules, sym, ◌∙◌}
use Rattle.tables.specs.Shape.{up, sib}
use Rattle.trie.specs.Lent.{tables_of}
use Rattle.trie.proofs.Laws.NodeByNode.{chain_more}
use Rattle.trie.proofs.breaks.chain_end.Goals as goal

pub loop-at-preserved : goal.loop-at-preserved
loop-at-preserved c =
    let v = c.loop-at.at in
    let t = tables_of c.args.tables.now in
    let s : c.from-else-from-gt-TOKENS.result ≡ sib t v = c.from-else-from-gt-TOKENS.ensures in
    let u : c.from-else-from-gt-TOKENS-2.result ≡ up t v = c.from-else-from-gt-TOKENS-2.ensures in (
      chain_more t c.args.count c.args.node v c.loop-at.invariant.0 (record {
        child = omega (arith, c.from-else-not-shift_sound.ensures, c.if-from-after.false);
        back = omega (arith, c.from.ensures, c.if-from-at.false);
        few = omega (arith, c.from-else-from-at.ensures, c.if-from-gt-TOKENS.false);
        aside = rw (← s, ← u) (sym c.link_sound.ensures ∙ c.if-not-link_sound.false);
        near = sym c.shift_sound.ensures ∙ c.if-not-shift_sound.false;
      }),
      search rules,
    )
