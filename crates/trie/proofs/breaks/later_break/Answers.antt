use Prim.Native.Nat.{◌+◌, ◌-◌, ◌≤◌, ◌<◌}
use native.Mathlib.Omega.{arith}
use mathlib.Core.Path.{ap, sym, ◌∙◌}
use Rattle.tables.specs.Broken.{tested}
use Rattle.trie.specs.Lent.{tables_of}
use Rattle.trie.proofs.Laws.NodeByNode.{Standing, high-breaks, deep-breaks, stands, stands-end, own-breaks, again}
use Rattle.trie.proofs.breaks.later_break.Goals as goal
use Rattle.trie.proofs.breaks.later_break.Goals.{After-chain_end-end}

-- The chain's nodes passed, and its end stands as deep as counted, where that is not too deep.
ends : (c : After-chain_end-end) → c.depth_at-depth.result ≤ 1024 → c.chain_end-end.result < c.args.count
    → c.depth_at-depth.result + (c.chain_end-end.result - c.loop-node.node) ≤ 1024
    → Standing (tables_of c.args.tables.now) c.args.count c.chain_end-end.result (c.depth_at-depth.result + (c.chain_end-end.result - c.loop-node.node))
ends c near inside deep =
    let stand = stands _ _ _ _ c.loop-node.invariant c.loop-node-test.true (omega (arith, c.from-above.ensures, c.if-node-above.false))
    c.depth_at-depth.result c.depth_at-depth.ensures near in
    stands-end _ _ _ c.chain_end-end.result _ stand c.chain_end-end.ensures.0 inside deep

pub returns-then-node-above : goal.returns-then-node-above
returns-then-node-above c =
    ap tested (sym (high-breaks _ _ _ _ c.loop-node.invariant c.loop-node-test.true (omega (arith, c.from-above.ensures, c.if-node-above.true))))

pub returns-then-depth-gt-BODY : goal.returns-then-depth-gt-BODY
returns-then-depth-gt-BODY c =
    ap tested (sym (deep-breaks _ _ _ _ c.loop-node.invariant c.loop-node-test.true (omega (arith, c.from-above.ensures, c.if-node-above.false))
    c.depth_at-depth.result c.depth_at-depth.ensures c.if-depth-gt-BODY.true))

pub returns-then-not-own_sound : goal.returns-then-not-own_sound
returns-then-not-own_sound c =
    let end = ends (goal.at.returns-then-not-own_sound c).After-chain_end-end c.if-depth-gt-BODY.false
    (omega (arith, c.min-last.ensures, c.chain_end-end.ensures.1)) (omega (arith, c.min-last.ensures, c.chain_end-end.ensures.1, c.if-depth-gt-BODY.false)) in
    ap tested (sym (own-breaks _ _ _ _ end (sym c.own_sound.ensures ∙ c.if-not-own_sound.true)))

pub loop-node-preserved : goal.loop-node-preserved
loop-node-preserved c =
    let end = ends (goal.at.loop-node-preserved c).After-chain_end-end c.if-depth-gt-BODY.false
    (omega (arith, c.min-last.ensures, c.chain_end-end.ensures.1)) (omega (arith, c.min-last.ensures, c.chain_end-end.ensures.1, c.if-depth-gt-BODY.false)) in
    again _ _ _ _ end (sym c.own_sound.ensures ∙ c.if-not-own_sound.false)
