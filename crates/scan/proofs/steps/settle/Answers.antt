use Rattle.std.proofs.Common.{Ok}
use Rattle.trie.specs.Lent.{tables_of}
use Rattle.scan.proofs.Laws.StepsSettle.{Onwards, runs-climbs, runs-told, runs-over, runs-wants, runs-ends, runs-takes}
use Rattle.scan.proofs.steps.settle.Goals as goal

-- The run goes on after a round has ended,
ends : (c : goal.After-end_round) → let a = c.args in
    Onwards (tables_of a.tables.now) a.scan c.loop-at.at c.end_round.new.scan
ends c =
    runs-ends c.loop-at.invariant c.if-at-ne0.false (rw c.in-End.is at c.choose.ensures) _ c.end_round.ensures

-- and after a byte was taken.
takes : (c : goal.After-take_byte) → let a = c.args in
    Onwards (tables_of a.tables.now) a.scan c.loop-at.at c.take_byte.new.scan
takes c =
    runs-takes c.loop-at.invariant c.if-at-ne0.false c.in-Take.x
    (rw c.in-Take.is at c.choose.ensures) _ (rw c.one_more.ensures at c.take_byte.ensures)

pub tell-answer-requires : goal.tell-answer-requires
tell-answer-requires c = runs-climbs c.loop-at.invariant c.if-at-ne0.true

pub returns-then-at-ne0 : goal.returns-then-at-ne0
returns-then-at-ne0 c = runs-told c.loop-at.invariant c.if-at-ne0.true (record { state = c.tell-answer.new.scan; answer = Ok c.tell-answer.result }) c.tell-answer.ensures

pub returns-in-Finished : goal.returns-in-Finished
returns-in-Finished c =
    runs-over c.loop-at.invariant c.if-at-ne0.false (rw c.in-Finished.is at c.choose.ensures)

pub returns-in-Wants : goal.returns-in-Wants
returns-in-Wants c =
    runs-wants c.loop-at.invariant c.if-at-ne0.false c.in-Wants.place
    (rw c.in-Wants.is at c.choose.ensures)

pub loop-at-preserved-in-End : goal.loop-at-preserved-in-End
loop-at-preserved-in-End c = (ends c).0

pub loop-at-preserved : goal.loop-at-preserved
loop-at-preserved c = (takes c).0
