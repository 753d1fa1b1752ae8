use Rattle.std.proofs.Common.{arith, ap, sym, ◌∙◌}
use Rattle.book.specs.Answers.{verdict_of, totalled}
use Rattle.book.proofs.Laws.Accepted.{Summed, summed, summed-small}
use Rattle.tables.specs.Tables.{shortest_table}
use Rattle.trie.specs.Lent.{written_of}
use Rattle.trie.proofs.Laws.Answer.{shiftable, answer-short, answer-made}
use Rattle.trie.proofs.build.Goals as goal
use Rattle.trie.proofs.build.Goals.{In_ok-totals}

-- The book is read.
sums : (c : In_ok-totals) → Summed c.args.book.now (totalled c.in_ok-totals.totals)
sums c = summed c.args.book.now _ (ap verdict_of (sym c.in_ok-totals.was) ∙ c.read.ensures)

pub overflow_add-room : goal.overflow_add-room
overflow_add-room c = omega (arith, summed-small _ _ (sums (goal.at.overflow_add-room c).In_ok-totals))

pub returns-then-shortest-room-clause-answer : goal.returns-then-shortest-room-clause-answer
returns-then-shortest-room-clause-answer c =
    answer-short _ (written_of c.args.tables.now) _ (sums (goal.at.returns-then-shortest-room-clause-answer c).In_ok-totals)
    _ (c.shortest.ensures ∙ ap shortest_table c.shared.ensures) c.if-shortest-room.true

pub fill_shifts-requires : goal.fill_shifts-requires
fill_shifts-requires c =
    shiftable _ (written_of c.args.tables.now) _ (sums (goal.at.fill_shifts-requires c).In_ok-totals)
    _ (c.shortest.ensures ∙ ap shortest_table c.shared.ensures) c.if-shortest-room.false
    (record { tables = written_of c.fill-nodes.new.tables; count = c.fill-nodes.result }) c.fill-nodes.ensures.tables

pub returns-clause-answer : goal.returns-clause-answer
returns-clause-answer c =
    let k = c.fill_shifts.ensures.kept in
    rw (k.0, k.1, k.2, k.3) (answer-made _ (written_of c.args.tables.now) _ (sums (goal.at.returns-clause-answer c).In_ok-totals)
    _ (c.shortest.ensures ∙ ap shortest_table c.shared.ensures) c.if-shortest-room.false
    (record { tables = written_of c.fill-nodes.new.tables; count = c.fill-nodes.result }) c.fill-nodes.ensures.tables
    c.fill_shifts.new.shift c.fill_shifts.ensures.filled)
