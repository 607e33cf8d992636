-- `carry_row` meets its contract: a law for each end.
use borrow.Author.Rules.{rules}
use Rattle.base.specs.Answers.{passed}
use Rattle.rewrite.specs.CarryLaws.{turn-held, turn-none, turn-fits, turn-some, turn-full}
use Rattle.rewrite.proofs.carry_row.Goals as goal

pub returns-then-numbers-k-eq0-clause-turns : goal.returns-then-numbers-k-eq0-clause-turns
returns-then-numbers-k-eq0-clause-turns c w = turn-none w.both _ _ _ w.state w.more c.if-numbers-k-eq0.true

pub offset_bounds-rows-k : goal.offset_bounds-rows-k
offset_bounds-rows-k c =
    let w = c.requires in
    let held = turn-held w.both _ _ _ w.state w.more in
    search rules

pub bounds-rows-k : goal.bounds-rows-k
bounds-rows-k c =
    let w = c.requires in
    rw c.rows.ensures (turn-held w.both _ _ _ w.state w.more)

pub carry_node-requires : goal.carry_node-requires
carry_node-requires c =
    let w = c.requires in
    turn-fits w.both _ _ _ w.state w.more c.node_of-node.result (rw c.rows.ensures at c.node_of-node.ensures)

pub returns-in_err-row-clause-turns : goal.returns-in_err-row-clause-turns
returns-in_err-row-clause-turns c =
    rw (passed c.from_residual.ensures.1)
    (λ w. turn-full w.both _ _ _ w.state w.more c.node_of-node.result (rw c.rows.ensures at c.node_of-node.ensures)
    c.if-numbers-k-eq0.false _ c.carry_node.new.table c.in_err-row.ensures.puts)

pub returns-clause-turns : goal.returns-clause-turns
returns-clause-turns c w =
    turn-some w.both _ _ _ w.state w.more c.node_of-node.result (rw c.rows.ensures at c.node_of-node.ensures)
    c.if-numbers-k-eq0.false _ _ c.in_ok-row.ensures.puts
