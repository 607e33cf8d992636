use Rattle.rows.specs.Entries.{node_row}
use Rattle.rows.specs.Adding.{ready_slice, add-have, add-make, make-addable}
use Rattle.rows.proofs.adding.add.Goals as goal

pub plan_node-requires : goal.plan_node-requires
plan_node-requires c = rw c.rows.ensures (ready_slice _ _ (node_row c.args.node) c.requires.held c.requires.ready)

pub settle-requires : goal.settle-requires
settle-requires c = make-addable _ c.args.node _ (rw c.rows.ensures at c.plan_node.ensures) _ c.in-Make.is c.requires

pub returns-in-Have-clause-adds : goal.returns-in-Have-clause-adds
returns-in-Have-clause-adds c = add-have _ c.args.node _ (rw c.rows.ensures at c.plan_node.ensures) _ c.in-Have.is

pub returns-in-Make-clause-adds : goal.returns-in-Make-clause-adds
returns-in-Make-clause-adds c =
    add-make _ c.args.node _ (rw c.rows.ensures at c.plan_node.ensures) _ c.in-Make.is _ _ c.settle.ensures.settles
