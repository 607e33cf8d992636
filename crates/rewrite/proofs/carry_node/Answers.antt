-- `carry_node` meets its contract: a law for each kind of row.
use Rattle.rewrite.specs.CarryLaws.{puts_not, puts_two}
use Rattle.rewrite.proofs.carry_node.Goals as goal

pub returns-in-Not-clause-puts : goal.returns-in-Not-clause-puts
returns-in-Not-clause-puts c =
    puts_not c.args.node c.args.x.now c.args.table.now c.args.numbers.now c.requires _ c.number_of.result c.in-Not.is c.number_of.ensures _ _ c.add.ensures.adds

pub returns-in-Two-clause-puts : goal.returns-in-Two-clause-puts
returns-in-Two-clause-puts c =
    puts_two c.args.node c.args.x.now c.args.table.now c.args.numbers.now c.requires _ _ _ c.number_of-in-Two.result c.number_of-in-Two-2.result
    c.in-Two.is c.number_of-in-Two.ensures c.number_of-in-Two-2.ensures _ _ c.add-in-Two.ensures.adds
