use Rattle.rows.specs.Adding.{below-not, plan_of_not, plan_of_two}
use Rattle.rows.proofs.adding.plan_node.Goals as goal

pub node_at-requires : goal.node_at-requires
node_at-requires c = below-not _ _ _ c.in-Not.is c.requires

pub returns-in-Leaf : goal.returns-in-Leaf
returns-in-Leaf c = cc

pub returns-in-Not : goal.returns-in-Not
returns-in-Not c =
    plan_of_not _ _ c.node_at.result c.args.rows.now c.in-Not.is c.node_at.ensures
    c.plan_not.result c.plan_not.ensures

pub returns-in-Two : goal.returns-in-Two
returns-in-Two c =
    plan_of_two _ _ _ _ c.args.rows.now c.in-Two.is c.plan_two.result
    c.plan_two.ensures
