use mathlib.Core.Path.{ap}
use Rattle.rows.specs.Entries.{node_row}
use Rattle.sets.specs.Fit.{plan-inv}
use Rattle.sets.proofs.fit.plan_in.Goals as goal

pub returns-in-Not : goal.returns-in-Not
returns-in-Not c = plan-inv _ _ _ _ _ (ap node_row c.in-Not.is) c.row.ensures c.plan_not.ensures
