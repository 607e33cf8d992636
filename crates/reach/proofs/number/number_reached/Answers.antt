use Rattle.reach.specs.Numbers.{table-numbered}
use Rattle.reach.proofs.number.number_reached.Goals as goal

pub returns : goal.returns
returns c = table-numbered c.requires c.cells.ensures c.mark_reached.ensures c.number_rows.ensures
