-- `reach::number::number_rows`: each turn numbers one row.
use Rattle.reach.specs.Numbers.{counting_none, counting_more}
use Rattle.reach.proofs.number.number_rows.Goals as goal

pub loop-k-init : goal.loop-k-init
loop-k-init c = counting_none

pub loop-k-preserved : goal.loop-k-preserved
loop-k-preserved c = counting_more c.loop-k.invariant c.number_row-next.ensures
