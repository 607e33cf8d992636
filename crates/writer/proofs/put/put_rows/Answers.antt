-- `writer::put::put_rows`: each turn writes what is kept of one row.
use Rattle.writer.specs.Kept.{rowing_none, rowing_fits, rowing_more}
use Rattle.writer.proofs.put.put_rows.Goals as goal

pub loop-k-init : goal.loop-k-init
loop-k-init c = rowing_none

pub put_kept-to-requires : goal.put_kept-to-requires
put_kept-to-requires c = rowing_fits c.requires c.loop-k.invariant c.loop-k-test.true

pub loop-k-preserved : goal.loop-k-preserved
loop-k-preserved c = rowing_more c.loop-k.invariant c.put_kept-to.ensures
