-- `work_out` meets its contract: one value more a turn.
use Rattle.std.proofs.Common.{arith}
use Rattle.evaluate.specs.ValueLaws.{row-worked, valued-more}
use Rattle.evaluate.proofs.values.work_out.Goals as goal

pub row_value-requires : goal.row_value-requires
row_value-requires c =
    row-worked _ _ c.requires.0 c.loop-i.i (omega (arith, c.total-total.ensures)) _ c.row.ensures _
    (omega (arith, c.total-total.ensures, c.requires.1))

pub loop-i-preserved : goal.loop-i-preserved
loop-i-preserved c =
    valued-more _ _ c.requires.0 _ c.loop-i.i (omega (arith, c.total-total.ensures))
    (omega (arith, c.total-total.ensures, c.requires.1)) c.loop-i.invariant _ c.row.ensures _ c.row_value.ensures

pub returns : goal.returns
returns c = λ i h. c.loop-i.invariant i (omega (arith, c.total-total.ensures, c.loop-i-test.false))
