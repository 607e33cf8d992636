use Rattle.sets.specs.Check.{rows_head, rows-unfit, rows-unnamed, rows-good}
use native.Mathlib.Omega.{arith}
use Rattle.sets.proofs.check.check_rows.Goals as goal

pub returns-then-c-cells : goal.returns-then-c-cells
returns-then-c-cells c =
    rows_head c.args.set.now _ c.first_bad_head-c.ensures (omega (arith, c.cells.ensures, c.if-c-cells.true))

pub returns-then-unfit-rows : goal.returns-then-unfit-rows
returns-then-unfit-rows c =
    rows-unfit c.args.set.now _ c.first_bad_head-c.ensures (omega (arith, c.cells.ensures, c.if-c-cells.false)) _
    c.rows-rows.ensures _ c.first_unfit-unfit.ensures c.if-unfit-rows.true _ c.place.ensures

pub returns-then-unnamed-rows : goal.returns-then-unnamed-rows
returns-then-unnamed-rows c =
    rows-unnamed c.args.set.now _ c.first_bad_head-c.ensures (omega (arith, c.cells.ensures, c.if-c-cells.false)) _
    c.rows-rows.ensures _ c.first_unfit-unfit.ensures c.if-unfit-rows.false _ c.first_unnamed-unnamed.ensures
    c.if-unnamed-rows.true _ c.place-then-unnamed-rows.ensures

pub returns : goal.returns
returns c =
    rows-good c.args.set.now _ c.first_bad_head-c.ensures (omega (arith, c.cells.ensures, c.if-c-cells.false)) _
    c.rows-rows.ensures _ c.first_unfit-unfit.ensures c.if-unfit-rows.false _ c.first_unnamed-unnamed.ensures
    c.if-unnamed-rows.false
