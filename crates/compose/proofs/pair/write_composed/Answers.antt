-- `write_composed` meets its contract: the heads are lent.
use mathlib.Core.Path.{sym, ◌∙◌}
use native.Mathlib.Omega.{arith}
use lib.Seq.{length-take-le}
use Rattle.compose.specs.Answer.{cells-most}
use Rattle.compose.proofs.pair.write_composed.Goals as goal

pub slice_bounds-heads-end : goal.slice_bounds-heads-end
slice_bounds-heads-end c = omega (arith, cells-most _ _ _ _ _ c.requires, c.cells-cells.ensures)

pub slice_bounds-write_moved-end : goal.slice_bounds-write_moved-end
slice_bounds-write_moved-end c =
    sym (length-take-le c.cells-cells.result _
    (omega (arith, cells-most _ _ _ _ _ c.requires, c.cells-cells.ensures)))

pub write_moved-requires : goal.write_moved-requires
write_moved-requires c = (
  c.requires,
  length-take-le c.cells-cells.result _ (omega (arith, cells-most _ _ _ _ _ c.requires, c.cells-cells.ensures)) ∙ c.cells-cells.ensures,
)
