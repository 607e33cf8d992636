-- `build_turn` meets its contract: a turn is made.
use Rattle.turn.proofs.TurnLaws.{cells_few, turning}
use lib.Seq.{length-take-le}
use native.Mathlib.Omega.{arith}
use mathlib.Core.Path.{sym, ◌∙◌}
use Rattle.turns.proofs.build_turn.Goals as goal

pub slice_bounds-made-end : goal.slice_bounds-made-end
slice_bounds-made-end c = omega (arith, cells_few _ c.requires.building)

pub slice_bounds-turn_into-end : goal.slice_bounds-turn_into-end
slice_bounds-turn_into-end c = sym (length-take-le _ _ (omega (arith, cells_few _ c.requires.building)))

pub turn_into-requires : goal.turn_into-requires
turn_into-requires c =
    turning _ c.requires.building _ c.requires.rows_in_bounds _
    (length-take-le _ _ (omega (arith, cells_few _ c.requires.building)) ∙ c.cells-cells.ensures)
