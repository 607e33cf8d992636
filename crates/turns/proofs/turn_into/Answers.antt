-- `turn_into` meets its contract: the heads are put in their slot.
use Rattle.base.specs.Answers.{passed}
use Rattle.turn.proofs.TurnLaws.{place, slot-ends, turn-built, turn-full}
use Rattle.turn.specs.Slots.{slot-fits}
use Rattle.program.specs.Standing.{most-cells}
use native.Mathlib.Omega.{arith}
use Rattle.turns.proofs.turn_into.Goals as goal

pub returns-in_err-turn_heads-clause-turned : goal.returns-in_err-turn_heads-clause-turned
returns-in_err-turn_heads-clause-turned c =
    rw (passed c.from_residual.ensures.1) (turn-full c.requires c.in_err-turn_heads.ensures.turned)

pub slot_of-from-requires : goal.slot_of-from-requires
slot_of-from-requires c =
    let s = place c.requires in
    (omega (arith, s.low, s.most), omega (arith, most-cells _ _ _ _ s, c.cells-cells.ensures))

pub overflow_add-to : goal.overflow_add-to
overflow_add-to c = omega (arith, c.slot_of-from.ensures.1, most-cells _ _ _ _ (place c.requires), c.cells-cells.ensures)

pub slice_bounds-copy_heads-end : goal.slice_bounds-copy_heads-end
slice_bounds-copy_heads-end c =
    slot-fits _ _ _ _ c.slot_of-from.ensures.0 c.cells-cells.ensures _ (slot-ends c.requires _ c.requires.low)

pub returns-clause-turned : goal.returns-clause-turned
returns-clause-turned c =
    turn-built c.requires c.in_ok-turn_heads.ensures.turned c.turn_heads.auto.made _ c.copy_heads.ensures _ _
    c.slot_of-from.ensures.0 c.cells-cells.ensures
