use Rattle.base.specs.Answers.{passed}
use Rattle.build.specs.Answer.{building_start, leaves-over, turns-over, finishing, finished}
use Rattle.program.specs.Standing.{most-cells}
use lib.ListN.{length}
use native.Mathlib.Omega.{arith}
use mathlib.Core.Path.{ap, ◌∙◌}
use Rattle.build.proofs.build_program.Goals as goal

pub put_leaves-requires : goal.put_leaves-requires
put_leaves-requires c = (omega (arith, most-cells _ _ _ _ c.requires.standing, c.cells-cells.ensures), c.empty-table.ensures.empty.1)

pub returns-in_err-put_leaves : goal.returns-in_err-put_leaves
returns-in_err-put_leaves c =
    rw (passed c.from_residual.ensures.1)
    (leaves-over _ _ _ _ _ _ c.requires (ap length c.empty-table.ensures.empty.0) _ _ c.cells-cells.ensures c.in_err-put_leaves.ensures.holds)

pub build_turns-requires : goal.build_turns-requires
build_turns-requires c =
    let leaves = c.in_ok-put_leaves.ensures in
    record {
      building = building_start _ _ _ _ _ _ c.requires _ c.cells-cells.ensures _ leaves.holds;
      rows_in_bounds = rw (leaves.kept.size ∙ ap length c.empty-table.ensures.empty.0) c.requires.numbers_lent;
    }

pub returns-in_err-build_turns : goal.returns-in_err-build_turns
returns-in_err-build_turns c =
    let size = c.in_ok-put_leaves.ensures.kept.size ∙ ap length c.empty-table.ensures.empty.0 in
    rw (passed c.from_residual-in_err-build_turns.ensures.1)
    (turns-over _ _ _ _ _ _ c.requires size _ c.in_err-build_turns.ensures.builds)

pub write_finished-requires : goal.write_finished-requires
write_finished-requires c =
    let turns = c.in_ok-build_turns.ensures in
    let size = turns.kept.size ∙ c.in_ok-put_leaves.ensures.kept.size ∙ ap length c.empty-table.ensures.empty.0 in
    rw c.rows.ensures
    (finishing _ _ _ _ _ turns.builds _ c.cells-cells.ensures _ (rw (size, c.build_turns.auto.numbers) c.requires.numbers_lent))

pub returns : goal.returns
returns c =
    let turns = c.in_ok-build_turns.ensures in
    let size = turns.kept.size ∙ c.in_ok-put_leaves.ensures.kept.size ∙ ap length c.empty-table.ensures.empty.0 in
    finished _ _ _ _ _ turns.builds _ c.cells-cells.ensures _ _ _ size c.requires _ _ _ (rw c.rows.ensures at c.write_finished.ensures)
