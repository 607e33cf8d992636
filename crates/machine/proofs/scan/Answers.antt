use Rattle.base.specs.Answers.{passed}
use Rattle.machine.specs.ScanLaws.{scan_unread, scan-unfit, runnable}
use Rattle.machine.proofs.scan.Goals as goal

pub returns-in_err-program : goal.returns-in_err-program
returns-in_err-program c =
    rw (passed c.from_residual.ensures.1) (scan_unread _ _ _ _ (rw c.in_err-program.was at c.read.ensures.judged))

pub returns-in_err-check_cells : goal.returns-in_err-check_cells
returns-in_err-check_cells c =
    let p = c.in_ok-program.program in
    rw (passed c.from_residual-in_err-check_cells.ensures.1, ← (rw c.in_ok-program.was at c.read.ensures.same))
    (scan-unfit p _ _ c.cells.ensures _ _ (rw c.in_err-check_cells.was at c.check_cells.ensures))

pub scan_cells-requires : goal.scan_cells-requires
scan_cells-requires c = runnable _ _ _ c.cells.ensures (rw c.in_ok-check_cells.was at c.check_cells.ensures)
