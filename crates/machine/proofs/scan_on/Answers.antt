use Rattle.base.specs.declared.refusal.Refusal.TheVariants.{BudgetSpent}
use Rattle.base.specs.Answers.{passed, mapped_ok, mapped_err}
use Rattle.machine.specs.ScanLaws.{scan_spent, scan-stopped}
use Rattle.machine.proofs.scan_on.Goals as goal

pub returns : goal.returns
returns c =
    let e = mapped_ok BudgetSpent c.run_from.result c.map_err.result c.map_err.ensures.cases _ c.in_ok-left.was in
    scan-stopped _ _ c.requires.runnable _ _ _ c.copy_cells.ensures _ (rw e at c.run_from.ensures) _
    c.copy_cells-2.ensures

pub returns-in_err-left : goal.returns-in_err-left
returns-in_err-left c =
    let (i, e, z) = mapped_err BudgetSpent c.run_from.result c.map_err.result c.map_err.ensures.cases _ c.in_err-left.was in
    rw (passed c.from_residual.ensures.1, z)
    (scan_spent _ _ c.requires.runnable _ _ _ c.copy_cells.ensures i (rw e at c.run_from.ensures))
