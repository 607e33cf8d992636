-- `evaluate_accepted` meets its contract.
use native.Mathlib.Omega.{arith}
use Rattle.base.specs.Answers.{passed}
use Rattle.evaluate.specs.Evaluate.{evaluable, evaluate-unfit, evaluate_short, evaluate_done}
use Rattle.evaluate.proofs.values.evaluate_accepted.Goals as goal

pub returns-in_err-check_cells : goal.returns-in_err-check_cells
returns-in_err-check_cells c =
    let e = passed c.from_residual.ensures.1 in
    rw e (evaluate-unfit _ _ _ c.requires c.accepted-set.result c.accepted-set.ensures _ c.cells.ensures _
    (rw c.in_err-check_cells.was at c.check_cells.ensures))

pub returns-then-values-total : goal.returns-then-values-total
returns-then-values-total c =
    evaluate_short _ _ _ c.requires c.accepted-set.result c.accepted-set.ensures _ c.cells.ensures
    (rw c.in_ok-check_cells.was at c.check_cells.ensures) (omega (arith, c.total-total.ensures, c.if-values-total.true))

pub work_out-requires : goal.work_out-requires
work_out-requires c = (
  evaluable _ _ 0 c.requires c.accepted-set.result c.accepted-set.ensures _ c.cells.ensures
      (rw c.in_ok-check_cells.was at c.check_cells.ensures),
  omega (arith, c.total-total.ensures, c.if-values-total.false),
)

pub take_heads-requires-clause-evaluable : goal.take_heads-requires-clause-evaluable
take_heads-requires-clause-evaluable c = (
  evaluable _ _ 0 c.requires c.accepted-set.result c.accepted-set.ensures _ c.cells.ensures
      (rw c.in_ok-check_cells.was at c.check_cells.ensures),
  omega (arith, c.total-total.ensures, c.if-values-total.false, c.work_out.auto),
)

pub returns : goal.returns
returns c =
    evaluate_done _ _ _ c.requires c.accepted-set.result c.accepted-set.ensures _ c.cells.ensures
    (rw c.in_ok-check_cells.was at c.check_cells.ensures) (omega (arith, c.total-total.ensures, c.if-values-total.false)) _
    c.take_heads.ensures
