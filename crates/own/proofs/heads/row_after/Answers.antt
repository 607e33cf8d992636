-- `row_after` meets its contract.
use Rattle.own.specs.ChangeLaws.{head-popped, head-last}
use mathlib.Core.Path.{◌∙◌}
use Rattle.base.specs.Answers.{shape_of}
use native.Mathlib.Omega.{arith}
use Rattle.own.proofs.heads.row_after.Goals as goal

pub returns-then-c-cells : goal.returns-then-c-cells
returns-then-c-cells c =
    c.of_cell.ensures ∙ head-popped (shape_of c.args.shape) _ c.requires.shape_bound.0
    (omega (arith, c.if-c-cells.true, c.cells.ensures))

pub returns : goal.returns
returns c =
    head-last (shape_of c.args.shape) _ c.requires.shape_bound.0 c.requires.shape_bound.1
    (omega (arith, c.if-c-cells.false, c.cells.ensures))
