-- `head_by` meets its contract.
use Rattle.own.specs.ChangeLaws.{head-low, head-pushed, head_reset}
use mathlib.Core.Path.{◌∙◌}
use Rattle.base.specs.Answers.{shape_of}
use native.Mathlib.Omega.{arith}
use Rattle.own.proofs.heads.head_by.Goals as goal

pub returns-then-c-vars : goal.returns-then-c-vars
returns-then-c-vars c =
    c.of_cell.ensures ∙ head-low (shape_of c.args.shape) _ c.args.stack
    (omega (arith, c.if-c-vars.true, c.vars.ensures))

pub returns-in-Pushed : goal.returns-in-Pushed
returns-in-Pushed c =
    rw c.in-Pushed.is
    (c.of_cell-in-Pushed.ensures ∙ head-pushed (shape_of c.args.shape) _ (omega (arith, c.if-c-vars.false, c.vars.ensures)))

pub returns-in-Reset : goal.returns-in-Reset
returns-in-Reset c =
    rw c.in-Reset.is
    (head_reset (shape_of c.args.shape) _ (omega (arith, c.if-c-vars.false, c.vars.ensures)))
