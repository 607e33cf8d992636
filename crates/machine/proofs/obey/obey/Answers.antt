-- `obey` meets its contract: a law for each kind of body.
use mathlib.Core.Path.{refl, ap, ◌∙◌}
use native.Mathlib.Omega.{arith}
use Rattle.storage.specs.Cells.{stored, reset_from}
use Rattle.machine.specs.ObeyLaws.{fitting, readable, variable-low, obeys_end, obeys_alone, obeys_value, obeys_variable}
use Rattle.machine.proofs.obey.obey.Goals as goal

pub alone_op-requires : goal.alone_op-requires
alone_op-requires c = fitting _ _ _ c.requires

pub flag-requires : goal.flag-requires
flag-requires c = omega (arith, (fitting _ _ _ c.requires).most)

pub reset-requires : goal.reset-requires
reset-requires c = omega (arith, (fitting _ _ _ c.requires).storage.size, c.flag.ensures)

pub returns-in-End : goal.returns-in-End
unfolding stored
returns-in-End c =
    obeys_end _ _ _ c.requires _ c.instr.ensures _ c.in-Alone.is c.in-End.is _
    (rw c.in-End.is (c.reset.ensures ∙ ap (λ f. reset_from f c.args.s.now) c.flag.ensures))

pub value_at-x-requires : goal.value_at-x-requires
value_at-x-requires c = readable _ _ _ c.requires _ c.instr.ensures _ _ c.in-Value.is _ c.vars.ensures

pub value_op-requires : goal.value_op-requires
value_op-requires c = fitting _ _ _ c.requires

pub variable_op-requires : goal.variable_op-requires
variable_op-requires c =
    record {
      fitting = fitting _ _ _ c.requires;
      variable = variable-low _ _ _ c.requires _ c.instr.ensures _ _ c.in-Variable.is;
    }

pub jump-requires : goal.jump-requires
jump-requires c = fitting _ _ _ c.requires

pub returns-in_default : goal.returns-in_default
returns-in_default c =
    obeys_alone _ _ _ c.requires _ c.instr.ensures _ c.in-Alone.is c.in_default.not-End _ c.alone_op.ensures _ refl

pub returns-in-Value : goal.returns-in-Value
returns-in-Value c =
    obeys_value _ _ _ c.requires _ c.instr.ensures _ _ c.in-Value.is _ c.vars.ensures _ c.value_at-x.ensures _ c.value_op.ensures _ refl

pub returns-in-Variable : goal.returns-in-Variable
returns-in-Variable c = obeys_variable _ _ _ c.requires _ c.instr.ensures _ _ c.in-Variable.is _ c.variable_op.ensures _ refl
