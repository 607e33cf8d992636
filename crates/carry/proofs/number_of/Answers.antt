-- `number_of` meets its contract: a law for each kind of row.
use mathlib.Core.Path.{◌∙◌}
use native.Mathlib.Omega.{arith}
use Rattle.carry.specs.CarryLaws.{number_constant, number-head, noted-at}
use Rattle.carry.proofs.number_of.Goals as goal

pub returns-then-at-lt2 : goal.returns-then-at-lt2
returns-then-at-lt2 c = number_constant _ _ _ _ c.if-at-lt2.true

pub returns-then-at-leaves : goal.returns-then-at-leaves
returns-then-at-leaves c =
    c.head_in.ensures ∙ number-head _ _ _ _ c.if-at-lt2.false
    (omega (arith, c.cells-leaves.ensures, c.if-at-leaves.true))

pub returns : goal.returns
returns c = noted-at _ _ _ _ _ c.cells-leaves.ensures c.if-at-lt2.false c.if-at-leaves.false
