use mathlib.Core.Path.{sym, ◌∙◌}
use Rattle.sets.specs.Naming.{operand-is, operand-none}
use native.Mathlib.Omega.{arith}
use Rattle.sets.proofs.naming.is_operand.Goals as goal

pub returns-then-names_at : goal.returns-then-names_at
returns-then-names_at c =
    operand-is c.args.set.now _ c.requires _ _ c.place-first.ensures c.rows-rows.ensures _
    (omega (arith, c.rows_to-j.ensures, c.loop-j.invariant.low)) c.loop-j-test.true
    (sym c.names_at.ensures ∙ c.if-names_at.true)

pub returns : goal.returns
returns c =
    operand-none c.args.set.now _ c.requires _ _ c.place-first.ensures c.rows-rows.ensures _ _
    c.loop-j-test.false c.rows_to-j.ensures c.loop-j.invariant
