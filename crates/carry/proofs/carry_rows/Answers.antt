-- `carry_rows` meets its contract: one row more a turn.
use native.Mathlib.Omega.{arith}
use Rattle.base.specs.Answers.{passed}
use Rattle.carry.specs.CarryLaws.{carrying-over}
use Rattle.carry.proofs.carry_rows.Goals as goal

pub returns-in_err-carry_row-clause-carries : goal.returns-in_err-carry_row-clause-carries
returns-in_err-carry_row-clause-carries c =
    rw (passed c.from_residual.ensures.1)
    (carrying-over _ _ _ _ c.loop-j.invariant.0 (omega (arith, c.word-count.ensures.0)) c.in_err-carry_row.ensures.carries)
