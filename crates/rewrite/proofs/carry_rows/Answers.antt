-- `carry_rows` meets its contract: one row more a turn.
use native.Mathlib.Omega.{arith}
use borrow.Author.Rules.{rules}
use Rattle.base.specs.Answers.{passed}
use Rattle.rewrite.specs.CarryLaws.{carries_turn, carries_over}
use Rattle.rewrite.proofs.carry_rows.Goals as goal

pub carry_row-requires : goal.carry_row-requires
carry_row-requires c = carries_turn c.requires (c.loop-k.invariant.1 c.requires) (omega arith)

pub returns-in_err-carry_row-clause-carries : goal.returns-in_err-carry_row-clause-carries
returns-in_err-carry_row-clause-carries c =
    rw (passed c.from_residual.ensures.1)
    (λ w.
    let g = c.loop-k.invariant.1 w in
    carries_over w g c.loop-k.invariant.0 (omega arith) (c.in_err-carry_row.ensures.turns (carries_turn w g (omega arith))))

pub loop-k-preserved : goal.loop-k-preserved
loop-k-preserved c = (search rules, λ w. c.in_ok-carry_row.ensures.turns (carries_turn w (c.loop-k.invariant.1 w) (omega arith)))
