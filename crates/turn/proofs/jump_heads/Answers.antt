-- `jump_heads` meets its contract: a law for each code.
use native.Mathlib.Omega.{arith}
use Rattle.base.specs.Answers.{passed}
use Rattle.turn.proofs.JumpLaws.{jumps_jpc, call_full, call_choosing, jumps_jsc}
use Rattle.turn.proofs.jump_heads.Goals as goal

pub choose_heads-requires-in-Jsc : goal.choose_heads-requires-in-Jsc
choose_heads-requires-in-Jsc c =
    call_choosing c.requires _ (omega arith) (c.in_ok-follow-in-Jsc.ensures.follows c.requires) c.follow-in-Jsc.auto.made

pub returns-in-Jpc-clause-jumps : goal.returns-in-Jpc-clause-jumps
returns-in-Jpc-clause-jumps c = rw c.in-Jpc.is (λ w. jumps_jpc w _ (omega arith) _ c.choose_heads.new.table _ c.choose_heads.ensures.chooses)

pub returns-in_err-follow-in-Jsc-clause-jumps : goal.returns-in_err-follow-in-Jsc-clause-jumps
returns-in_err-follow-in-Jsc-clause-jumps c =
    rw (passed c.from_residual.ensures.1, c.in-Jsc.is) (λ w. call_full w (c.in_err-follow-in-Jsc.ensures.follows w))

pub returns-in_ok-follow-in-Jsc-clause-jumps : goal.returns-in_ok-follow-in-Jsc-clause-jumps
returns-in_ok-follow-in-Jsc-clause-jumps c =
    let called = c.in_ok-follow-in-Jsc.ensures in
    rw c.in-Jsc.is
    (λ w. jumps_jsc w _ (omega arith) (called.follows w) c.follow-in-Jsc.auto.made called.kept _ c.choose_heads-in-Jsc.new.table _
    c.choose_heads-in-Jsc.ensures.chooses)
