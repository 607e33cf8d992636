-- `build_turns` meets its contract: one turn more.
use Rattle.base.specs.Answers.{passed}
use Rattle.turn.proofs.TurnLaws.{turns-full}
use native.Mathlib.Omega.{arith}
use Rattle.turns.proofs.build_turns.Goals as goal

pub returns-in_err-build_turn-clause-builds : goal.returns-in_err-build_turn-clause-builds
returns-in_err-build_turn-clause-builds c =
    let g = c.loop-i.invariant in
    rw (passed c.from_residual.ensures.1) (turns-full _ (omega arith) g.1 g.0 c.in_err-build_turn.ensures.builds)
