use Rattle.base.specs.Answers.{passed}
use Rattle.build.specs.Answer.{build_unread}
use Rattle.program.specs.Standing.{accepted_program}
use Rattle.build.proofs.build_checked.Goals as goal

pub build_accepted-requires : goal.build_accepted-requires
build_accepted-requires c = accepted_program _ (rw c.in_ok-check_program.was at c.check_program.ensures)

pub returns-in_err-check_program : goal.returns-in_err-check_program
returns-in_err-check_program c =
    let e = passed c.from_residual.ensures.1 in
    rw e (build_unread _ _ _ _ _ _ (rw c.in_err-check_program.was at c.check_program.ensures))
