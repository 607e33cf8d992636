-- `Program::read` meets its contract: an accepted file has a whole header, which gives its shape and its count.
use Rattle.program.specs.Standing.{accepted_program, header-there}
use Rattle.program.specs.Accepted.{accepted}
use Rattle.program.proofs.file.Program.read.Goals as goal

pub shape_at-requires : goal.shape_at-requires
shape_at-requires c = header-there _ (accepted_program _ (rw c.in_ok-check_program.was at c.check_program.ensures))

pub word-requires : goal.word-requires
word-requires c = header-there _ (accepted_program _ (rw c.in_ok-check_program.was at c.check_program.ensures))

pub invariant_of-result : goal.invariant_of-result
invariant_of-result c =
    record { accepted = accepted _ _ _ (rw c.in_ok-check_program.was at c.check_program.ensures) c.shape_at.ensures c.word.ensures.0 }
