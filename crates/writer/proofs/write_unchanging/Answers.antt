use mathlib.Core.Path.{sym}
use Rattle.base.specs.Answers.{passed}
use Rattle.writer.specs.Write.{shape-refused, shape-granted}
use Rattle.writer.proofs.write_unchanging.Goals as goal

pub put_unchanging-requires : goal.put_unchanging-requires
put_unchanging-requires c = sym (rw c.in_ok-check_shape.was at c.check_shape.ensures)

pub returns : goal.returns
returns c = shape-granted _ _ _ _ (rw c.in_ok-check_shape.was at c.check_shape.ensures) c.put_unchanging.ensures

pub returns-in_err-check_shape : goal.returns-in_err-check_shape
returns-in_err-check_shape c =
    let e = passed c.from_residual.ensures.1 in
    rw e (shape-refused _ _ _ (rw c.in_err-check_shape.was at c.check_shape.ensures))
