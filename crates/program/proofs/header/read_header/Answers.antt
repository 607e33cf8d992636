-- `read_header` meets its contract: a law for each answer.
use native.Mathlib.Omega.{arith}
use Rattle.std.proofs.Common.{ap, ◌∙◌}
use Rattle.base.specs.Answers.{passed}
use Rattle.program.specs.Stages.{header_verdict}
use Rattle.program.specs.Header.{header_short, header_other, header_read, header_refused}
use Rattle.program.proofs.header.read_header.Goals as goal

pub returns-then-file-lt7 : goal.returns-then-file-lt7
returns-then-file-lt7 c = header_short _ _ (omega arith)

pub returns-then-file-mark : goal.returns-then-file-mark
returns-then-file-mark c = header_other _ _ (omega arith) c.if-file-mark.true

pub returns : goal.returns
returns c =
    header_read _ _ (omega arith) c.if-file-mark.false _ c.shape_at-shape.ensures c.check_shape.result
    c.check_shape.ensures c.in_ok-check_shape.was

pub returns-in_err-check_shape : goal.returns-in_err-check_shape
returns-in_err-check_shape c =
    let k = c.check_shape in
    ap header_verdict (passed c.from_residual.ensures.1)
    ∙ header_refused _ _ (omega arith) c.if-file-mark.false _ c.shape_at-shape.ensures k.result k.ensures
    _ c.in_err-check_shape.was
