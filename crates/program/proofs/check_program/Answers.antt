-- `check_program` meets its contract: the header's answer, or that of what follows it.
use Rattle.std.proofs.Common.{ap, ◌∙◌}
use Rattle.base.specs.Answers.{passed, verdict_of}
use Rattle.program.specs.Check.{check_refused, check_long, check_rest}
use Rattle.program.proofs.check_program.Goals as goal

pub check_instrs-requires : goal.check_instrs-requires
check_instrs-requires c =
    let h = c.read_header in
    check_long c.args.file.now h.result h.ensures
    c.in_ok-shape.shape c.in_ok-shape.was

pub returns : goal.returns
returns c =
    let h = c.read_header in
    check_rest c.args.file.now h.result h.ensures
    c.in_ok-shape.shape c.in_ok-shape.was
    c.check_instrs.result c.check_instrs.ensures

pub returns-in_err-shape : goal.returns-in_err-shape
returns-in_err-shape c =
    let h = c.read_header in
    ap verdict_of (passed c.from_residual.ensures.1) ∙ check_refused c.args.file.now h.result h.ensures _ c.in_err-shape.was
