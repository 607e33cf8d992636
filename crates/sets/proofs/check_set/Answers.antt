use Rattle.std.proofs.Common.{ap, ◌∙◌}
use Rattle.base.specs.Answers.{passed, verdict_of}
use Rattle.sets.specs.Answer.{set-header, set_long, set_rest}
use Rattle.sets.proofs.check_set.Goals as goal

pub check_rest-requires : goal.check_rest-requires
check_rest-requires c =
    let h = c.read_header in
    set_long c.args.file.now h.result h.ensures
    c.in_ok-shape.shape c.in_ok-shape.was

pub returns : goal.returns
returns c =
    let h = c.read_header in
    set_rest c.args.file.now h.result h.ensures
    c.in_ok-shape.shape c.in_ok-shape.was
    c.check_rest.result c.check_rest.ensures

pub returns-in_err-shape : goal.returns-in_err-shape
returns-in_err-shape c =
    let h = c.read_header in
    ap verdict_of (passed c.from_residual.ensures.1) ∙ set-header c.args.file.now h.result h.ensures _ c.in_err-shape.was
