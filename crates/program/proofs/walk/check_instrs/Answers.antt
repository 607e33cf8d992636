-- `check_instrs` meets its contract: a law for each answer; instructions that were read have the last code in the file.
use native.Mathlib.Omega.{arith}
use Rattle.base.specs.Answers.{passed, shape_of, verdict_of}
use Rattle.program.specs.Rest.{rest-count, rest_short, contents, rest-refused, rest-closed}
use Rattle.std.proofs.Common.{ap, ◌∙◌}
use mathlib.Core.Bool.{not}
use Rattle.program.proofs.walk.check_instrs.Goals as goal

pub returns-then-not-within : goal.returns-then-not-within
returns-then-not-within c =
    let a = c.args in
    let w = c.word-n in
    let d = c.within in
    rest-count a.file.now (shape_of a.shape) w.result d.result w.ensures.0 d.ensures (ap not c.if-not-within.true)

pub returns-then-file-n : goal.returns-then-file-n
returns-then-file-n c =
    let a = c.args in
    let w = c.word-n in
    let d = c.within in
    rest_short a.file.now (shape_of a.shape) w.result d.result w.ensures.0 d.ensures
    (ap not c.if-not-within.false) (omega arith)

pub read_instrs-requires : goal.read_instrs-requires
read_instrs-requires c =
    let a = c.args in
    let w = c.word-n in
    let d = c.within in
    contents a.file.now (shape_of a.shape) w.result d.result w.ensures.0 d.ensures
    (ap not c.if-not-within.false) (omega arith)

pub check_end-requires : goal.check_end-requires
check_end-requires c =
    let a = c.args in
    let w = c.word-n in
    let d = c.within in
    contents a.file.now (shape_of a.shape) w.result d.result w.ensures.0 d.ensures
    (ap not c.if-not-within.false) (omega arith)

pub returns : goal.returns
returns c =
    let a = c.args in
    let w = c.word-n in
    let d = c.within in
    rest-closed a.file.now (shape_of a.shape) w.result d.result w.ensures.0 d.ensures
    (ap not c.if-not-within.false) (omega arith)
    c.read_instrs.result c.read_instrs.ensures
    c.in_ok-at.at c.in_ok-at.was c.check_end.result c.check_end.ensures

pub returns-in_err-at : goal.returns-in_err-at
returns-in_err-at c =
    let a = c.args in
    let w = c.word-n in
    let d = c.within in
    ap verdict_of (passed c.from_residual.ensures.1)
    ∙ rest-refused a.file.now (shape_of a.shape) w.result d.result w.ensures.0 d.ensures
    (ap not c.if-not-within.false) (omega arith) c.read_instrs.result
    c.read_instrs.ensures _ c.in_err-at.was
