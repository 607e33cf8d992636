use Rattle.base.specs.Answers.{shape_of}
use Rattle.program.specs.Walk.{instr_misplaced, instr_short, instr_read}
use native.Mathlib.Omega.{arith}
use Rattle.program.proofs.walk.read_instr.Goals as goal

pub returns-then-start-at : goal.returns-then-start-at
returns-then-start-at c =
    let a = c.args in
    instr_misplaced a.file.now (shape_of a.shape) a.n a.i.0 a.at _ c.body_at-start.ensures.0
    c.if-start-at.true

pub returns-then-file-at : goal.returns-then-file-at
returns-then-file-at c =
    let a = c.args in
    instr_short a.file.now (shape_of a.shape) a.n a.i.0 a.at _ c.body_at-start.ensures.0
    c.if-start-at.false (omega arith)

pub returns : goal.returns
returns c =
    let a = c.args in
    instr_read a.file.now (shape_of a.shape) a.n a.i.0 a.at _ c.body_at-start.ensures.0
    c.if-start-at.false c.read_body.result (omega arith) c.read_body.ensures
