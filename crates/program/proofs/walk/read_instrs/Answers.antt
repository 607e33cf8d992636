use Rattle.base.specs.Answers.{passed, shape_of, verdict_of}
use Rattle.program.specs.Walk.{walk_start, walk_step, walk_refused, walk_done}
use native.Mathlib.Omega.{arith}
use Rattle.std.proofs.Common.{ap, ◌∙◌}
use Rattle.program.proofs.walk.read_instrs.Goals as goal

pub loop-i-init : goal.loop-i-init
loop-i-init c = walk_start _ _ _

pub returns-in_err-at : goal.returns-in_err-at
returns-in_err-at c =
    let a = c.args in
    let s = c.loop-i in
    ap verdict_of (passed c.from_residual.ensures.1)
    ∙ walk_refused a.file.now (shape_of a.shape) a.n s.i s.at s.invariant (omega arith) c.read_instr.result
    (rw c.of_word.ensures at c.read_instr.ensures) _ c.in_err-at.was

pub loop-i-preserved : goal.loop-i-preserved
loop-i-preserved c =
    let s = c.loop-i in
    walk_step _ _ _ s.i s.at s.invariant (omega arith) c.read_instr.result
    (rw c.of_word.ensures at c.read_instr.ensures) _ c.in_ok-at.was

pub returns : goal.returns
returns c =
    let a = c.args in
    let s = c.loop-i in
    walk_done a.file.now (shape_of a.shape) a.n s.i s.at s.invariant (omega arith)
