-- `read_expr` meets its contract: a law for each answer.
use mathlib.Core.Path.{sym, ◌∙◌}
use native.Mathlib.Omega.{arith}
use Rattle.base.specs.Answers.{passed}
use Rattle.program.specs.Expr.{skip_stop, skip_short, skip-leaf, skip-one, skip-two, skip-refused, skip-bad}
use Rattle.program.proofs.expr.+read_expr.Goals as goal

pub returns-then-stop-at : goal.returns-then-stop-at
returns-then-stop-at t c = skip_stop _ _ _ _ c.if-stop-at.true

pub returns-then-file-at : goal.returns-then-file-at
returns-then-file-at t c = skip_short _ _ _ _ c.if-stop-at.false c.if-file-at.true

pub read_expr-requires-in-Two-2 : goal.read_expr-requires-in-Two-2
read_expr-requires-in-Two-2 t c = omega (arith, c.read_expr-in-Two.ensures.on c.in_ok-next-in-Two.next c.in_ok-next-in-Two.was)

pub returns-in-Zero : goal.returns-in-Zero
returns-in-Zero t c =
    skip-leaf _ _ _ _ c.if-stop-at.false c.if-file-at.false
    (rw c.read_at.ensures at (sym c.in-Zero.is ∙ c.announce.ensures))

pub returns-in-One : goal.returns-in-One
returns-in-One t c =
    skip-one _ _ _ _ c.if-stop-at.false c.if-file-at.false _
    (rw c.read_at.ensures at (sym c.in-One.is ∙ c.announce.ensures)) c.read_expr.ensures

pub returns-in_ok-next-in-Two : goal.returns-in_ok-next-in-Two
returns-in_ok-next-in-Two t c =
    let e = c.in-Two.is in
    skip-two _ _ _ _ c.if-stop-at.false c.if-file-at.false _ _ _
    (rw c.read_at.ensures at (sym e ∙ c.announce.ensures))
    c.read_expr-in-Two.ensures c.in_ok-next-in-Two.was c.read_expr-in-Two-2.ensures

pub returns-in_err-next-in-Two : goal.returns-in_err-next-in-Two
returns-in_err-next-in-Two t c =
    let e = c.in-Two.is in
    let p = passed c.from_residual.ensures.1 in
    rw p (skip-refused _ _ _ _ c.if-stop-at.false c.if-file-at.false _ _
    (rw c.read_at.ensures at (sym e ∙ c.announce.ensures))
    c.read_expr-in-Two.ensures c.in_err-next-in-Two.was)

pub returns-in-Bad : goal.returns-in-Bad
returns-in-Bad t c =
    skip-bad _ _ _ _ c.if-stop-at.false c.if-file-at.false
    (rw c.read_at.ensures at (sym c.in-Bad.is ∙ c.announce.ensures))
