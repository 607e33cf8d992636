use borrow.Author.Tests.{lt-ltb, le-ltb}
use Rattle.program.proofs.body.may_jump.Goals as goal

pub returns-then-i-l : goal.returns-then-i-l
returns-then-i-l c = simp (lt-ltb _ _ c.if-i-l.true)

pub returns-else-i-l : goal.returns-else-i-l
returns-else-i-l c = simp (le-ltb _ _ c.if-i-l.false)
