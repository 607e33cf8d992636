use borrow.Author.Tests.{le-leb, lt-leb}
use Rattle.program.proofs.body.may_write.Goals as goal

pub returns-then-shape-b : goal.returns-then-shape-b
returns-then-shape-b c = simp (le-leb _ _ c.if-shape-b.true, c.vars.ensures)

pub returns-else-shape-b : goal.returns-else-shape-b
returns-else-shape-b c = simp (lt-leb _ _ c.if-shape-b.false)
