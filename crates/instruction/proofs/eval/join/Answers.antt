use borrow.Author.Tests.{eq-eqb, ne_eqb}
use Rattle.instruction.proofs.eval.join.Goals as goal

pub returns-then-b-eq253 : goal.returns-then-b-eq253
returns-then-b-eq253 c = simp (eq-eqb _ _ c.if-b-eq253.true, c.both.ensures)

pub returns : goal.returns
returns c = simp (ne_eqb _ _ c.if-b-eq253.false, c.either.ensures)
