use mathlib.Core.Path.{sym, ◌∙◌}
use Rattle.sets.specs.Naming.{head-is, head-none}
use native.Mathlib.Omega.{arith}
use borrow.Author.Tests.{eqb-true}
use Rattle.sets.proofs.naming.is_head.Goals as goal

pub returns-then-eq : goal.returns-then-eq
returns-then-eq c =
    head-is c.args.set.now _ _ (omega (arith, c.cells-cells.ensures, c.loop-c-test.true))
    (sym c.head.ensures ∙ eqb-true _ _ (sym c.if-eq.ensures))

pub returns : goal.returns
returns c = head-none c.args.set.now _ _ (omega (arith, c.cells-cells.ensures, c.loop-c-test.false)) c.loop-c.invariant
