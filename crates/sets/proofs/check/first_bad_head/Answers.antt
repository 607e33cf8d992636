use mathlib.Core.Path.{◌≡◌}
use Rattle.laws.specs.Lists.{searching_hit, searching_end}
use borrow.Author.Tests.{le-leb}
use native.Mathlib.Omega.{arith}
use Rattle.sets.proofs.check.first_bad_head.Goals as goal

pub returns-then-total-head : goal.returns-then-total-head
returns-then-total-head c =
    searching_hit _ _ c.loop-c.invariant (omega (arith, c.loop-c-test.true, c.cells-cells.ensures))
    (le-leb _ _ (omega (arith, c.if-total-head.true, c.head.ensures, c.total-total.ensures)))

pub returns : goal.returns
returns c =
    let z : c.cells-cells.result ≡ c.loop-c.c = omega (arith, c.loop-c-test.false, c.loop-c.auto.c-end) in
    rw z (searching_end _ _ c.loop-c.invariant (omega (arith, c.cells-cells.ensures, c.loop-c-test.false)))
