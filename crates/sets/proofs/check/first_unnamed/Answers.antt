use mathlib.Core.Path.{◌≡◌, sym, ap, ◌∙◌}
use Rattle.laws.specs.Lists.{searching_hit, searching_end}
use Rattle.sets.specs.Check.{unnamed-row}
use native.Mathlib.Omega.{arith}
use mathlib.Core.Bool.{not}
use Rattle.sets.proofs.check.first_unnamed.Goals as goal

pub returns-then-not-row_named : goal.returns-then-not-row_named
returns-then-not-row_named c =
    let t = unnamed-row c.args.set.now _ _ c.leaves-leaves.ensures _ c.row_named.ensures in
    searching_hit _ _ c.loop-j.invariant (omega (arith, c.loop-j-test.true, c.rows-rows.ensures)) (sym t ∙ (ap not c.if-not-row_named.true))

pub returns : goal.returns
returns c =
    let z : c.rows-rows.result ≡ c.loop-j.j = omega (arith, c.loop-j-test.false, c.loop-j.auto.j-end) in
    rw z (searching_end _ _ c.loop-j.invariant (omega (arith, c.rows-rows.ensures)))
