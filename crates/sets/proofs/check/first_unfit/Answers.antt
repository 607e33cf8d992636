use mathlib.Core.Path.{◌≡◌, sym, ap, ◌∙◌}
use Rattle.laws.specs.Lists.{searching_hit, searching_end}
use Rattle.sets.specs.Check.{fit_before, unfit-row}
use native.Mathlib.Omega.{arith}
use mathlib.Core.Bool.{not}
use Rattle.sets.proofs.check.first_unfit.Goals as goal

pub row_fits-requires-clause-fit_before : goal.row_fits-requires-clause-fit_before
row_fits-requires-clause-fit_before c =
    fit_before c.args.set.now _ _ c.leaves-leaves.ensures c.loop-j.invariant

pub returns-then-not-row_fits : goal.returns-then-not-row_fits
returns-then-not-row_fits c =
    let t = unfit-row c.args.set.now _ _ c.leaves-leaves.ensures _ c.row_fits.ensures in
    searching_hit _ _ c.loop-j.invariant (omega (arith, c.loop-j-test.true, c.rows-rows.ensures)) (sym t ∙ (ap not c.if-not-row_fits.true))

pub returns : goal.returns
returns c =
    let z : c.rows-rows.result ≡ c.loop-j.j = omega (arith, c.loop-j-test.false, c.loop-j.auto.j-end) in
    rw z (searching_end _ _ c.loop-j.invariant (omega (arith, c.rows-rows.ensures)))
