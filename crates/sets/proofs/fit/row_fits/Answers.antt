use mathlib.Core.Path.{ap, ◌∙◌}
use mathlib.Core.Bool.{not}
use native.Mathlib.Omega.{arith}
use Rattle.laws.specs.Rule.{below_more}
use Rattle.laws.specs.Search.{last_of}
use Rattle.sets.specs.Judging.{rows_of}
use Rattle.sets.specs.Fit.{fits_late, fits_below, fits_folds, fits-made, fits-found}
use Rattle.sets.proofs.fit.row_fits.Goals as goal

pub returns-then-not-earlier : goal.returns-then-not-earlier
returns-then-not-earlier c = fits_late _ _ _ c.row-node.ensures _ c.earlier.ensures (ap not c.if-not-earlier.true)

pub plan_in-requires : goal.plan_in-requires
plan_in-requires c =
    below_more _ (rows_of c.args.set.now) _ (omega (arith, c.requires.among.low))
    (fits_below _ _ _ c.row-node.ensures _ c.earlier.ensures (ap not c.if-not-earlier.false))

pub returns-then-not-makes : goal.returns-then-not-makes
returns-then-not-makes c =
    fits_folds _ _ _ c.row-node.ensures _ c.earlier.ensures (ap not c.if-not-earlier.false) _ _ c.plan_in.ensures
    c.makes.ensures (ap not c.if-not-makes.true)

pub none_equal-requires : goal.none_equal-requires
none_equal-requires c =
    let q = c.row-node.ensures in
    let l = ap not c.if-not-earlier.false in
    record {
      among = c.requires.among;
      before = c.requires.fit_before;
      below = rw q at (fits_below _ _ _ q _ c.earlier.ensures l);
      made = fits-made _ _ _ q _ c.earlier.ensures l _ _ c.plan_in.ensures c.makes.ensures (ap not c.if-not-makes.false);
      larger = c.last_operand.ensures ∙ ap last_of q;
    }

pub returns : goal.returns
returns c =
    fits-found _ _ _ c.row-node.ensures _ c.earlier.ensures (ap not c.if-not-earlier.false) _ _ c.plan_in.ensures
    c.makes.ensures (ap not c.if-not-makes.false) _ c.none_equal.ensures
