-- `put_leaves` meets its contract: one constant or cell more a turn.
use native.Mathlib.Omega.{arith}
use Rattle.laws.specs.Rows.{length-base}
use Rattle.laws.specs.Rule.{base-canonical}
use Rattle.base.specs.Answers.{passed}
use Rattle.rows.specs.Stored.{filling_next, filling_over, filling_all}
use Rattle.build.proofs.put_leaves.Goals as goal

pub returns-in_err-append-clause-holds : goal.returns-in_err-append-clause-holds
returns-in_err-append-clause-holds c =
    rw (passed c.from_residual.ensures.1)
    (filling_over c.loop-i.invariant (omega (arith, c.loop-i-test.true, length-base c.args.cells)) c.in_err-append.ensures.appends)

pub loop-i-preserved : goal.loop-i-preserved
loop-i-preserved c =
    let C = c.args.cells in
    let k = c.in_ok-append.ensures in
    filling_next c.loop-i.invariant (omega (arith, c.loop-i-test.true, length-base C))
    (rw ((base-canonical C).leaf-at _ c.loop-i-test.true) c.entry_of.ensures) k.kept k.appends

pub returns-clause-holds : goal.returns-clause-holds
returns-clause-holds c = filling_all c.loop-i.invariant (omega (arith, length-base c.args.cells))
