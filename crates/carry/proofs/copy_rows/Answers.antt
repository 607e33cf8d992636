-- `copy_rows` meets its contract: one row more a turn.
use mathlib.Core.Path.{◌∙◌}
use native.Mathlib.Omega.{arith}
use Rattle.base.specs.Answers.{passed}
use Rattle.rows.specs.Stored.{filling_next, filling_over}
use Rattle.carry.specs.Copying.{copied-room, copied-inside, copied-row}
use Rattle.carry.proofs.copy_rows.Goals as goal

pub row_in-requires : goal.row_in-requires
row_in-requires c = copied-inside _ _ _ _ c.requires _ c.loop-i-test.true

pub returns-in_err-append-clause-holds : goal.returns-in_err-append-clause-holds
returns-in_err-append-clause-holds c =
    rw (passed c.from_residual.ensures.1)
    (filling_over c.loop-i.invariant (omega (arith, c.loop-i-test.true, c.requires.whole)) c.in_err-append.ensures.appends)

pub returns-in_err-append-clause-room : goal.returns-in_err-append-clause-room
returns-in_err-append-clause-room c h =
    let o = filling_over c.loop-i.invariant (omega (arith, c.loop-i-test.true, c.requires.whole)) c.in_err-append.ensures.appends in
    absurd (omega (arith, copied-room _ _ _ _ c.requires h, o.more, c.requires.whole))

pub loop-i-preserved : goal.loop-i-preserved
loop-i-preserved c =
    filling_next c.loop-i.invariant (omega (arith, c.loop-i-test.true, c.requires.whole))
    (rw (c.row_in.ensures ∙ copied-row _ _ _ _ c.requires _ c.loop-i-test.true) at c.entry_of.ensures)
    c.in_ok-append.ensures.kept c.in_ok-append.ensures.appends
