-- `settle` meets its contract: the row stands, or it is appended, or no row is left.
use mathlib.Core.Path.{refl}
use native.Mathlib.Omega.{arith}
use Rattle.laws.specs.Search.{last-low}
use Rattle.base.specs.Answers.{passed}
use Rattle.rows.specs.Entries.{node_row}
use Rattle.rows.specs.Adding.{settle-stood, settle-append, settle-full}
use Rattle.rows.proofs.adding.settle.Goals as goal

pub find_entry-at-requires : goal.find_entry-at-requires
find_entry-at-requires c =
    let p = c.requires in (
      omega (arith, last-low _ (node_row c.args.node) p.ready, c.last_operand-last.ensures),
      rw c.rows.ensures (omega (arith, p.held)),
    )

pub returns-then-at-used-clause-settles : goal.returns-then-at-used-clause-settles
returns-then-at-used-clause-settles c =
    settle-stood c.args.table.now c.args.node _ _ _ c.entry_of-entry.ensures c.last_operand-last.ensures
    (rw (c.rows.ensures, c.used-used.ensures) at c.find_entry-at.ensures.0) (omega (arith, c.if-at-used.true)) _ refl

pub returns-in_err-append-clause-settles : goal.returns-in_err-append-clause-settles
returns-in_err-append-clause-settles c =
    rw (passed c.from_residual.ensures.1)
    (settle-full _ c.args.node _ _ _ c.entry_of-entry.ensures c.last_operand-last.ensures
    (rw (c.rows.ensures, c.used-used.ensures) at c.find_entry-at.ensures.0) (omega (arith, c.if-at-used.false)) _
    c.in_err-append.ensures.appends)

pub returns-clause-settles : goal.returns-clause-settles
returns-clause-settles c =
    settle-append _ c.args.node _ _ _ c.entry_of-entry.ensures c.last_operand-last.ensures
    (rw (c.rows.ensures, c.used-used.ensures) at c.find_entry-at.ensures.0) (omega (arith, c.if-at-used.false)) c.in_ok-append.ensures.appends _ refl
