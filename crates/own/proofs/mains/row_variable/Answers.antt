-- `row_variable` meets its contract.
use Rattle.base.specs.Answers.{passed}
use Rattle.own.specs.Mains.{row-store, row-set, rise_full, rise_addable, row_rise, fall_full, fall_addable, row_fall}
use Rattle.own.proofs.mains.row_variable.Goals as goal

pub returns-in-Store-clause-made : goal.returns-in-Store-clause-made
returns-in-Store-clause-made c =
    rw c.in-Store.is
    (row-store c.requires.given _ c.flag.ensures _ c.of_cell-x.ensures c.args.b.0 c.requires.variable _ c.of_cell-y.ensures)

pub returns-in-Set-clause-made : goal.returns-in-Set-clause-made
returns-in-Set-clause-made c =
    rw c.in-Set.is
    (row-set c.requires.given _ c.flag.ensures _ c.of_cell-x.ensures c.args.b.0 c.requires.variable _ c.of_cell-y.ensures _ _
    c.add.ensures.adds)

pub returns-in_err-not-in-Res-clause-made : goal.returns-in_err-not-in-Res-clause-made
returns-in_err-not-in-Res-clause-made c =
    rw (passed c.from_residual.ensures.1)
    (fall_full c.requires.given _ c.flag.ensures _ c.of_cell-x.ensures c.args.b.0 c.requires.variable _ c.of_cell-y.ensures _
    c.in-Res.is _ _ c.in_err-not-in-Res.ensures.adds)

pub add-requires-in-Res-2 : goal.add-requires-in-Res-2
add-requires-in-Res-2 c =
    fall_addable c.requires.given _ c.flag.ensures _ c.of_cell-x.ensures c.args.b.0 c.requires.variable _ c.of_cell-y.ensures _
    c.in-Res.is c.in_ok-not-in-Res.ensures.adds _

pub returns-in_ok-not-in-Res-clause-made : goal.returns-in_ok-not-in-Res-clause-made
returns-in_ok-not-in-Res-clause-made c =
    row_fall c.requires.given _ c.flag.ensures _ c.of_cell-x.ensures c.args.b.0 c.requires.variable _ c.of_cell-y.ensures _
    c.in-Res.is c.in_ok-not-in-Res.ensures.adds c.in_ok-not-in-Res.ensures.kept _ _ c.add-in-Res-2.ensures.adds

pub returns-in_err-not-in-Redge-clause-made : goal.returns-in_err-not-in-Redge-clause-made
returns-in_err-not-in-Redge-clause-made c =
    rw (passed c.from_residual-in_err-not-in-Redge.ensures.1, c.in-Redge.is)
    (rise_full c.requires.given _ c.flag.ensures _ c.of_cell-x.ensures c.args.b.0 c.requires.variable _ c.of_cell-y.ensures _ _
    c.in_err-not-in-Redge.ensures.adds)

pub add-requires-in-Redge-2 : goal.add-requires-in-Redge-2
add-requires-in-Redge-2 c =
    rise_addable c.requires.given _ c.flag.ensures _ c.of_cell-x.ensures c.args.b.0 c.requires.variable _ c.of_cell-y.ensures
    c.in_ok-not-in-Redge.ensures.adds _

pub returns-in_ok-not-in-Redge-clause-made : goal.returns-in_ok-not-in-Redge-clause-made
returns-in_ok-not-in-Redge-clause-made c =
    rw c.in-Redge.is
    (row_rise c.requires.given _ c.flag.ensures _ c.of_cell-x.ensures c.args.b.0 c.requires.variable _ c.of_cell-y.ensures
    c.in_ok-not-in-Redge.ensures.adds c.in_ok-not-in-Redge.ensures.kept _ _ c.add-in-Redge-2.ensures.adds)
