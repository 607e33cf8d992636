-- `row_value` meets its contract.
use Rattle.base.specs.Answers.{passed}
use Rattle.own.specs.Mains.{value_full, value-addable, row-and, row-or, row-load}
use Rattle.own.proofs.mains.row_value.Goals as goal

pub returns-in_err-grown-clause-made : goal.returns-in_err-grown-clause-made
returns-in_err-grown-clause-made c =
    rw (passed c.from_residual.ensures.1)
    (value_full c.requires.given _ c.flag.ensures _ c.of_cell-x.ensures _ _ _ _ c.vars.ensures c.requires.expression.1
    c.args.code c.in_err-grown.ensures.spells)

pub add-requires : goal.add-requires
add-requires c =
    value-addable c.requires.given _ c.flag.ensures _ c.of_cell-x.ensures _ _ _ _ c.vars.ensures c.requires.expression.1
    c.in_ok-grown.ensures.spells _

pub add-requires-in-Or : goal.add-requires-in-Or
add-requires-in-Or c =
    value-addable c.requires.given _ c.flag.ensures _ c.of_cell-x.ensures _ _ _ _ c.vars.ensures c.requires.expression.1
    c.in_ok-grown.ensures.spells _

pub returns-in-Load-clause-made : goal.returns-in-Load-clause-made
returns-in-Load-clause-made c =
    row-load c.requires.given _ c.flag.ensures _ c.of_cell-x.ensures _ _ _ _ c.vars.ensures c.requires.expression.1
    c.in_ok-grown.ensures.spells _ c.in-Load.is

pub returns-in-And-clause-made : goal.returns-in-And-clause-made
returns-in-And-clause-made c =
    rw c.in-And.is
    (row-and c.requires.given _ c.flag.ensures _ c.of_cell-x.ensures _ _ _ _ c.vars.ensures c.requires.expression.1
    c.in_ok-grown.ensures.spells c.in_ok-grown.ensures.kept _ _ c.add.ensures.adds)

pub returns-in-Or-clause-made : goal.returns-in-Or-clause-made
returns-in-Or-clause-made c =
    rw c.in-Or.is
    (row-or c.requires.given _ c.flag.ensures _ c.of_cell-x.ensures _ _ _ _ c.vars.ensures c.requires.expression.1
    c.in_ok-grown.ensures.spells c.in_ok-grown.ensures.kept _ _ c.add-in-Or.ensures.adds)
