-- `carry_row` meets its contract.
use Rattle.base.specs.Answers.{passed}
use Rattle.carry.specs.CarryLaws.{row-place, row-known, new-addable, carrying-more, carrying-full}
use Rattle.carry.proofs.carry_row.Goals as goal

pub renumber-requires : goal.renumber-requires
renumber-requires c =
    row-known _ _ _ c.requires.0.pair _ _ _ c.requires.0 c.requires.1 c.row_in-node.result (row-place _ _ _
    c.requires.0.pair _ c.requires.1 _ c.cells.ensures c.row_in-node.result
    c.row_in-node.ensures)

pub add-requires : goal.add-requires
add-requires c =
    new-addable _ _ _ c.requires.0.pair _ _ _ c.requires.0 c.requires.1 c.row_in-node.result
    (row-place _ _ _ c.requires.0.pair _ c.requires.1 _ c.cells.ensures c.row_in-node.result c.row_in-node.ensures)
    c.renumber.result c.renumber.ensures

pub returns-in_err-row-clause-carries : goal.returns-in_err-row-clause-carries
returns-in_err-row-clause-carries c =
    rw (passed c.from_residual.ensures.1)
    (carrying-full _ _ _ c.requires.0.pair _ _ _ c.requires.0 c.requires.1 c.row_in-node.result
    (row-place _ _ _ c.requires.0.pair _ c.requires.1 _ c.cells.ensures c.row_in-node.result c.row_in-node.ensures)
    c.renumber.result c.renumber.ensures _ _ c.in_err-row.ensures.adds)

pub returns-clause-carries : goal.returns-clause-carries
returns-clause-carries c =
    carrying-more _ _ _ c.requires.0.pair _ _ _ c.requires.0 c.requires.1 c.row_in-node.result
    (row-place _ _ _ c.requires.0.pair _ c.requires.1 _ c.cells.ensures c.row_in-node.result c.row_in-node.ensures)
    c.renumber.result c.renumber.ensures _ _ c.in_ok-row.ensures.adds
