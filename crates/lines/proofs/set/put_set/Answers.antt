use Rattle.std.proofs.Common.{arith}
use Rattle.text.specs.Puts.{words}
use Rattle.lines.specs.Sets.{accepted_parts}
use Rattle.lines.proofs.set.put_set.Goals as goal

pub put_first_line-requires : goal.put_first_line-requires
put_first_line-requires c =
    grind (arith, words, accepted_parts c.accepted-set.result _ c.accepted-set.ensures)

pub put_cell_lines-requires : goal.put_cell_lines-requires
put_cell_lines-requires c =
    grind (arith, words, accepted_parts c.accepted-set.result _ c.accepted-set.ensures)

pub put_row_lines-requires : goal.put_row_lines-requires
put_row_lines-requires c =
    grind (arith, words, accepted_parts c.accepted-set.result _ c.accepted-set.ensures)
