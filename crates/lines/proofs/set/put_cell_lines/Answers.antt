use Rattle.std.proofs.Common.{arith}
use Rattle.text.specs.Puts.{words}
use Rattle.rules.specs.Shape.{cells}
use Rattle.base.specs.Answers.{shape_of}
use Rattle.sets.specs.Judging.{spells}
use Rattle.lines.specs.Sets.{cell_text, lines_within}
use Rattle.lines.proofs.set.put_cell_lines.Goals as goal

pub put_cell_of-requires-clause-fits : goal.put_cell_of-requires-clause-fits
put_cell_of-requires-clause-fits c =
    let set = c.args.set.now in
    grind (arith, words, lines_within (cell_text (spells set)) 0 c.loop-c.c (cells (shape_of set.shape)) (omega arith))
