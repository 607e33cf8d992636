use Rattle.std.proofs.Common.{arith}
use Rattle.text.specs.Puts.{words}
use Rattle.rules.specs.SetFile.{leaves}
use Rattle.base.specs.Answers.{shape_of}
use Rattle.sets.specs.Spelt.{rows_in}
use Rattle.sets.specs.Judging.{spells}
use Rattle.lines.specs.Sets.{row_text, lines_within}
use Rattle.lines.proofs.set.put_row_lines.Goals as goal

pub put_row_of-requires-clause-fits : goal.put_row_of-requires-clause-fits
put_row_of-requires-clause-fits c =
    let set = c.args.set.now in
    grind (arith, words, lines_within (row_text (spells set)) (leaves (shape_of set.shape)) c.loop-j.j (rows_in set.file.now) (omega arith))
