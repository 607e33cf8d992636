-- `lines::set::put_row_lines`: each turn puts the line of one row.
use Rattle.std.specs.Prelude.{◌≡◌}
use Rattle.rules.specs.SetFile as SetFile
use Rattle.base.specs.Answers.{shape_of}
use Rattle.sets.specs.Judging.{spells}
use Rattle.text.specs.Puts.{with_word}
use Rattle.lines.specs.Sets.{row_texts}
use Rattle.lines.proofs.set.put_row_lines.Given as goal

abbrev pub invariant-loop-j : goal.invariant-loop-j
invariant-loop-j l = l.text ≡ with_word l.initial.text (row_texts (spells l.set) (SetFile.leaves (shape_of l.set.shape)) l.j)
