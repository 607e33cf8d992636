-- `lines::set::put_cell_lines`: each turn puts the line of one cell.
use Rattle.std.specs.Prelude.{◌≡◌}
use Rattle.sets.specs.Judging.{spells}
use Rattle.text.specs.Puts.{with_word}
use Rattle.lines.specs.Sets.{cell_texts}
use Rattle.lines.proofs.set.put_cell_lines.Given as goal

abbrev pub invariant-loop-c : goal.invariant-loop-c
invariant-loop-c l = l.text ≡ with_word l.initial.text (cell_texts (spells l.set) l.c)
