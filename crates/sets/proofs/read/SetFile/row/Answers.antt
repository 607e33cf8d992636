use mathlib.Core.Path.{sym, ◌∙◌}
use Rattle.base.specs.Answers.{shape_of}
use Rattle.sets.specs.Spelt.{rows_in, spelt-row}
use Rattle.sets.proofs.read.SetFile.row.Goals as goal

pub returns : goal.returns
returns c =
    let s = c.args.self.now in
    c.row_in.ensures ∙ sym (spelt-row s.file.now (shape_of s.shape) (rows_in s.file.now) _ c.requires)
