use mathlib.Core.Path.{sym, ◌∙◌}
use Rattle.base.specs.Answers.{shape_of}
use Rattle.sets.specs.Spelt.{rows_in, spelt-head}
use Rattle.sets.proofs.read.SetFile.head.Goals as goal

pub returns : goal.returns
returns c =
    let s = c.args.self.now in
    c.head_in.ensures ∙ sym (spelt-head s.file.now (shape_of s.shape) (rows_in s.file.now) _ c.requires)
