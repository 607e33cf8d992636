use Rattle.std.proofs.Common.{◌∙◌}
use Rattle.lines.specs.Answer.{built-tset}
use Rattle.tset.proofs.print_file.Goals as goal

pub returns-clause-text_after : goal.returns-clause-text_after
returns-clause-text_after c = c.print_built.ensures.text_after ∙ built-tset _ c.requires.0
