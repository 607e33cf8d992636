-- `instr_at` meets its contract: its place is where its entry leads.
use mathlib.Core.Path.{ap, ◌∙◌}
use Rattle.reader.specs.Bodies.{body_in}
use Rattle.program.proofs.body.instr_at.Goals as goal

pub returns : goal.returns
returns c = c.decode.ensures ∙ ap (body_in _) c.body_at.ensures.0
