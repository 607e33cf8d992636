-- `check_end` meets its contract: a law for each answer.
use mathlib.Core.Path.{ap, ◌∙◌}
use native.Mathlib.Omega.{arith}
use Rattle.program.specs.Stages.{is_end_body}
use Rattle.program.specs.Rest.{closed-more, closed_other, closed_end}
use mathlib.Core.Bool.{not}
use Rattle.program.proofs.walk.check_end.Goals as goal

pub returns-then-at-file : goal.returns-then-at-file
returns-then-at-file c = closed-more _ _ _ c.if-at-file.true

pub returns-then-not-is_end : goal.returns-then-not-is_end
returns-then-not-is_end c =
    closed_other _ _ _ (omega arith) _ (rw c.of_word.ensures at c.body_at-last.ensures.0) _
    (c.is_end.ensures ∙ ap is_end_body c.decode.ensures) (ap not c.if-not-is_end.true)

pub returns : goal.returns
returns c =
    closed_end _ _ _ (omega arith) _ (rw c.of_word.ensures at c.body_at-last.ensures.0) _
    (c.is_end.ensures ∙ ap is_end_body c.decode.ensures) (ap not c.if-not-is_end.false)
