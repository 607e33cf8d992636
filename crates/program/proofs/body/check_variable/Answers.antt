-- `check_variable` meets its contract: a law for each answer.
use native.Mathlib.Omega.{arith}
use Rattle.program.specs.Body.{variable_short, variable_refused, variable_read}
use Rattle.std.proofs.Common.{ap}
use mathlib.Core.Bool.{not}
use Rattle.program.proofs.body.check_variable.Goals as goal

pub returns-then-file-at : goal.returns-then-file-at
returns-then-file-at c = variable_short _ _ _ c.if-file-at.true

pub returns-then-not-may_write : goal.returns-then-not-may_write
returns-then-not-may_write c = variable_refused _ _ _ _ _ (omega arith) c.requires c.may_write.ensures (ap not c.if-not-may_write.true)

pub returns : goal.returns
returns c = variable_read _ _ _ _ _ (omega arith) c.requires c.may_write.ensures (ap not c.if-not-may_write.false)
