-- `check_label` meets its contract: a law for each answer.
use native.Mathlib.Omega.{arith}
use Rattle.program.specs.Body.{label_short, label_refused, label_read}
use Rattle.std.proofs.Common.{ap}
use mathlib.Core.Bool.{not}
use Rattle.program.proofs.body.check_label.Goals as goal

pub returns-then-file-at : goal.returns-then-file-at
returns-then-file-at c = label_short _ _ _ _ c.if-file-at.true

pub returns-then-not-may_jump : goal.returns-then-not-may_jump
returns-then-not-may_jump c = label_refused _ _ _ _ _ _ (omega arith) c.requires.0 c.may_jump.ensures (ap not c.if-not-may_jump.true)

pub returns : goal.returns
returns c = label_read _ _ _ _ _ _ (omega arith) c.requires.0 c.may_jump.ensures (ap not c.if-not-may_jump.false)
