-- The measure of `add_expression` is what is left up to `stop`, which each operand lowers.
use Rattle.std.proofs.Common.{◌-◌}
use Rattle.spell.proofs.expression.+add_expression.Given as goal

abbrev pub decreases-add_expression : goal.decreases-add_expression
decreases-add_expression l = l.stop - l.at
