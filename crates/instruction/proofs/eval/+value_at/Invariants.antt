-- The measure of `value_at` is what is left up to `stop`, which each operand lowers.
use Rattle.std.proofs.Common.{◌-◌}
use Rattle.instruction.proofs.eval.+value_at.Given as goal

abbrev pub decreases-value_at : goal.decreases-value_at
decreases-value_at l = l.stop - l.at
