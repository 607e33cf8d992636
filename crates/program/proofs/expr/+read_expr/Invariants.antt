-- The measure of `read_expr` is what is left up to `stop`, which each operand lowers.
use Rattle.std.proofs.Common.{◌-◌}
use Rattle.program.proofs.expr.+read_expr.Given as goal

abbrev pub decreases-read_expr : goal.decreases-read_expr
decreases-read_expr l = l.stop - l.at
