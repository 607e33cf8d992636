-- The measure of `run_from` is how many instructions are ahead.
use Rattle.std.proofs.Common.{◌-◌}
use Rattle.machine.proofs.run.+run_from.Given as goal

abbrev pub decreases-run_from : goal.decreases-run_from
decreases-run_from l = l.program.now.count - l.i.0
