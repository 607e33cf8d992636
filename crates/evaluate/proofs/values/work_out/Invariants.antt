-- `work_out` meets its contract: one value more a turn.
use Rattle.evaluate.specs.Values.{Valued}
use Rattle.evaluate.proofs.values.work_out.Given as goal

abbrev pub invariant-loop-i : goal.invariant-loop-i
invariant-loop-i l = Valued l.set l.storage l.values l.i
