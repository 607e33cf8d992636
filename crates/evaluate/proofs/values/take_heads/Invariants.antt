-- `take_heads` meets its contract: one cell more a turn.
use Rattle.storage.specs.Moves.{Replacing}
use Rattle.evaluate.specs.Values.{evaluated_bytes}
use Rattle.evaluate.proofs.values.take_heads.Given as goal

abbrev pub invariant-loop-c : goal.invariant-loop-c
invariant-loop-c l = Replacing l.initial.storage 0 (evaluated_bytes l.set l.initial.storage) l.storage l.c
