use Rattle.laws.specs.Lists.{Searching}
use Rattle.sets.specs.Judging.{bad_head}
use Rattle.sets.proofs.check.first_bad_head.Given as goal

abbrev pub invariant-loop-c : goal.invariant-loop-c
invariant-loop-c l = Searching (bad_head l.set) l.initial.c l.c
