use Rattle.laws.specs.Lists.{Searching}
use Rattle.sets.specs.Judging.{unfit}
use Rattle.sets.proofs.check.first_unfit.Given as goal

abbrev pub invariant-loop-j : goal.invariant-loop-j
invariant-loop-j l = Searching (unfit l.set) l.initial.j l.j
