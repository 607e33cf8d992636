use Rattle.laws.specs.Lists.{Searching}
use Rattle.sets.specs.Judging.{unnamed}
use Rattle.sets.proofs.check.first_unnamed.Given as goal

abbrev pub invariant-loop-j : goal.invariant-loop-j
invariant-loop-j l = Searching (unnamed l.set) l.initial.j l.j
