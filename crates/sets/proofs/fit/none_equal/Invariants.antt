use Prim.Native.Nat.{◌+◌, ◌*◌}
use Rattle.laws.specs.Lists.{Searching}
use Rattle.sets.specs.Judging.{same_at}
use Rattle.sets.proofs.fit.none_equal.Given as goal

abbrev pub invariant-loop-j : goal.invariant-loop-j
invariant-loop-j l = Searching (λ i. same_at l.set.file.now (l.first + 5 * i) l.at) l.initial.j l.j
