use lib.Dec.{eqb}
use lib.ListN.{get_or}
use Rattle.laws.specs.Lists.{Searching}
use Rattle.sets.specs.Judging.{spells}
use Rattle.sets.proofs.naming.is_head.Given as goal

abbrev pub invariant-loop-c : goal.invariant-loop-c
invariant-loop-c l = Searching (λ c'. eqb l.k.0 (get_or (spells l.set).heads c' 0)) l.initial.c l.c
