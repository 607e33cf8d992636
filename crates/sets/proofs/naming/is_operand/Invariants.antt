use Prim.Native.Nat.{◌+◌, ◌*◌}
use Rattle.rules.specs.SetFile.{row_in}
use Rattle.rules.specs.Sets.{operands}
use Rattle.rules.specs.Lists.{elem}
use Rattle.laws.specs.Lists.{Searching}
use Rattle.sets.proofs.naming.is_operand.Given as goal

abbrev pub invariant-loop-j : goal.invariant-loop-j
invariant-loop-j l = Searching (λ j'. elem l.k.0 (operands (row_in l.set.file.now (l.first + 5 * j')))) l.initial.j l.j
