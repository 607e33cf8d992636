-- `carry_rows` meets its contract: one row more a turn.
use Rattle.table.specs.Append.{Kept}
use Rattle.carry.specs.Carrying.{Carrying}
use Rattle.carry.proofs.carry_rows.Given as goal

abbrev pub invariant-loop-j : goal.invariant-loop-j
invariant-loop-j l = Kept l.initial.table l.table × Carrying l.first l.second l.shape l.table l.numbers l.j
