-- `copy_rows` meets its contract: one row more a turn.
use Rattle.rows.specs.Stored.{Filling}
use Rattle.sets.specs.Spelt.{set_in}
use Rattle.carry.proofs.copy_rows.Given as goal

abbrev pub invariant-loop-i : goal.invariant-loop-i
invariant-loop-i l = Filling (set_in l.file).tab l.initial.table l.table l.i
