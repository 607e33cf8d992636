-- `reach::mark::mark_reached`: each turn goes through one row, the last first.
use Rattle.rows.specs.Entries.{table_in}
use Rattle.reach.specs.Marks.{Marking}
use Rattle.reach.proofs.mark.mark_reached.Given as goal

abbrev pub invariant-loop-k : goal.invariant-loop-k
invariant-loop-k l = Marking (table_in l.rows l.used) l.heads l.k l.numbers
