-- `writer::put::put_rows`: each turn writes what is kept of one row.
use Rattle.writer.specs.Kept.{Rowing}
use Rattle.writer.proofs.put.put_rows.Given as goal

abbrev pub invariant-loop-k : goal.invariant-loop-k
invariant-loop-k l = Rowing l.rows l.numbers l.leaves l.at l.initial.out l.out l.to l.k
