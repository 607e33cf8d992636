-- `put_leaves` meets its contract: one constant or cell more a turn.
use Rattle.rules.specs.Rows.{base}
use Rattle.rows.specs.Stored.{Filling}
use Rattle.build.proofs.put_leaves.Given as goal

abbrev pub invariant-loop-i : goal.invariant-loop-i
invariant-loop-i l = Filling (base l.cells) l.initial.table l.table l.i
