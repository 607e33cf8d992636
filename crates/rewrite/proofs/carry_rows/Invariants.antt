-- `carry_rows` meets its contract: one row more a turn.
use Rattle.table.specs.Append.{Kept}
use Rattle.rewrite.specs.Carrying.{Start, Carrying}
use Rattle.rewrite.proofs.carry_rows.Given as goal

abbrev pub invariant-loop-k : goal.invariant-loop-k
invariant-loop-k l = Kept l.initial.table l.table
    × ((w : Start l.x l.initial.table l.initial.numbers) → Carrying w.both l.table l.numbers l.k)
