-- `build_turns` meets its contract: one turn more.
use Rattle.table.specs.Append.{Kept}
use Rattle.turn.specs.Turning.{Building}
use Rattle.turns.proofs.build_turns.Given as goal

abbrev pub invariant-loop-i : goal.invariant-loop-i
invariant-loop-i l = Kept l.initial.table l.table × Building l.file l.shape l.n l.table l.heads l.i
