-- `move_heads` meets its contract: one head more a turn.
use Rattle.std.proofs.Common.{◌≡◌, take}
use Rattle.carry.specs.Carrying.{new_heads}
use Rattle.carry.proofs.move_heads.Given as goal

abbrev pub invariant-loop-c : goal.invariant-loop-c
invariant-loop-c l = take l.c l.heads ≡ take l.c (new_heads l.first l.second l.shape l.numbers)
