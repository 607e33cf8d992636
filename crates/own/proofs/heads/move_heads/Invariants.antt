-- `move_heads` meets its contract: one head more a turn.
use Rattle.std.proofs.Common.{◌≡◌, take}
use Rattle.base.specs.Answers.{shape_of}
use Rattle.own.specs.Changes.{moved_heads}
use Rattle.own.proofs.heads.move_heads.Given as goal

abbrev pub invariant-loop-c : goal.invariant-loop-c
invariant-loop-c l = take l.c l.made ≡ take l.c (moved_heads (shape_of l.shape) l.stack)
