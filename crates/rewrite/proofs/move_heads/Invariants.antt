-- `move_heads` meets its contract: one head more a turn.
use Rattle.std.proofs.Common.{◌≡◌, map, get_or, take}
use Rattle.rewrite.proofs.move_heads.Given as goal

abbrev pub invariant-loop-c : goal.invariant-loop-c
invariant-loop-c l = take l.c l.made ≡ take l.c (map (λ h. get_or l.numbers h 0) l.y)
