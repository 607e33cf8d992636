-- `reach::mark::mark_heads`: each turn marks one head.
use Rattle.std.proofs.Common.{◌≡◌, take}
use Rattle.reach.specs.Marks.{mark_all}
use Rattle.reach.proofs.mark.mark_heads.Given as goal

abbrev pub invariant-loop-head : goal.invariant-loop-head
invariant-loop-head l = l.numbers ≡ mark_all (take l.head-index l.heads) l.initial.numbers
