-- `all_are`: whether what was looked at so far is all x.
use Rattle.std.proofs.Common.{◌≡◌, take}
use Rattle.harness.specs.Lent.{all_are}
use Rattle.harness.proofs.lent.all_are.Given as goal

abbrev pub invariant-loop-y : goal.invariant-loop-y
invariant-loop-y g l = l.same ≡ all_are g.T.PartialEq.eq l.x (take l.y-index l.s)
