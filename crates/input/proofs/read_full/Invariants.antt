-- `input::read_full`: no more came than was lent; the measure is the room that is left.
use Rattle.std.proofs.Common.{length, ◌-◌, ◌≤◌}
use Rattle.input.proofs.read_full.Given as goal

abbrev pub invariant-loop-done : goal.invariant-loop-done
invariant-loop-done g l = l.done ≤ length l.lent

abbrev pub decreases-loop-done : goal.decreases-loop-done
decreases-loop-done g l = length l.initial.lent - l.done
