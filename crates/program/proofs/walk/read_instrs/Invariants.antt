use Rattle.base.specs.Answers.{shape_of}
use Rattle.program.specs.Walk.{Reached}
use Rattle.program.proofs.walk.read_instrs.Given as goal

abbrev pub invariant-loop-i : goal.invariant-loop-i
invariant-loop-i l = Reached l.file (shape_of l.shape) l.n l.i l.at
