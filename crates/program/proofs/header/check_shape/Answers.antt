-- `check_shape` meets its contract: the depth, then the variables.
use Rattle.base.specs.Answers.{shape_of}
use Rattle.program.specs.Header.{shape-depth, shape-vars, shape-kept}
use Rattle.std.proofs.Common.{ap}
use mathlib.Core.Bool.{not}
use Rattle.program.proofs.header.check_shape.Goals as goal

pub returns-then-not-within : goal.returns-then-not-within
returns-then-not-within c = shape-depth (shape_of c.args.shape) _ c.within.ensures (ap not c.if-not-within.true)

pub returns-then-not-within-2 : goal.returns-then-not-within-2
returns-then-not-within-2 c =
    shape-vars (shape_of c.args.shape) _ c.within.ensures (ap not c.if-not-within.false) _ _
    c.vars.ensures c.within-2.ensures (ap not c.if-not-within-2.true)

pub returns : goal.returns
returns c =
    shape-kept (shape_of c.args.shape) _ c.within.ensures (ap not c.if-not-within.false) _ _
    c.vars.ensures c.within-2.ensures (ap not c.if-not-within-2.false)
