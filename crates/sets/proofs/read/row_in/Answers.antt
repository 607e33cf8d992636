use mathlib.Core.Path.{◌∙◌}
use Rattle.base.specs.Answers.{shape_of}
use Rattle.sets.specs.Spelt.{row-leaf, placed}
use native.Mathlib.Omega.{arith}
use Rattle.sets.proofs.read.row_in.Goals as goal

pub returns-then-at-leaves : goal.returns-then-at-leaves
returns-then-at-leaves c = row-leaf _ (shape_of c.args.shape) _ (omega (arith, c.cells-leaves.ensures, c.if-at-leaves.true))

pub returns : goal.returns
returns c =
    let e = c.cells-leaves.ensures in
    c.node_in.ensures ∙ placed _ (shape_of c.args.shape) _ _ _ e c.row_place.ensures c.if-at-leaves.false
