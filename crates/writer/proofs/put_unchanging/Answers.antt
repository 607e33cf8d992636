use Rattle.base.specs.Answers.{shape_of}
use Rattle.writer.specs.Write.{own_short, own-whole, shape-small}
use native.Mathlib.Omega.{arith}
use Rattle.writer.proofs.put_unchanging.Goals as goal

pub returns-then-out-length : goal.returns-then-out-length
returns-then-out-length c = own_short _ _ c.cells-cells.ensures _ c.if-out-length.true

pub put_header-requires : goal.put_header-requires
put_header-requires c = (omega arith, (shape-small (shape_of c.args.shape) c.requires).0)

pub put_own_heads-requires : goal.put_own_heads-requires
put_own_heads-requires c = (omega arith, omega (arith, (shape-small (shape_of c.args.shape) c.requires).1, c.cells-cells.ensures))

pub returns : goal.returns
returns c = own-whole _ _ c.cells-cells.ensures _ c.if-out-length.false _ _ c.put_header.ensures c.put_own_heads.ensures
