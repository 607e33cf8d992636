use Rattle.build.specs.Answer.{rows_short, numbers_short, heads_short}
use Rattle.program.specs.Standing.{header-there, standing}
use native.Mathlib.Omega.{arith}
use Rattle.build.proofs.build_accepted.Goals as goal

pub shape_at-shape-requires : goal.shape_at-shape-requires
shape_at-shape-requires c = header-there _ c.requires

pub word-n-requires : goal.word-n-requires
word-n-requires c = omega (arith, header-there _ c.requires)

pub returns-then-rows-cells : goal.returns-then-rows-cells
returns-then-rows-cells c =
    let s = standing _ c.requires c.shape_at-shape.result c.shape_at-shape.ensures _ c.word-n.ensures.0 in
    rows_short _ _ _ _ _ _ _ s (omega (arith, c.if-rows-cells.true, c.cells-cells.ensures))

pub returns-then-numbers-room_in : goal.returns-then-numbers-room_in
returns-then-numbers-room_in c =
    let s = standing _ c.requires c.shape_at-shape.result c.shape_at-shape.ensures _ c.word-n.ensures.0 in
    numbers_short _ _ _ _ _ _ _ s (omega (arith, c.if-rows-cells.false, c.cells-cells.ensures)) (omega (arith, c.if-numbers-room_in.true, c.room_in.ensures))

pub returns-then-heads-n : goal.returns-then-heads-n
returns-then-heads-n c =
    let s = standing _ c.requires c.shape_at-shape.result c.shape_at-shape.ensures _ c.word-n.ensures.0 in
    heads_short _ _ _ _ _ _ _ s (omega (arith, c.if-rows-cells.false, c.cells-cells.ensures)) (omega (arith, c.if-numbers-room_in.false, c.room_in.ensures))
    (rw c.cells-cells.ensures at c.if-heads-n.true)

pub build_program-requires : goal.build_program-requires
build_program-requires c =
    let s = standing _ c.requires c.shape_at-shape.result c.shape_at-shape.ensures _ c.word-n.ensures.0 in
    record {
      standing = s;
      rows_lent = omega (arith, c.if-rows-cells.false, c.cells-cells.ensures);
      numbers_lent = omega (arith, c.if-numbers-room_in.false, c.room_in.ensures);
      heads_lent = rw c.cells-cells.ensures at c.if-heads-n.false;
    }
