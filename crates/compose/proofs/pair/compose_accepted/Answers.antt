-- `compose_accepted` meets its contract: shapes, then room.
use native.Mathlib.Omega.{arith}
use Rattle.sets.specs.Spelt.{taken-header}
use Rattle.sets.specs.Spelt.{total_is}
use Rattle.compose.specs.Answer.{shapes_differ, paired, rows_short, numbers_short}
use Rattle.std.proofs.Common.{ap}
use mathlib.Core.Bool.{not}
use Rattle.compose.proofs.pair.compose_accepted.Goals as goal

pub shape_at-shape-requires : goal.shape_at-shape-requires
shape_at-shape-requires c = taken-header _ c.requires.0

pub shape_at-requires : goal.shape_at-requires
shape_at-requires c = taken-header _ c.requires.1

pub returns-then-not-same_shape : goal.returns-then-not-same_shape
returns-then-not-same_shape c =
    shapes_differ _ _ _ _ _ c.requires.0 c.requires.1 c.shape_at-shape.result c.shape_at.result
    c.shape_at-shape.ensures c.shape_at.ensures _ c.same_shape.ensures (ap not c.if-not-same_shape.true)

pub word-requires : goal.word-requires
word-requires c = omega (arith, taken-header _ c.requires.0)

pub returns-then-rows-total : goal.returns-then-rows-total
returns-then-rows-total c =
    rows_short _ _ _ _ _ c.requires.0 c.requires.1 (paired _ _ c.requires.0 c.requires.1 c.shape_at-shape.result
    c.shape_at.result c.shape_at-shape.ensures c.shape_at.ensures _ c.same_shape.ensures (ap not c.if-not-same_shape.false)).same (omega (
      arith,
      total_is _ c.shape_at-shape.result _ _ c.shape_at-shape.ensures c.cells.ensures
          c.word.ensures.0,
      c.if-rows-total.true,
    ))

pub word-requires-2 : goal.word-requires-2
word-requires-2 c = omega (arith, taken-header _ c.requires.1)

pub returns-then-numbers-total : goal.returns-then-numbers-total
returns-then-numbers-total c =
    numbers_short _ _ _ _ _ c.requires.0 c.requires.1 (paired _ _ c.requires.0 c.requires.1 c.shape_at-shape.result
    c.shape_at.result c.shape_at-shape.ensures c.shape_at.ensures _ c.same_shape.ensures (ap not c.if-not-same_shape.false)).same (omega (
      arith,
      total_is _ c.shape_at-shape.result _ _ c.shape_at-shape.ensures c.cells.ensures
          c.word.ensures.0,
      c.if-rows-total.false,
    )) (omega (
      arith,
      total_is _ c.shape_at-shape.result _ _
          c.shape_at-shape.ensures c.cells.ensures c.word.ensures.0,
      c.word-2.ensures.0,
      c.if-numbers-total.true,
    ))

pub compose_pair-requires : goal.compose_pair-requires
compose_pair-requires c =
    let total = total_is _ c.shape_at-shape.result _ _ c.shape_at-shape.ensures c.cells.ensures c.word.ensures.0 in
    record {
      pair = (paired _ _ c.requires.0 c.requires.1 c.shape_at-shape.result c.shape_at.result c.shape_at-shape.ensures
          c.shape_at.ensures _ c.same_shape.ensures (ap not c.if-not-same_shape.false));
      whole = total;
      ready = record {
        rows_lent = omega (arith, total, c.if-rows-total.false);
        numbers_lent = omega (arith, total, c.word-2.ensures.0, c.if-numbers-total.false);
      };
    }
