use Rattle.base.specs.Answers.{shape_of}
use Rattle.writer.specs.Write.{shape-small}
use Rattle.writer.specs.Table.{table-next, table-heads, table_fits, table_short, table-whole}
use native.Mathlib.Omega.{arith}
use Rattle.writer.proofs.write_table.Goals as goal

pub overflow_sub-count : goal.overflow_sub-count
overflow_sub-count c = omega (arith, (table-next c.requires c.cells-cells.ensures c.number_reached-next.ensures).0)

pub overflow_mul-length-2 : goal.overflow_mul-length-2
overflow_mul-length-2 c = omega (arith, (table-next c.requires c.cells-cells.ensures c.number_reached-next.ensures).1)

pub overflow_add-length-2 : goal.overflow_add-length-2
overflow_add-length-2 c = omega (arith, (table-next c.requires c.cells-cells.ensures c.number_reached-next.ensures).1)

pub returns-then-out-length : goal.returns-then-out-length
returns-then-out-length c = table_short c.requires c.cells-cells.ensures c.number_reached-next.ensures _ c.if-out-length.true

pub overflow_cast-count : goal.overflow_cast-count
overflow_cast-count c = omega (arith, (table-next c.requires c.cells-cells.ensures c.number_reached-next.ensures).1, c.requires.small)

pub put_header-requires : goal.put_header-requires
put_header-requires c = (omega arith, (shape-small (shape_of c.args.shape) c.requires.shaped).0)

pub put_heads-requires : goal.put_heads-requires
put_heads-requires c = (
  omega (arith, c.requires.stands.count, c.cells-cells.ensures),
  table-heads c.requires c.cells-cells.ensures c.number_reached-next.ensures,
)

pub put_rows-requires : goal.put_rows-requires
put_rows-requires c =
    table_fits c.requires c.cells-cells.ensures c.number_reached-next.ensures _
    (omega (arith, c.if-out-length.false, c.put_header.auto.out, c.put_heads.auto.out))

pub returns : goal.returns
returns c =
    table-whole c.requires c.cells-cells.ensures c.number_reached-next.ensures _ c.if-out-length.false
    c.put_header.ensures c.put_heads.ensures c.put_rows.ensures
