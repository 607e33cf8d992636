use Rattle.base.specs.Answers.{shape_of}
use Rattle.sets.specs.Check.{rest-count, rest_short, rest-long, rest-whole, rest-rows}
use native.Mathlib.Omega.{arith}
use Rattle.sets.proofs.check.check_rest.Goals as goal

pub returns-then-cells-rows-gt65535 : goal.returns-then-cells-rows-gt65535
returns-then-cells-rows-gt65535 c =
    let a = c.args in
    rest-count a.file.now (shape_of a.shape) _ c.word-rows.ensures.0
    (omega (arith, c.cells.ensures, c.if-cells-rows-gt65535.true))

pub row_place-end-requires : goal.row_place-end-requires
row_place-end-requires c = omega (arith, c.word-rows.ensures.1)

pub returns-then-file-end : goal.returns-then-file-end
returns-then-file-end c =
    let a = c.args in
    rest_short a.file.now (shape_of a.shape) _ c.word-rows.ensures.0
    (omega (arith, c.cells.ensures, c.if-cells-rows-gt65535.false)) _ c.row_place-end.ensures (omega arith)

pub returns-then-end-file : goal.returns-then-end-file
returns-then-end-file c =
    let a = c.args in
    rest-long a.file.now (shape_of a.shape) _ c.word-rows.ensures.0
    (omega (arith, c.cells.ensures, c.if-cells-rows-gt65535.false)) _
    c.row_place-end.ensures (omega arith) (omega arith)

pub invariant_of-check_rows : goal.invariant_of-check_rows
invariant_of-check_rows c =
    let a = c.args in
    record {
      whole = rest-whole a.file.now (shape_of a.shape) _ c.word-rows.ensures.0
          (omega (arith, c.cells.ensures, c.if-cells-rows-gt65535.false)) _
          c.row_place-end.ensures (omega arith) (omega arith);
    }

pub returns : goal.returns
returns c =
    let a = c.args in
    rest-rows a.file.now (shape_of a.shape) _ c.word-rows.ensures.0
    (omega (arith, c.cells.ensures, c.if-cells-rows-gt65535.false)) _
    c.row_place-end.ensures (omega arith) (omega arith) c.check_rows.result c.check_rows.ensures
