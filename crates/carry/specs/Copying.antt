-- Copying the rows of a set file into a slice: what the file says of each.
use Rattle.std.specs.Prelude.{ℕ, ◌+◌, ◌≤◌, ◌<◌, ◌≡◌, List, length}
use Rattle.std.proofs.Common.{ap, sym, subst, ◌∙◌, arith}
use Rattle.rules.specs.Edition.{old}
use Rattle.rules.specs.Shape as R
use Rattle.rules.specs.Shape.{cells, shape_at}
use Rattle.rules.specs.Rows.{row_at}
use Rattle.base.specs.Answers.{shape_of}
use Rattle.base.specs.declared.shape.Shape.{Shape}
use Rattle.table.specs.declared.LentTable.{LentTable}
use Rattle.table.specs.Append.{room_of}
use Rattle.sets.specs.Spelt.{set_in, rows_in, Inside, spelt_row, sized_inside, spelt-row, spelt-length, taken_sized}
use Rattle.carry.specs.Carrying.{Copied}

module _ (file : List ℕ) (shape : Shape) (total : ℕ) (s : LentTable) (w : Copied file shape total s) where
  size : length (set_in file).tab ≡ 2 + cells (shape_at old file) + rows_in file
  size = spelt-length file (shape_at old file) (rows_in file)

  -- There is room for all rows, where as many are lent.
  pub copied-room : total ≤ length s.rows.now → total ≤ room_of s
  copied-room h = omega (arith, h, w.taken.room, size, w.whole)

  module _ (i : ℕ) (h : i < total) where
    pub copied-inside : Inside file (shape_of shape) i
    copied-inside =
        subst (λ (x : R.Shape). Inside file x i) (sym w.shaped)
        (sized_inside file (shape_at old file) (rows_in file) i (taken_sized file w.taken) (omega (arith, size, w.whole)))

    pub copied-row : spelt_row file (shape_of shape) i ≡ row_at (set_in file).tab i
    copied-row =
        ap (λ sh. spelt_row file sh i) w.shaped ∙ sym
        (spelt-row file (shape_at old file) (rows_in file) i (omega (arith, size, w.whole)))
