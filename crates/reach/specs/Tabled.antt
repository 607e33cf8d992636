-- Heads over a table in lent rows, with a number lent for each row.
use Rattle.std.specs.Prelude.{ℕ, ◌≤◌, ◌≡◌, List, length}
use Rattle.rules.specs.Verdict.{granted}
use Rattle.rules.specs.Edition.{old, most_rows}
use Rattle.rules.specs.Shape.{Shape, cells, check_shape}
use Rattle.laws.specs.After.{Stands, over}
use Rattle.rows.specs.Entries.{table_in}

-- R36: heads that stand over a table of an allowed shape, in lent rows, with a number for each row.
pub record Tabled (sh : Shape) (heads rows : List ℕ) (used numbers : ℕ) : Type 0 where
  pub shaped : check_shape old sh ≡ granted tt
  pub stands : Stands (cells sh) (over (table_in rows used) heads)
  pub held : used ≤ length rows
  pub small : used ≤ most_rows
  pub room : used ≤ numbers
