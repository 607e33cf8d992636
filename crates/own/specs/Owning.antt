-- What making an instruction's own set asks for and leaves.
use Rattle.std.specs.Prelude.{ℕ, ◌≡◌, List, length}
use Rattle.rules.specs.Shape as R
use Rattle.rules.specs.Shape.{cells}
use Rattle.rules.specs.Instr.{Plain}
use Rattle.rules.specs.Rows.{Row}
use Rattle.rules.specs.Build.{own}
use Rattle.laws.specs.Canonical.{Canonical}
use Rattle.base.specs.declared.shape.Shape.{Shape}
use Rattle.base.specs.Answers.{Answer, shape_of}
use Rattle.table.specs.declared.LentTable.{LentTable}
use Rattle.rows.specs.Table.{Stored}
use Rattle.rows.specs.Making.{Draws}
use Rattle.own.specs.Mains.{Given}

-- A shape, a table of its cells that is stored, and a head for each cell.
pub record Owning (sh : Shape) (s : LentTable) (made : List ℕ) : Type 0 where
  pub given : Given sh s
  pub count : length made ≡ cells (shape_of sh)

-- R37: what is left stands for the own set of p over any table that was stored.
abbrev pub Owns : R.Shape → Plain → LentTable → Answer (Unit {0}) → LentTable → List ℕ → Type 0
Owns sh p s r s' made' = (t : List Row) → Canonical (cells sh) t → Stored s t → Draws s r s' made' (own t sh p)
