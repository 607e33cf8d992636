-- One set after another over one table in a lent slice.
use Rattle.std.specs.Prelude.{ℕ, ◌≤◌, ◌≡◌, List, length}
use Rattle.rules.specs.Verdict.{granted}
use Rattle.rules.specs.Edition.{old}
use Rattle.rules.specs.Shape.{Shape, cells, check_shape}
use Rattle.rules.specs.Sets.{Heads, after}
use Rattle.laws.specs.After.{Stands, over}
use Rattle.base.specs.Answers.{Answer}
use Rattle.table.specs.declared.LentTable.{LentTable}
use Rattle.table.specs.Append.{room_of}
use Rattle.rows.specs.Making.{Drawn, Draws}

-- Heads X of the rules that `made` stands for, and y over the same table; a number for each row that may be used.
pub record Following (sh : Shape) (y : List ℕ) (s : LentTable) (numbers : ℕ) (made : List ℕ) : Type 0 where
  pub first : Heads
  pub drawn : Drawn s made first
  pub stands : Stands (cells sh) first
  pub second : Stands (cells sh) (over first.tab y)
  pub shaped : check_shape old sh ≡ granted tt
  pub count : length made ≡ cells sh
  pub room : room_of s ≤ numbers

-- R34: what is left stands for y after any heads that `made` stood for.
abbrev pub Follows : Shape → List ℕ → LentTable → ℕ → List ℕ → Answer (Unit {0}) → LentTable → List ℕ → Type 0
Follows sh y s numbers made r s' made' = (w : Following sh y s numbers made)
    → Draws s r s' made' (after w.first.tab w.first.heads w.first.tab y)
