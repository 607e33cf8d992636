-- What choice by a row between two sets over one table has to know, and what it leaves.
use Rattle.std.specs.Prelude.{ℕ, ◌<◌, ◌≡◌, List, length}
use Rattle.rules.specs.Rows.{Row}
use Rattle.rules.specs.Rows as R
use Rattle.rules.specs.Sets.{Heads, choice}
use Rattle.laws.specs.Canonical.{Canonical}
use Rattle.laws.specs.After.{Stands, over}
use Rattle.base.specs.Answers.{Answer}
use Rattle.base.specs.declared.kinds.Row as K
use Rattle.table.specs.declared.LentTable.{LentTable}
use Rattle.rows.specs.Table.{Stored, Gives}
use Rattle.rows.specs.Making.{Drawn, Draws}

-- The canonical table t is stored, and f, x and y are rows of it. The rows differ from call to call, so no type has it.
pub record Among (C : ℕ) (t : List Row) (s : LentTable) (f x y : ℕ) : Type 0 where
  pub canonical : Canonical C t
  pub stored : Stored s t
  pub low : (f < length t) × (x < length t) × (y < length t)

-- There is such a table.
pub record Choosable (s : LentTable) (f x y : ℕ) : Type 0 where
  pub cells : ℕ
  pub table : List Row
  pub among : Among cells table s f x y

-- R35: what is left, and the row answered, are what `put` makes of f, x and y.
pub record Picks (put : List Row → ℕ → ℕ → ℕ → R.Added) (s : LentTable) (f x y : ℕ) (r : Answer K.Row) (s' : LentTable) : Type 0 where
  pub gives : (C : ℕ) (t : List Row) → Among C t s f x y → Gives s r s' (put t f x y)

-- Heads X of the rules that `made` stands for, y over the same table, and a row f of it.
pub record Choosing (C f : ℕ) (y : List ℕ) (s : LentTable) (made : List ℕ) : Type 0 where
  pub first : Heads
  pub drawn : Drawn s made first
  pub stands : Stands C first
  pub second : Stands C (over first.tab y)
  pub low : f < length first.tab
  pub count : length made ≡ C

-- R35: what is left stands for the choice by row f of any heads that `made` stood for and y.
abbrev pub Chooses : ℕ → ℕ → List ℕ → LentTable → List ℕ → Answer (Unit {0}) → LentTable → List ℕ → Type 0
Chooses C f y s made r s' made' = (w : Choosing C f y s made) → Draws s r s' made' (choice w.first.tab f w.first.heads y)
