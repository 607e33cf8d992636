-- What adding the rows of an expression in the bytes of a program asks for and leaves.
use Rattle.std.specs.Prelude.{ℕ, ◌+◌, ◌-◌, ◌≤◌, ◌≡◌, cond, List, ltb, Ok, Err}
use Rattle.rules.specs.Expr.{Exp, Read}
use Rattle.program.specs.Reading.{Reads, Legible}
use Rattle.base.specs.Answers.{Answer}
use Rattle.base.specs.declared.refusal.Refusal.{Refusal}
use Rattle.table.specs.declared.LentTable.{LentTable}
use Rattle.rows.specs.Making.{Open}
use Rattle.spell.specs.declared.expression.Grown.{Grown}
use Rattle.spell.specs.Made.{Made}

-- R11, R26: the row of the variable or constant that a byte below 252 is.
abbrev pub leaf_row : ℕ → ℕ
leaf_row b = cond (ltb b 250) (2 + b) (b - 250)

-- An expression stands at p, and a table is stored that has a cell for every variable.
pub record Spelling (file : List ℕ) (v stop p : ℕ) (s : LentTable) : Type 0 where
  pub legible : Legible file v stop p
  pub count : ℕ
  pub enough : v ≤ count
  pub opened : Open count s

-- R37: the rows of the expression at p are made, and g has its row and the place after it.
pub record Spelt (file : List ℕ) (v stop p : ℕ) (s : LentTable) (g : Grown) (s' : LentTable) : Type 0 where
  pub place : (x : Read Exp) → Reads file v stop p x → g.next ≡ x.next
  pub made : (C : ℕ) → v ≤ C → (x : Read Exp) → Reads file v stop p x → Made C s x.got (Ok g.row) s'

-- R37, R54: or no row is left for them.
pub record Unspelt (file : List ℕ) (v stop p : ℕ) (s : LentTable) (e : Refusal) (s' : LentTable) : Type 0 where
  pub full : (C : ℕ) → v ≤ C → (x : Read Exp) → Reads file v stop p x → Made C s x.got (Err e) s'

abbrev pub Spells : List ℕ → ℕ → ℕ → ℕ → LentTable → Answer Grown → LentTable → Type 0
Spells file v stop p s (Ok g) s' = Spelt file v stop p s g s'
Spells file v stop p s (Err e) s' = Unspelt file v stop p s e s'
