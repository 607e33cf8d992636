-- What performing an instruction asks for, and what one with an expression leaves.
use Rattle.std.specs.Prelude.{ℕ, ◌≤◌, min, max, List, get_or, set}
use Rattle.rules.specs.Shape as R
use Rattle.base.specs.declared.shape.Shape.{Shape}
use Rattle.base.specs.Answers.{shape_of}
use Rattle.storage.specs.Cells.{Storage, push_on}
use Rattle.reader.specs.declared.code.ValueCode.{ValueCode}
use Rattle.reader.specs.declared.code.ValueCode.TheVariants.{Load, And, Or, Epush}

-- A storage of a shape with room for the flag, the stack and few variables.
pub record Fitting (sh : Shape) (s : List ℕ) : Type 0 where
  pub storage : Storage (shape_of sh) s
  pub deep : 2 ≤ sh.depth
  pub most : R.vars (shape_of sh) ≤ 200

-- R17, R19: the bytes after the instruction of a code that takes an expression, where x is the expression's value.
abbrev pub on_value : R.Shape → List ℕ → ValueCode → ℕ → List ℕ
on_value sh s Load x = set s (R.flag sh) x
on_value sh s And x = set s (R.flag sh) (min (get_or s (R.flag sh) 0) x)
on_value sh s Or x = set s (R.flag sh) (max (get_or s (R.flag sh) 0) x)
on_value sh s Epush x = push_on (R.flag sh) x s
