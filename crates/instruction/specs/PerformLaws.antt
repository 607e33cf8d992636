-- The bytes after an instruction that takes an expression are those that its instruction's table of bytes has.
use Rattle.std.specs.Prelude.{ℕ, ◌≡◌, List}
use Rattle.rules.specs.Expr.{Exp}
use Rattle.rules.specs.Shape.{Shape}
use Rattle.storage.specs.Cells.{byte_of, stored}
use Rattle.reader.specs.declared.code.ValueCode.{ValueCode}
use Rattle.reader.specs.declared.code.ValueCode.TheVariants.{Load, And, Or, Epush}
use Rattle.reader.specs.Codes.{on_expr}
use Rattle.instruction.specs.Perform.{on_value}

-- R17, R19: so they are, by the value of the expression.
pub value-stored : (sh : Shape) (s : List ℕ) (c : ValueCode) (x : Exp) (v : ℕ) → v ≡ byte_of s x
    → on_value sh s c v ≡ stored sh s (on_expr c x)
unfolding stored
value-stored sh s Load x v e = rw e
value-stored sh s And x v e = rw e
value-stored sh s Or x v e = rw e
value-stored sh s Epush x v e = rw e
