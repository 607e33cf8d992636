-- What evaluating an expression in the bytes of a program asks for and gives.
use Rattle.std.specs.Prelude.{ℕ, ◌≤◌, min, max, ◌≡◌, cond, List, length, eqb}
use Rattle.rules.specs.Expr.{Exp, Read, eval}
use Rattle.rules.specs.Operations.{bit}
use Rattle.storage.specs.Cells.{bits_of, Bits}
use Rattle.program.specs.Reading.{Reads, Legible}
use Rattle.instruction.specs.declared.eval.Valued.{Valued}

-- An expression stands at p, over variables that the storage has; and the storage holds bits.
pub record Readable (file s : List ℕ) (v stop p : ℕ) : Type 0 where
  pub legible : Legible file v stop p
  pub enough : v ≤ length s
  pub holds : Bits s

-- The value of the expression at p, and the place after it.
pub record Values (file s : List ℕ) (v stop p : ℕ) (r : Valued) : Type 0 where
  pub value : (x : Read Exp) → Reads file v stop p x → r.bit ≡ bit (eval (bits_of s) x.got)
  pub place : (x : Read Exp) → Reads file v stop p x → r.next ≡ x.next
  pub small : r.bit ≤ 1

-- R11: AND (253) or OR of two bits that are bytes.
abbrev pub joined : ℕ → ℕ → ℕ → ℕ
joined b x y = cond (eqb b 253) (min x y) (max x y)
