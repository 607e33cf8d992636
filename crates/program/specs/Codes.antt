-- What an instruction's body tells of the instruction.
use Rattle.std.specs.Prelude.{ℕ, suc, ◌+◌, ◌≤◌, ◌<◌, ◌≡◌, List, length, get_or}
use Rattle.std.proofs.Common.{arith}
use Rattle.rules.specs.Edition.{old}
use Rattle.rules.specs.Shape.{Shape, vars}
use Rattle.rules.specs.Expr.{Read, Exp}
use Rattle.rules.specs.Instr.{Instr, plain}
use Rattle.rules.specs.ProgramFile.{codes, form_of}
use Rattle.laws.specs.Decode.{Says}
use Rattle.reader.specs.Codes.{on_alone, on_expr, on_variable, on_label, form, code_in, code_form}
use Rattle.reader.specs.Bodies.{taken, body_in}
use Rattle.reader.specs.declared.body.Body.{Body}
use Rattle.reader.specs.declared.body.Body.TheVariants.{Alone, Value, Variable, Label, Unknown}
use Rattle.reader.specs.declared.code.Code.{Code}
use Rattle.reader.specs.declared.code.Code.TheVariants as C
use Rattle.program.specs.Reading.{Reads}

-- R10 to R13: what its body tells of x, instruction i of n, where there are v variables.
abbrev pub Tells : List ℕ → ℕ → ℕ → ℕ → Instr → Body → Type 0
Tells file v n i x (Alone c) = x ≡ on_alone c
Tells file v n i x (Value c p) =
    (p ≤ length file) × (y : Read Exp) × Reads file v (p + 64) p y × (x ≡ plain (on_expr c y.got))
Tells file v n i x (Variable c b) = (b.0 < v) × (x ≡ plain (on_variable c b.0))
Tells file v n i x (Label c l) = (i < l.0) × (l.0 < n) × (x ≡ on_label c l.0)
Tells file v n i x Unknown = ⊥

pub body_tells : (file : List ℕ) (sh : Shape) (n i p : ℕ) (x : Instr) → p < length file
    → Says old file sh n i p x (form_of codes (get_or file p 0)) → Tells file (vars sh) n i x (body_in file p)
unfolding body_in
body_tells file sh n i p x l s = go (code_in (get_or file p 0)) (rw (← code_form (get_or file p 0)) at s)
  where
    one : p + 1 ≡ suc p
    one = omega arith

    go : (k : Code) → Says old file sh n i p x (form k) → Tells file (vars sh) n i x (taken k file p)
    go (C.Alone c) q = q
    go (C.Value c) (y, u, v) = (omega arith, y, (record { fuel = 64; is = rw one u }), v)
    go (C.Variable c) (u, v, w) = rw one (v, w)
    go (C.Label c) (t, u, v, w) = rw one (u, v, w)
    go C.Unknown q = absurd q
