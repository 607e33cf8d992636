-- The instructions of a program of the code.
use Rattle.std.specs.Prelude.{ℕ}
use Rattle.rules.specs.Shape.{vars}
use Rattle.base.specs.Answers.{shape_of}
use Rattle.reader.specs.declared.body.Body.{Body}
use Rattle.program.specs.declared.file.Program.{Program}
use Rattle.program.specs.Codes.{Tells}
use Rattle.program.specs.Standing.{instr_at}

-- R10 to R13: what its body b tells of instruction i.
abbrev pub Told : Program → ℕ → Body → Type 0
Told p i b = Tells p.file.now (vars (shape_of p.shape)) p.count i (instr_at p.file.now i) b
