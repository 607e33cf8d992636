-- An instruction of an accepted program: what its bytes tell.
use Rattle.std.specs.Prelude.{ℕ, ◌≤◌, ◌<◌, ◌≡◌, refl, List, [], length, get_or}
use Rattle.std.proofs.Common.{sym, ap, ◌∙◌, arith}
use Rattle.rules.specs.Verdict.{Verdict, granted, refused, ◌>>=◌}
use Rattle.rules.specs.Lists.{number_at}
use Rattle.rules.specs.Edition.{old}
use Rattle.rules.specs.Shape.{vars, cells, shape_at}
use Rattle.rules.specs.Instr.{Instr, END}
use Rattle.rules.specs.ProgramFile.{Program, read_program, entry_at}
use Rattle.laws.specs.Canonical.{WellFormed}
use Rattle.laws.specs.Shape.{Limits, shape-limits}
use Rattle.laws.specs.ProgramFile.{read-wellformed, read-shape}
use Rattle.laws.specs.Decode.{Decodes, read-decodes}
use Rattle.base.specs.declared.shape.Shape.{Shape}
use Rattle.base.specs.Answers.{shape_of}
use Rattle.reader.specs.declared.body.Body.{Body}
use Rattle.program.specs.Stages.{check_of, instr_in}
use Rattle.program.specs.Codes.{Tells, body_tells}

-- The program of an accepted file.
abbrev pub granted_program : Verdict Program → Program
granted_program (granted P) = P
granted_program (refused n p) = record { shape = record { depth = 0; inputs = 0; outputs = 0; memory = 0 }; instrs = [] }

unfoldable pub program_in : List ℕ → Program
program_in file = granted_program (read_program old file)

-- Its instruction i.
abbrev pub instr_at : List ℕ → ℕ → Instr
instr_at file i = get_or (program_in file).instrs i END

-- An accepted file has a program.
pub accepted_program : (file : List ℕ) → granted tt ≡ check_of file → read_program old file ≡ granted (program_in file)
unfolding program_in
accepted_program file e = go (read_program old file) (sym e)
  where
    go : (v : Verdict Program) → (v >>= λ P. granted (tt {0})) ≡ granted tt → v ≡ granted (granted_program v)
    go (granted P) q = refl
    go (refused n p) q =
        let z : ◌≡◌ {A = ℕ} 0 1 = cc in
        absurd (omega arith)

-- The file is accepted, of the shape and with n instructions, of which i is one.
pub record Standing (file : List ℕ) (sh : Shape) (n i : ℕ) : Type 0 where
  pub accepted : read_program old file ≡ granted (program_in file)
  pub shaped : shape_of sh ≡ (program_in file).shape
  pub count : n ≡ length (program_in file).instrs
  pub most : n ≤ 512
  pub low : i < n

module _ (file : List ℕ) (a : read_program old file ≡ granted (program_in file)) where
  decodes : Decodes old file (program_in file)
  decodes = read-decodes old file (program_in file) a

  pub header-there : 7 ≤ length file
  header-there = omega (arith, decodes.contents)

  -- Its instruction 0 stands, with the shape and the number of instructions that the header has.
  pub standing : (sh : Shape) → shape_of sh ≡ shape_at old file → (n : ℕ) → n ≡ number_at 2 file 5 → Standing file sh n 0
  standing sh e n m =
      let w = read-wellformed old file (program_in file) a in
      let k : n ≡ length (program_in file).instrs = m ∙ decodes.counted in
      record { accepted = a; shaped = e ∙ decodes.shaped; count = k; most = omega (arith, w.most); low = omega (arith, w.some) }

module _ (file : List ℕ) (sh : Shape) (n i : ℕ) (r : Standing file sh n i) where
  -- Any other instruction stands too.
  pub standing-at : (j : ℕ) → j < n → Standing file sh n j
  standing-at j h = record { accepted = r.accepted; shaped = r.shaped; count = r.count; most = r.most; low = h }

  pub formed : WellFormed (program_in file)
  formed = read-wellformed old file (program_in file) r.accepted

  limits : Limits old (program_in file).shape
  limits = shape-limits old (program_in file).shape (read-shape old file (program_in file) r.accepted)

  -- R1: the shape's limits.
  pub deep : 2 ≤ sh.depth
  deep = omega (arith, limits.deep, ap (λ t. t.depth) r.shaped)

  pub most-vars : vars (shape_of sh) ≤ 200
  most-vars = omega (arith, limits.most, ap vars r.shaped)

  -- R1, R2: there are at most 217 cells.
  pub most-cells : cells (shape_of sh) ≤ 217
  most-cells = omega (arith, limits.shallow, limits.most, ap cells r.shaped)

  -- The contents are all there.
  pub contents-there : entry_at old n ≤ length file
  contents-there = omega (arith, (decodes file r.accepted).contents, r.count)

  -- R10 to R13: what its body b tells.
  pub tells : (b : Body) → b ≡ instr_in file n i → Tells file (vars (shape_of sh)) n i (instr_at file i) b
  tells b e =
      let s = (decodes file r.accepted).stands i (omega (arith, r.low, r.count)) in
      rw (e, ap vars r.shaped, r.count) (body_tells file (program_in file).shape _ i _ (instr_at file i) s.inside s.says)
