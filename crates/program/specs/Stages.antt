-- What the answers of the code mean in the words of the rules, and the stages of reading a program file.
use Rattle.std.specs.Prelude.{ℕ, ◌+◌, ◌-◌, ◌≤◌, Bool, true, false, not, ◌&&◌, List, length, get_or, leb, ltb}
use Rattle.rules.specs.Verdict.{Verdict, granted, refused, refuse_if, ◌>>=◌}
use Rattle.rules.specs.Lists.{number_at}
use Rattle.rules.specs.Edition.{old, count_at, most_instrs}
use Rattle.rules.specs.Shape.{Shape}
use Rattle.rules.specs.Expr.{Read, Announced, leaf, one, two, bad}
use Rattle.rules.specs.Instr.{Instr, END}
use Rattle.rules.specs.ProgramFile.{Program, codes, form_of, writable, is_end}
use Rattle.rules.specs.ProgramFile.{read_body, entry_at, body_at, read_instrs, read_program}
use Rattle.base.specs.Answers.{Answer, shape_of, verdict_of}
use Rattle.base.specs.declared.shape.Shape as B
use Rattle.reader.specs.Bodies.{body_in}
use Rattle.reader.specs.declared.body.Body.{Body}
use Rattle.reader.specs.declared.body.Body.TheVariants.{Alone}
use Rattle.reader.specs.declared.code.AloneCode.TheVariants.{End}
use Rattle.program.specs.declared.expr.Operands.{Operands}
use Rattle.program.specs.declared.expr.Operands.TheVariants.{Zero, One, Two, Bad}

-- R65: checking a program file is reading it, and handing nothing back.
abbrev pub check_of : List ℕ → Verdict (Unit {0})
check_of file = read_program old file >>= λ P. granted tt

-- R7: the shape of a header, or the refusal.
abbrev pub header_verdict : Answer B.Shape → Verdict Shape
header_verdict r = verdict_of r >>= λ s. granted (shape_of s)

-- Of what was read, only the place after it.
abbrev pub ends : {A : Type 0} → Verdict (Read A) → Verdict ℕ
ends (granted x) = granted x.next
ends (refused n p) = refused n p

-- R11: how many operands a first byte announces.
abbrev pub operands_of : Announced → Operands
operands_of (leaf x) = Zero
operands_of one = One
operands_of (two o) = Two
operands_of bad = Bad

-- R12, R48: a variable to write that must stand at q.
unfoldable pub variable_at : List ℕ → Shape → ℕ → Verdict ℕ
variable_at file sh q = do
  _ ← refuse_if (leb (length file) q) 1 (length file)
  _ ← refuse_if (not (writable sh (get_or file q 0))) 7 q
  granted (q + 1)

-- R13, R48: a label of instruction i of n that must stand at q.
unfoldable pub label_at : List ℕ → ℕ → ℕ → ℕ → Verdict ℕ
label_at file n i q = do
  _ ← refuse_if (ltb (length file) (q + 2)) 1 (length file)
  l ← granted (number_at 2 file q)
  _ ← refuse_if (not (ltb i l && ltb l n)) 8 q
  granted (q + 2)

-- R10, R48: the body of instruction i of n whose code stands at p.
abbrev pub body_read : List ℕ → Shape → ℕ → ℕ → ℕ → Verdict (Read Instr)
body_read file sh n i p = read_body old file sh n i p (form_of codes (get_or file p 0))

-- R9, R10: the body of instruction i of n, taken apart.
abbrev pub instr_in : List ℕ → ℕ → ℕ → Body
instr_in file n i = body_in file (body_at old file n i)

-- R14: whether a body is END's.
abbrev pub is_end_body : Body → Bool
is_end_body (Alone End) = true
is_end_body b = false

-- R8, R9: no body begins here or later: a header, the entries of 512 instructions, the largest entry.
abbrev pub farthest : ℕ
farthest = entry_at old most_instrs + 65536

-- R8, R9: the contents of n instructions are whole.
pub record Contents (file : List ℕ) (n : ℕ) : Type 0 where
  pub some : 1 ≤ n
  pub most : n ≤ most_instrs
  pub whole : entry_at old n ≤ length file

-- R9: where the body of the last of n instructions stands.
abbrev pub last_at : List ℕ → ℕ → ℕ
last_at file n = body_at old file n (n - 1)

-- R9, R14, R48: n instructions that end at q close the file, and the last is END.
unfoldable pub closed : List ℕ → ℕ → ℕ → Verdict (Unit {0})
closed file n q = do
  _ ← refuse_if (ltb q (length file)) 4 q
  refuse_if (not (is_end_body (instr_in file n (n - 1)))) 9 (last_at file n)

-- R8, R14, R48: what a program file has after its header.
unfoldable pub read_rest : List ℕ → Shape → Verdict Program
read_rest file sh = do
  n ← granted (number_at 2 file (count_at old))
  _ ← refuse_if (not (leb 1 n && leb n most_instrs)) 3 (count_at old)
  _ ← refuse_if (ltb (length file) (entry_at old n)) 1 (length file)
  xs ← read_instrs old file sh n n (entry_at old n)
  _ ← refuse_if (ltb xs.next (length file)) 4 xs.next
  _ ← refuse_if (not (is_end (get_or xs.got (n - 1) END))) 9 (last_at file n)
  granted (record { shape = sh; instrs = xs.got })

abbrev pub instrs_of : List ℕ → Shape → Verdict (Unit {0})
instrs_of file sh = read_rest file sh >>= λ P. granted tt
