-- What a run of the machine's steps in code asks for and gives.
use Rattle.std.specs.Prelude.{ℕ, suc, ◌+◌, ◌-◌, ◌≤◌, ◌<◌, ◌≡◌, Result, Ok, Err, cond, List, ◌∷◌, length, eqb}
use Rattle.rules.specs.Verdict.{refused}
use Rattle.rules.specs.ProgramFile as R
use Rattle.rules.specs.Machine.{due, back, step, scan_from}
use Rattle.base.specs.declared.kinds.Instr.{Instr}
use Rattle.machine.specs.declared.obey.Move.{Move}
use Rattle.machine.specs.declared.obey.Move.TheVariants.{On, Call, End}
use Rattle.reader.specs.declared.code.LabelCode.{LabelCode}
use Rattle.reader.specs.declared.code.LabelCode.TheVariants.{Jp, Jpc, Js, Jsc}
use Rattle.program.specs.Standing.{program_in}
use Rattle.program.specs.declared.file.Program.{Program}
use Rattle.storage.specs.Cells.{bits_of, Storage}

-- Instruction i is one of the program, and the storage fits. Both change from step to step, so no type has it.
pub record Runnable (p : Program) (s : List ℕ) (i : ℕ) : Type 0 where
  pub low : i < p.count
  pub stored : Storage (program_in p.file.now).shape s

-- R22, R23: where one step from instruction i leads, whatever the return list.
abbrev pub Leads : R.Program → List ℕ → ℕ → Move → List ℕ → Type 0
Leads P s i (On j) s' = (i < j.0) × (j.0 < length P.instrs) × ((q : List ℕ) → step P (due i (bits_of s) q) ≡ due j.0 (bits_of s') q)
Leads P s i (Call l) s' =
    (i < l.0) × (l.0 < length P.instrs) × ((q : List ℕ) → step P (due i (bits_of s) q) ≡ due l.0 (bits_of s') (suc i ∷ q))
Leads P s i End s' = (q : List ℕ) → step P (due i (bits_of s) q) ≡ back (bits_of s') q

-- R22: where the jump or call of a code leads, with the byte v in the flag.
abbrev pub jump_by : LabelCode → ℕ → Instr → Instr → Move
jump_by Jp v next l = On l
jump_by Jpc v next l = cond (eqb v 0) (On next) (On l)
jump_by Js v next l = Call l
jump_by Jsc v next l = cond (eqb v 0) (On next) (Call l)

pub record Obeys (file s : List ℕ) (i : ℕ) (m : Move) (s' : List ℕ) : Type 0 where
  pub leads : Leads (program_in file) s i m s'
  pub stored : Storage (program_in file).shape s'

-- R25: what a scan does from instruction i on with so much budget left, whatever the return list and the steps before.
abbrev pub Comes : R.Program → List ℕ → ℕ → ℕ → Result ℕ Instr → List ℕ → Type 0
Comes P s i left (Ok m) s' = (m ≤ left)
    × ((n : ℕ) (q : List ℕ) → scan_from P left n (due i (bits_of s) q) ≡ scan_from P m (n + (left - m)) (back (bits_of s') q))
Comes P s i left (Err j) s' = (n : ℕ) (q : List ℕ) → scan_from P left n (due i (bits_of s) q) ≡ refused 11 j.0

pub record Ends (file s : List ℕ) (i left : ℕ) (r : Result ℕ Instr) (s' : List ℕ) : Type 0 where
  pub comes : Comes (program_in file) s i left r s'
  pub stored : Storage (program_in file).shape s'
