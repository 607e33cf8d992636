-- Checking a program file: the header, then the rest; and the contract admits one answer only.
use Rattle.std.specs.Prelude.{ℕ, ◌≤◌, ◌≡◌, Ok, Err, List, length}
use Rattle.std.proofs.Common.{sym}
use Rattle.rules.specs.Edition.{old}
use Rattle.rules.specs.Shape.{read_header}
use Rattle.rules.specs.ProgramFile.{read_program}
use Rattle.laws.specs.Shape.{header-granted}
use Rattle.base.specs.Answers.{Answer, shape_of, refused_by, verdict_of}
use Rattle.base.specs.Refusals.{answer_only}
use Rattle.base.specs.declared.shape.Shape.{Shape}
use Rattle.base.specs.declared.refusal.Refusal.{Refusal}
use Rattle.program.specs.Stages.{check_of, header_verdict, read_rest, instrs_of}

module _ (file : List ℕ) (r : Answer Shape) (h : header_verdict r ≡ read_header old 1 file) where
  -- R48: a header that is refused is the answer.
  pub check_refused : (x : Refusal) → r ≡ Err x → refused_by x ≡ check_of file
  unfolding read_program
  check_refused x z = rw (← h, z)

  module _ (s : Shape) (z : r ≡ Ok s) where
    -- R7: a header that was read is whole.
    pub check_long : 7 ≤ length file
    check_long = (header-granted old 1 file (shape_of s) (sym (rw z at h))).long

    -- R48: after a header that was read, the rest gives the answer.
    pub check_rest : (k : Answer (Unit {0})) → verdict_of k ≡ instrs_of file (shape_of s) → verdict_of k ≡ check_of file
    unfolding read_program read_rest
    check_rest k c = rw (← h, z) c

-- R46, R47: two answers that meet the contract for the same file are the same answer.
pub check_only : (file : List ℕ) (a b : Answer (Unit {0})) → verdict_of a ≡ check_of file → verdict_of b ≡ check_of file
    → a ≡ b
check_only file = answer_only (check_of file)
