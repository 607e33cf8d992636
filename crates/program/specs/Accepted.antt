-- What an accepted program file is known by in the code: its shape, and how many instructions it has.
use Rattle.std.specs.Prelude.{ℕ, ◌≤◌, ◌<◌, ◌≡◌, List, length}
use Rattle.rules.specs.Verdict.{Verdict, granted, ◌>>=◌}
use Rattle.rules.specs.Edition.{old}
use Rattle.rules.specs.Lists.{number_at}
use Rattle.rules.specs.Shape.{shape_at}
use Rattle.base.specs.Answers.{Answer, shape_of, verdict_of}
use Rattle.base.specs.declared.shape.Shape.{Shape}
use Rattle.program.specs.Stages.{check_of}
use Rattle.program.specs.Standing.{program_in, accepted_program, Standing, standing}

-- The file is accepted, of the shape and with n instructions.
pub record Accepted (file : List ℕ) (sh : Shape) (n : ℕ) : Type 0 where
  pub passed : granted tt ≡ check_of file
  pub shaped : shape_of sh ≡ (program_in file).shape
  pub count : n ≡ length (program_in file).instrs
  pub some : 0 < n
  pub most : n ≤ 512

-- R65: what an answer says of the file, whatever it hands back.
abbrev pub judged : {A : Type 0} → Answer A → Verdict (Unit {0})
judged r = verdict_of r >>= λ a. granted tt

module _ (file : List ℕ) (sh : Shape) (n : ℕ) where
  -- Its header gives the shape and the number.
  pub accepted : granted tt ≡ check_of file → shape_of sh ≡ shape_at old file → n ≡ number_at 2 file 5 → Accepted file sh n
  accepted e q m =
      let s = standing file (accepted_program file e) sh q n m in
      record { passed = e; shaped = s.shaped; count = s.count; some = s.low; most = s.most }

  -- Each of its instructions stands.
  pub stands : Accepted file sh n → (i : ℕ) → i < n → Standing file sh n i
  stands a i h = record { accepted = accepted_program file a.passed; shaped = a.shaped; count = a.count; most = a.most; low = h }
