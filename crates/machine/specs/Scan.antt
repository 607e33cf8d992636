-- What a scan answers, in the words of the rules, and what it leaves in the storage.
use Rattle.std.specs.Prelude.{ℕ, ◌≡◌, List}
use Rattle.rules.specs.Verdict.{Verdict, granted, ◌>>=◌}
use Rattle.rules.specs.Edition.{old}
use Rattle.rules.specs.Machine as M
use Rattle.rules.specs.Operations.{scan, storage_after}
use Rattle.base.specs.Answers.{Answer, verdict_of}

-- R25: of what the rules hand back, the number of steps; the storage is left in what was lent.
abbrev pub steps_of : Verdict M.Scanned → Verdict ℕ
steps_of v = v >>= λ y. granted y.steps

-- R25, R51, R52: the answer is that of the rules, and so is what the lent storage holds after the call.
pub record Scans (file storage : List ℕ) (budget : ℕ) (r : Answer ℕ) (after : List ℕ) : Type 0 where
  pub answer : verdict_of r ≡ steps_of (scan old file storage budget)
  pub leaves : after ≡ storage_after (λ y. y.storage) (scan old file storage budget) storage
