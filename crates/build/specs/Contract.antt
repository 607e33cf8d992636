-- What building answers, in the words of the rules, what it leaves in the output, and that there is one answer only.
use Rattle.std.specs.Prelude.{ℕ, ◌*◌, ◌≤◌, ◌≡◌, Ok, List, length, take}
use Rattle.std.proofs.Common.{sym, ◌∙◌}
use Rattle.rules.specs.Verdict.{Verdict, granted}
use Rattle.rules.specs.Edition.{old}
use Rattle.rules.specs.Shape.{cells}
use Rattle.rules.specs.SetFile.{leaves}
use Rattle.rules.specs.Room.{room}
use Rattle.rules.specs.Operations.{build, output_after}
use Rattle.base.specs.Answers.{Answer, shape_of, verdict_of}
use Rattle.base.specs.Refusals.{answer_only}
use Rattle.base.specs.declared.shape.Shape.{Shape}
use Rattle.program.specs.Standing.{Standing}
use Rattle.writer.specs.Writes.{length_of, writes_front}

-- R51: the answer of the rules where so many rows, numbers and heads, and that output, are lent.
abbrev pub answer : List ℕ → ℕ → ℕ → ℕ → List ℕ → Verdict (List ℕ)
answer file rows numbers heads out = build old file rows numbers heads (length out)

-- R39, R51, R52: the answer is that of the rules, and so is what the lent output holds after the call.
pub record Builds (file : List ℕ) (rows numbers heads : ℕ) (r : Answer ℕ) (before after : List ℕ) : Type 0 where
  pub answers : verdict_of r ≡ length_of (answer file rows numbers heads before)
  pub output : after ≡ output_after (answer file rows numbers heads before) before

-- R54, R55: room to begin: a row for each constant and cell, a number for each row that may be used, the heads of every T(i).
pub record Ready (file : List ℕ) (sh : Shape) (n rows numbers heads : ℕ) : Type 0 where
  pub standing : Standing file sh n 0
  pub rows_lent : leaves (shape_of sh) ≤ rows
  pub numbers_lent : room rows ≤ numbers
  pub heads_lent : n * cells (shape_of sh) ≤ heads

-- R46, R52: two results that meet the contract are the same, with the same output after.
pub build_only : (file : List ℕ) (rows numbers heads : ℕ) (a b : Answer ℕ) (before t u : List ℕ)
    → Builds file rows numbers heads a before t → Builds file rows numbers heads b before u
    → (a ≡ b) × (t ≡ u)
build_only file rows numbers heads a b before t u p q =
    (answer_only _ a b p.answers q.answers, p.output ∙ sym q.output)

-- R59: what a granted call leaves at the front of the output is the file that the rules build, so every law about that file holds of it.
pub built-front : (file : List ℕ) (rows numbers heads n : ℕ) (before after : List ℕ) → Builds file rows numbers heads (Ok n) before after
    → answer file rows numbers heads before ≡ granted (take n after)
built-front file rows numbers heads n before after b =
    writes_front (answer file rows numbers heads before) n before after (record { answer = b.answers; output = b.output })
