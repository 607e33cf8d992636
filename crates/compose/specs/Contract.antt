-- What composing answers, in the words of the rules, what it leaves in the output, and that there is one answer only.
use Rattle.std.specs.Prelude.{ℕ, ◌+◌, ◌≤◌, ◌≡◌, Result, Ok, Err, refl, List, length}
use Rattle.std.proofs.Common.{ap, ap₂, sym, ◌∙◌}
use Rattle.rules.specs.Verdict.{Verdict, granted, refused}
use Rattle.rules.specs.Edition.{old}
use Rattle.rules.specs.Operations.{compose, output_after, Blamed, firstFile, secondFile, neither, blamed}
use Rattle.base.specs.Answers.{refused_by}
use Rattle.base.specs.Refusals.{refusal_of, refusal_back}
use Rattle.base.specs.declared.shape.Shape.{Shape}
use Rattle.table.specs.declared.LentTable.{LentTable}
use Rattle.writer.specs.Writes.{length_of}
use Rattle.sets.specs.Spelt.{set_in, rows_in}
use Rattle.compose.specs.declared.Blame.{Blame}
use Rattle.compose.specs.declared.Blame.TheVariants.{First, Second, Neither}
use Rattle.carry.specs.Carrying.{Pair, Carrying}

-- R51: the answer of the rules where so many rows and numbers, and that output, are lent.
abbrev pub answer : List ℕ → List ℕ → ℕ → ℕ → List ℕ → Verdict (List ℕ)
answer first second rows numbers out = compose old first second rows numbers (length out)

-- What composing answers: how many bytes were written, or a refusal and which file it is about.
abbrev pub Composed : Type 0
Composed = Result ℕ Blame

-- R46, R59: how many bytes were written, or the refusal.
abbrev pub composed_verdict : Composed → Verdict ℕ
composed_verdict (Ok n) = granted n
composed_verdict (Err (First x)) = refused_by x
composed_verdict (Err (Second x)) = refused_by x
composed_verdict (Err (Neither x)) = refused_by x

-- R51: which file it is about.
abbrev pub blames : Composed → Blamed
blames (Ok n) = neither
blames (Err (First x)) = firstFile
blames (Err (Second x)) = secondFile
blames (Err (Neither x)) = neither

-- R40, R51, R52: the answer is that of the rules, and so is the file that it is about, and what the lent output holds after the call.
pub record Composes (first second : List ℕ) (rows numbers : ℕ) (r : Composed) (before after : List ℕ) : Type 0 where
  pub answers : composed_verdict r ≡ length_of (answer first second rows numbers before)
  pub about : blames r ≡ blamed old first second
  pub output : after ≡ output_after (answer first second rows numbers before) before

-- R56: room to begin: a row for each row of the first set, a number for each of these and each operation row of the second.
pub record Ready (first second : List ℕ) (rows numbers : ℕ) : Type 0 where
  pub rows_lent : length (set_in first).tab ≤ rows
  pub numbers_lent : length (set_in first).tab + rows_in second ≤ numbers

-- Two accepted files with one shape and room to begin; total is the number of the first set's rows.
pub record Pairs (first second : List ℕ) (shape : Shape) (total rows numbers : ℕ) : Type 0 where
  pub pair : Pair first second shape
  pub whole : total ≡ length (set_in first).tab
  pub ready : Ready first second rows numbers

-- All rows of the second set have been carried.
pub record Finished (first second : List ℕ) (shape : Shape) (s : LentTable) (numbers : List ℕ) : Type 0 where
  pub carrying : Carrying first second shape s numbers (rows_in second)
  pub ready : Ready first second (length s.rows.now) (length numbers)

-- R46, R51, R52: two results that meet the contract are the same, with the same output after.
answer_of : Verdict ℕ → Blamed → Composed
answer_of (granted n) b = Ok n
answer_of (refused n p) firstFile = Err (First (refusal_of n p))
answer_of (refused n p) secondFile = Err (Second (refusal_of n p))
answer_of (refused n p) neither = Err (Neither (refusal_of n p))

answer_back : (a : Composed) → answer_of (composed_verdict a) (blames a) ≡ a
unfolding answer_of
answer_back (Ok n) = refl
answer_back (Err (First x)) = ap (λ y. Err (First y)) (refusal_back x)
answer_back (Err (Second x)) = ap (λ y. Err (Second y)) (refusal_back x)
answer_back (Err (Neither x)) = ap (λ y. Err (Neither y)) (refusal_back x)

pub compose_only : (first second : List ℕ) (rows numbers : ℕ) (a b : Composed) (before t u : List ℕ)
    → Composes first second rows numbers a before t → Composes first second rows numbers b before u
    → (a ≡ b) × (t ≡ u)
compose_only first second rows numbers a b before t u p q = (
  sym (answer_back a) ∙ ap₂ answer_of (p.answers ∙ sym q.answers) (p.about ∙ sym q.about) ∙ answer_back b,
  p.output ∙ sym q.output,
)
