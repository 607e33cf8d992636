-- A refusal is told by its number and its place, so two of the same answer are the same.
use Rattle.std.specs.Prelude.{ℕ, ◌≡◌, refl, cond, eqb, Ok, Err}
use Rattle.std.proofs.Common.{sym, ap, ◌∙◌}
use Rattle.rules.specs.Verdict.{Verdict, granted, refused}
use Rattle.base.specs.Answers.{Answer, number_of, place_of, verdict_of}
use Rattle.base.specs.declared.refusal.Refusal.{Refusal}
use Rattle.base.specs.declared.refusal.Refusal.TheVariants.{EndsEarly, WrongMark, OutOfRange, Misplaced, UnknownCode}
use Rattle.base.specs.declared.refusal.Refusal.TheVariants.{BadExpression, NotWritable, BadLabel, LastNotEnd, NoRoom}
use Rattle.base.specs.declared.refusal.Refusal.TheVariants.{BudgetSpent, ShapesDiffer, BadRow, BadStorage}

-- R46: the refusal with a number and a place.
abbrev pub refusal_of : ℕ → ℕ → Refusal
refusal_of n p =
    cond (eqb n 1) (EndsEarly p)
    (cond (eqb n 2) WrongMark
    (cond (eqb n 3) (OutOfRange p)
    (cond (eqb n 4) (Misplaced p)
    (cond (eqb n 5) (UnknownCode p)
    (cond (eqb n 6) (BadExpression p)
    (cond (eqb n 7) (NotWritable p)
    (cond (eqb n 8) (BadLabel p)
    (cond (eqb n 9) (LastNotEnd p)
    (cond (eqb n 10) (NoRoom p)
    (cond (eqb n 11) (BudgetSpent (record { 0 = p }))
    (cond (eqb n 12) ShapesDiffer
    (cond (eqb n 13) (BadRow p) (BadStorage p)))))))))))))

pub refusal_back : (x : Refusal) → refusal_of (number_of x) (place_of x) ≡ x
refusal_back (EndsEarly p) = refl
refusal_back WrongMark = refl
refusal_back (OutOfRange p) = refl
refusal_back (Misplaced p) = refl
refusal_back (UnknownCode p) = refl
refusal_back (BadExpression p) = refl
refusal_back (NotWritable p) = refl
refusal_back (BadLabel p) = refl
refusal_back (LastNotEnd p) = refl
refusal_back (NoRoom p) = refl
refusal_back (BudgetSpent i) = refl
refusal_back ShapesDiffer = refl
refusal_back (BadRow p) = refl
refusal_back (BadStorage p) = refl

-- The answer that a verdict is.
answer_of : {A : Type 0} → Verdict A → Answer A
answer_of (granted a) = Ok a
answer_of (refused n p) = Err (refusal_of n p)

answer_back : {A : Type 0} (r : Answer A) → answer_of (verdict_of r) ≡ r
unfolding answer_of
answer_back (Ok a) = refl
answer_back (Err x) = ap Err (refusal_back x)

-- R46, R47: two answers that are the same in the words of the rules are the same answer.
pub answer_only : {A : Type 0} (v : Verdict A) (a b : Answer A) → verdict_of a ≡ v → verdict_of b ≡ v → a ≡ b
answer_only v a b p q = sym (answer_back a) ∙ ap answer_of (p ∙ sym q) ∙ answer_back b
