-- What the shared types of the code mean in the words of the rules.
use Rattle.std.specs.Prelude.{ℕ, ◌≡◌, refl, Result, Ok, Err, MatchResult}
use Rattle.std.proofs.Common.{ap}
use Rattle.std.specs.Result.{IsErrAnd}
use Rattle.rules.specs.Verdict.{Verdict, granted, refused}
use Rattle.rules.specs.Shape as R
use Rattle.base.specs.declared.shape.Shape.{Shape}
use Rattle.base.specs.declared.refusal.Refusal.{Refusal}
use Rattle.base.specs.declared.refusal.Refusal.TheVariants.{EndsEarly, WrongMark, OutOfRange, Misplaced, UnknownCode, BadExpression}
use Rattle.base.specs.declared.refusal.Refusal.TheVariants.{NotWritable, BadLabel, LastNotEnd, NoRoom, BudgetSpent, ShapesDiffer, BadRow, BadStorage}

-- The shape of the rules that a shape of the code is.
abbrev pub shape_of : Shape → R.Shape
shape_of s = record { depth = s.depth; inputs = s.inputs; outputs = s.outputs; memory = s.memory }

-- R46: the number of a refusal, and its place.
abbrev pub number_of : Refusal → ℕ
number_of (EndsEarly p) = 1
number_of WrongMark = 2
number_of (OutOfRange p) = 3
number_of (Misplaced p) = 4
number_of (UnknownCode p) = 5
number_of (BadExpression p) = 6
number_of (NotWritable p) = 7
number_of (BadLabel p) = 8
number_of (LastNotEnd p) = 9
number_of (NoRoom p) = 10
number_of (BudgetSpent i) = 11
number_of ShapesDiffer = 12
number_of (BadRow p) = 13
number_of (BadStorage p) = 14

abbrev pub place_of : Refusal → ℕ
place_of (EndsEarly p) = p
place_of WrongMark = 0
place_of (OutOfRange p) = p
place_of (Misplaced p) = p
place_of (UnknownCode p) = p
place_of (BadExpression p) = p
place_of (NotWritable p) = p
place_of (BadLabel p) = p
place_of (LastNotEnd p) = p
place_of (NoRoom p) = p
place_of (BudgetSpent i) = i.0
place_of ShapesDiffer = 0
place_of (BadRow p) = p
place_of (BadStorage p) = p

-- R46: the answer that a refusal is.
abbrev pub refused_by : {A : Type 0} → Refusal → Verdict A
refused_by x = refused (number_of x) (place_of x)

-- R46: what an operation of the code answers: what it hands back, or a refusal.
abbrev pub Answer : Type 0 → Type 0
Answer A = Result A Refusal

-- R46: the same in the words of the rules.
abbrev pub verdict_of : {A : Type 0} → Answer A → Verdict A
verdict_of (Ok a) = granted a
verdict_of (Err x) = refused_by x

-- What a `?` passes on is the error that it found.
pub passed : {A E : Type 0} {r : Result A E} {x : E} → IsErrAnd r (λ y. y ≡ x) → r ≡ Err x
passed {r = Err y} e = ap Err e
passed {r = Ok a} e = absurd e

-- What `map_err` leaves by f: what was granted stays, and an error e becomes f e.
module _ {A D E : Type 0} (f : E → D) (r : Result A E) (q : Result A D)
    (m : MatchResult r (λ a. q ≡ Ok a) (λ e. IsErrAnd q (λ d. d ≡ f e))) where
  pub mapped_ok : (a : A) → q ≡ Ok a → r ≡ Ok a
  mapped_ok a e = go r refl m
    where
      go : (s : Result A E) → r ≡ s → MatchResult s (λ a. q ≡ Ok a) (λ e. IsErrAnd q (λ d. d ≡ f e)) → r ≡ Ok a
      go (Ok b) z n = cc
      go (Err x) z n = let p : q ≡ Err (f x) = passed n in absurd (cc)

  pub mapped_err : (d : D) → q ≡ Err d → (x : E) × (r ≡ Err x) × (d ≡ f x)
  mapped_err d e = go r refl m
    where
      go : (s : Result A E) → r ≡ s → MatchResult s (λ a. q ≡ Ok a) (λ e. IsErrAnd q (λ d. d ≡ f e)) → (x : E) × (r ≡ Err x) × (d ≡ f x)
      go (Ok b) z n = absurd (cc)
      go (Err x) z n = let p : q ≡ Err (f x) = passed n in (x, z, cc)
