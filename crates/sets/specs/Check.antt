-- What follows the header of a set file: a law for each answer of the code.
use Rattle.std.specs.Prelude.{ℕ, ◌+◌, ◌-◌, ◌≤◌, ◌<◌, ◌≡◌, Bool, not, List, length}
use Rattle.std.proofs.Math.Path.{refl}
use Rattle.std.proofs.Common.{arith}
use borrow.Author.Tests.{lt-ltb, le-ltb, not-false}
use Rattle.rules.specs.Verdict.{granted, refused}
use Rattle.rules.specs.Lists.{seek, refuse_first}
use Rattle.rules.specs.Edition.{old, most_rows}
use Rattle.rules.specs.Shape.{Shape, cells}
use Rattle.rules.specs.SetFile.{leaves, head_at, row_place, spelt, fits, named, check_rows}
use Rattle.laws.specs.Lists.{Searching}
use Rattle.base.specs.Answers.{Answer, shape_of, verdict_of}
use Rattle.sets.specs.declared.read.SetFile.{SetFile}
use Rattle.sets.specs.Judging.{spells, rest_verdict, bad_head, unfit, unnamed, FitBefore}
use Rattle.sets.specs.Spelt.{rows_in, set_with, Whole}

-- ---- the first row that does not pass

pub fit_before : (s : SetFile) (L j : ℕ) → L ≡ leaves (shape_of s.shape) → Searching (unfit s) 0 j → FitBefore s (L + j)
fit_before s L j e f i h l =
    let b = leaves (shape_of s.shape) in
    let z : b + (i - b) ≡ i = omega arith in
    rw z at (not-false (fits (spells s).tab (b + (i - b))) (f.none (i - b) (omega arith) (omega arith)))

-- R43, R44: the test of row j by the answer for row L + j.
module _ (s : SetFile) (L j : ℕ) (e : L ≡ leaves (shape_of s.shape)) (d : Bool) where
  pub unfit-row : d ≡ fits (spells s).tab (L + j) → not d ≡ unfit s j
  unfit-row f = rw (f, e) refl

  pub unnamed-row : d ≡ named (spells s).tab (spells s).heads (L + j) → not d ≡ unnamed s j
  unnamed-row f = rw (f, e) refl

-- ---- heads and rows

module _ (bad : ℕ → Bool) (n number : ℕ) (place : ℕ → ℕ) (c : ℕ) (e : c ≡ seek bad n 0) where
  first-bad : c < n → refuse_first bad n number place ≡ refused number (place c)
  first-bad h = rw (← e, lt-ltb c n h) refl

  first-none : n ≤ c → refuse_first bad n number place ≡ granted tt
  first-none h = rw (← e, le-ltb c n h) refl

module _ (s : SetFile) (c : ℕ) (e : c ≡ seek (bad_head s) (cells (shape_of s.shape)) 0) where
  abbrev sh : Shape
  sh = shape_of s.shape

  abbrev n : ℕ
  n = rows_in s.file.now

  pub rows_head : c < cells sh → refused 13 (head_at old c) ≡ check_rows old (spells s) n
  unfolding check_rows spelt
  rows_head h = rw (first-bad (bad_head s) (cells sh) 13 (head_at old) c e h) refl

  module _ (h : cells sh ≤ c) (R : ℕ) (r : R ≡ n) (j : ℕ) (f : j ≡ seek (unfit s) n 0) where
    pub rows-unfit : j < R → (p : ℕ) → p ≡ row_place old sh j → refused 13 p ≡ check_rows old (spells s) n
    unfolding check_rows spelt
    rows-unfit l p q = rw (
      first-none (bad_head s) (cells sh) 13 (head_at old) c e h,
      first-bad (unfit s) n 13 (row_place old sh) j f (omega arith),
      q,
    ) refl

    module _ (l : R ≤ j) (k : ℕ) (g : k ≡ seek (unnamed s) n 0) where
      pub rows-unnamed : k < R → (p : ℕ) → p ≡ row_place old sh k → refused 13 p ≡ check_rows old (spells s) n
      unfolding check_rows spelt
      rows-unnamed m p q = rw (
        first-none (bad_head s) (cells sh) 13 (head_at old) c e h,
        first-none (unfit s) n 13 (row_place old sh) j f (omega arith),
        first-bad (unnamed s) n 13 (row_place old sh) k g (omega arith),
        q,
      ) refl

      pub rows-good : R ≤ k → granted tt ≡ check_rows old (spells s) n
      unfolding check_rows spelt
      rows-good m = rw (
        first-none (bad_head s) (cells sh) 13 (head_at old) c e h,
        first-none (unfit s) n 13 (row_place old sh) j f (omega arith),
        first-none (unnamed s) n 13 (row_place old sh) k g (omega arith),
      ) refl

-- ---- what follows the header

module _ (file : List ℕ) (sh : Shape) (R : ℕ) (r : R ≡ rows_in file) where
  pub rest-count : most_rows < leaves sh + R → refused 3 5 ≡ rest_verdict file sh
  unfolding rest_verdict
  rest-count h = rw (← r, lt-ltb most_rows (leaves sh + R) h) refl

  module _ (h : leaves sh + R ≤ most_rows) (end : ℕ) (e : end ≡ row_place old sh R) where
    pub rest_short : length file < end → refused 1 (length file) ≡ rest_verdict file sh
    unfolding rest_verdict
    rest_short l = rw (← r, le-ltb most_rows (leaves sh + R) h, ← e, lt-ltb (length file) end l) refl

    module _ (l : end ≤ length file) where
      pub rest-long : end < length file → refused 4 end ≡ rest_verdict file sh
      unfolding rest_verdict
      rest-long m =
          rw (← r, le-ltb most_rows (leaves sh + R) h, ← e, le-ltb (length file) end l, lt-ltb end (length file) m) refl

      module _ (m : length file ≤ end) where
        pub rest-whole : Whole file sh
        rest-whole = record { size = omega arith; room = omega arith }

        pub rest-rows : (k : Answer (Unit {0})) → verdict_of k ≡ check_rows old (set_with file sh) (rows_in file)
            → verdict_of k ≡ rest_verdict file sh
        unfolding rest_verdict
        rest-rows k c =
            rw (← r, le-ltb most_rows (leaves sh + R) h, ← e, le-ltb (length file) end l, le-ltb end (length file) m)
            (rw (← r) at c)
