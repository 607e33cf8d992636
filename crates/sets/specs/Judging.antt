-- What the check of a set file answers, and what its parts rely on.
use Rattle.std.specs.Prelude.{ℕ, ◌+◌, ◌≤◌, ◌<◌, ◌≡◌, Bool, true, not, ◌&&◌, List, length, get_or, leb, ltb, eqb}
use Rattle.rules.specs.Verdict.{Verdict, granted, refuse_if, ◌>>=◌}
use Rattle.rules.specs.Lists.{number_at}
use Rattle.rules.specs.Edition.{old, count_at, most_rows}
use Rattle.rules.specs.Shape.{Shape, cells}
use Rattle.rules.specs.Rows.{row_at, make, plan}
use Rattle.rules.specs.SetFile.{TransferSet, leaves, row_place, fits, named, check_rows, read_set}
use Rattle.laws.specs.Canonical.{Below}
use Rattle.laws.specs.Search.{last_of}
use Rattle.base.specs.Answers.{shape_of}
use Rattle.sets.specs.Spelt.{rows_in, set_with, spelt-shape, spelt-length, spelt-heads}
use Rattle.sets.specs.declared.read.SetFile.{SetFile}

-- R49, R65: checking a set file is reading it, and handing nothing back.
unfoldable pub set_verdict : List ℕ → Verdict (Unit {0})
set_verdict file = read_set old file >>= λ _. granted tt

-- R49: what a set file has after its header.
unfoldable pub rest_verdict : List ℕ → Shape → Verdict (Unit {0})
rest_verdict file sh = do
  _ ← refuse_if (ltb most_rows (leaves sh + rows_in file)) 3 (count_at old)
  _ ← refuse_if (ltb (length file) (row_place old sh (rows_in file))) 1 (length file)
  _ ← refuse_if (ltb (row_place old sh (rows_in file)) (length file)) 4 (row_place old sh (rows_in file))
  check_rows old (set_with file sh) (rows_in file)

-- R31: the set that a set file spells, and R26: how many rows its table has.
abbrev pub spells : SetFile → TransferSet
spells s = set_with s.file.now (shape_of s.shape)

abbrev pub rows_of : SetFile → ℕ
rows_of s = leaves (shape_of s.shape) + rows_in s.file.now

module _ (s : SetFile) where
  pub spells-shape : (spells s).shape ≡ shape_of s.shape
  spells-shape = spelt-shape s.file.now (shape_of s.shape) (rows_in s.file.now)

  pub spells-rows : length (spells s).tab ≡ rows_of s
  spells-rows = spelt-length s.file.now (shape_of s.shape) (rows_in s.file.now)

  pub spells-heads : length (spells s).heads ≡ cells (shape_of s.shape)
  spells-heads = spelt-heads s.file.now (shape_of s.shape) (rows_in s.file.now)

-- R43, R44: the tests that heads and rows are searched with: a head that is no row, a row that does not fit, one that nothing names.
abbrev pub bad_head : SetFile → ℕ → Bool
bad_head s c = leb (rows_of s) (get_or (spells s).heads c 0)

abbrev pub unfit : SetFile → ℕ → Bool
unfit s j = not (fits (spells s).tab (leaves (shape_of s.shape) + j))

abbrev pub unnamed : SetFile → ℕ → Bool
unnamed s j = not (named (spells s).tab (spells s).heads (leaves (shape_of s.shape) + j))

-- R26: row k is an operation row of the file. The row differs from call to call, so no type has it.
pub record Among (s : SetFile) (k : ℕ) : Type 0 where
  pub high : leaves (shape_of s.shape) ≤ k
  pub low : k < rows_of s

-- R43: the operation rows before row k fit.
abbrev pub FitBefore : SetFile → ℕ → Type 0
FitBefore s k = (i : ℕ) → leaves (shape_of s.shape) ≤ i → i < k → fits (spells s).tab i ≡ true

-- R43: row k comes after rows that fit, its operands are earlier, and the rule makes it as it stands; `last` is its larger operand.
pub record Made (s : SetFile) (k last : ℕ) : Type 0 where
  pub among : Among s k
  pub before : FitBefore s k
  pub below : Below k (row_at (spells s).tab k)
  pub made : plan (spells s).tab (row_at (spells s).tab k) ≡ make (row_at (spells s).tab k)
  pub larger : last ≡ last_of (row_at (spells s).tab k)

-- R42: whether the five bytes at two places are the same.
unfoldable pub same_at : List ℕ → ℕ → ℕ → Bool
same_at file p q =
    eqb (number_at 2 file (p + 3)) (number_at 2 file (q + 3))
    && (eqb (number_at 2 file (p + 1)) (number_at 2 file (q + 1)) && eqb (get_or file p 0) (get_or file q 0))
