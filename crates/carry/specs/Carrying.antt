-- What rewriting the rows of the second set has to know and leaves, after so many rows.
use Rattle.std.specs.Prelude.{ℕ, ◌+◌, ◌-◌, ◌≤◌, ◌<◌, ◌≡◌, cond, List, map, length, get_or, ltb}
use Rattle.rules.specs.Edition.{old}
use Rattle.rules.specs.Lists.{number_at}
use Rattle.rules.specs.Shape.{cells, shape_at}
use Rattle.rules.specs.Rows.{Row, leaf, inv, bin, add}
use Rattle.rules.specs.Sets.{Carried, carry}
use Rattle.rules.specs.SetFile.{leaves, head_at}
use Rattle.base.specs.Answers.{Answer, shape_of}
use Rattle.base.specs.declared.shape.Shape.{Shape}
use Rattle.table.specs.declared.LentTable.{LentTable}
use Rattle.rows.specs.Table.{Stored, Ends}
use Rattle.sets.specs.Spelt.{set_in, rows_in, Taken}

-- An accepted file, with its shape as the code has it and the number of its rows; a table in which no row is used.
pub record Copied (file : List ℕ) (shape : Shape) (total : ℕ) (s : LentTable) : Type 0 where
  pub taken : Taken file
  pub shaped : shape_of shape ≡ shape_at old file
  pub whole : total ≡ length (set_in file).tab
  pub empty : s.state.used ≡ 0

-- R40: two accepted files with one shape, which the code has.
pub record Pair (first second : List ℕ) (shape : Shape) : Type 0 where
  pub one : Taken first
  pub two : Taken second
  pub shaped : shape_of shape ≡ shape_at old first
  pub same : shape_at old first ≡ shape_at old second

-- Row i is a constant, a cell whose head is in the first file, or an operation whose number was noted among n.
pub record Known (first : List ℕ) (leaves n i : ℕ) : Type 0 where
  pub head : 2 ≤ i → i < leaves → head_at old (i - 2) + 2 ≤ length first
  pub noted : leaves ≤ i → i - leaves < n

-- R34: the new number of row i of the second set.
unfoldable pub new_number : List ℕ → ℕ → List ℕ → ℕ → ℕ
new_number first leaves numbers i =
    cond (ltb i 2) i (cond (ltb i leaves) (number_at 2 first (head_at old (i - 2))) (get_or numbers (i - leaves) 0))

-- R34: a row with its operands renumbered.
abbrev pub renumbered : List ℕ → ℕ → List ℕ → Row → Row
renumbered first leaves numbers (leaf i) = leaf i
renumbered first leaves numbers (inv a) = inv (new_number first leaves numbers a)
renumbered first leaves numbers (bin o a b) = bin o (new_number first leaves numbers a) (new_number first leaves numbers b)

-- R34, R40: the first k rows of the second file's set carried to the first's.
abbrev pub carried : List ℕ → List ℕ → ℕ → Carried
carried first second k = carry add (set_in first).tab (set_in first).heads (set_in second).tab (set_in second).heads k

-- R34: after j operation rows what the rules have carried is stored, and their numbers are noted.
pub record Carrying (first second : List ℕ) (shape : Shape) (s : LentTable) (numbers : List ℕ) (j : ℕ) : Type 0 where
  pub pair : Pair first second shape
  pub low : j ≤ rows_in second
  pub long : rows_in second ≤ length numbers
  pub few : length (carried first second (leaves (shape_of shape) + j)).tab ≤ length (set_in first).tab + j
  pub stored : Stored s (carried first second (leaves (shape_of shape) + j)).tab
  pub noted : (i : ℕ) → i < j
      → get_or numbers i 0 ≡ get_or (carried first second (leaves (shape_of shape) + j)).new (leaves (shape_of shape) + i) 0

-- R34, R54: carrying up to row j, or no row is left for it.
abbrev pub Carries : List ℕ → List ℕ → Shape → LentTable → Answer (Unit {0}) → LentTable → List ℕ → ℕ → Type 0
Carries first second shape s r s' numbers' j = Ends s r (carried first second (leaves (shape_of shape) + j)).tab
    (λ _. Carrying first second shape s' numbers' j)

-- The heads of the second set can be renumbered into so many numbers.
pub record Moving (first second : List ℕ) (shape : Shape) (numbers : List ℕ) (n : ℕ) : Type 0 where
  pub pair : Pair first second shape
  pub long : rows_in second ≤ length numbers
  pub count : n ≡ cells (shape_of shape)

-- R34: the heads of the second set, renumbered.
abbrev pub new_heads : List ℕ → List ℕ → Shape → List ℕ → List ℕ
new_heads first second shape numbers = map (new_number first (leaves (shape_of shape)) numbers) (set_in second).heads
