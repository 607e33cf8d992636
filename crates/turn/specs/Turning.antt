-- What a turn of building has to know, and what it leaves.
use Rattle.std.specs.Prelude.{ℕ, suc, ◌*◌, ◌≤◌, ◌<◌, ◌≡◌, List, length, take, drop}
use Rattle.rules.specs.Shape as R
use Rattle.rules.specs.Shape.{cells, flag}
use Rattle.rules.specs.Rows.{row_of_cell}
use Rattle.rules.specs.Sets.{Heads, after, choice}
use Rattle.rules.specs.Build as B
use Rattle.rules.specs.Build.{set_at, turn_heads, turns}
use Rattle.base.specs.Answers.{Answer, shape_of}
use Rattle.base.specs.declared.shape.Shape.{Shape}
use Rattle.reader.specs.declared.code.LabelCode.{LabelCode}
use Rattle.reader.specs.declared.code.LabelCode.TheVariants.{Jp, Jpc, Js, Jsc}
use Rattle.program.specs.Standing.{program_in, instr_at, Standing}
use Rattle.table.specs.declared.LentTable.{LentTable}
use Rattle.table.specs.Append.{room_of}
use Rattle.rows.specs.Table.{Stored, Ends}
use Rattle.rows.specs.Making.{Draws}
use Rattle.rewrite.specs.Follow.{Following}

-- R38: what the rules have built when T(n-1) down to T(i) are.
abbrev pub built : List ℕ → ℕ → B.Built
built file i = turns (program_in file).shape i (drop i (program_in file).instrs)

-- R38: the heads of T(l) of C cells, in the one slice of heads.
abbrev pub slot : ℕ → List ℕ → ℕ → List ℕ
slot C heads l = take C (drop (l * C) heads)

-- R38: the table of what is built from T(i) on is stored, and the heads of these are in their slots.
pub record Building (file : List ℕ) (sh : Shape) (n : ℕ) (s : LentTable) (heads : List ℕ) (i : ℕ) : Type 0 where
  pub standing : Standing file sh n 0
  pub high : i ≤ n
  pub heads_lent : n * cells (shape_of sh) ≤ length heads
  pub stored : Stored s (built file i).tab
  pub slots : (l : ℕ) → i ≤ l → l < n → slot (cells (shape_of sh)) heads l ≡ set_at (built file i) i l

-- R38: the heads of the turn of instruction i.
abbrev pub turn_at : List ℕ → ℕ → Heads
turn_at file i = turn_heads (program_in file).shape i (instr_at file i) (built file (suc i)).tab (set_at (built file (suc i)) (suc i))

-- T(i+1) and on are built, and there is room for the heads of T(i).
pub record Turning (file : List ℕ) (sh : Shape) (n i : ℕ) (s : LentTable) (numbers : ℕ) (heads made : List ℕ) : Type 0 where
  pub low : i < n
  pub built-on : Building file sh n s heads (suc i)
  pub numbers_lent : room_of s ≤ numbers
  pub count : length made ≡ cells (shape_of sh)

-- R38: the heads of a jump or call by its code, where X is T(l), and y is T(i+1).
abbrev pub jumped : R.Shape → LabelCode → Heads → List ℕ → Heads
jumped sh Jp X y = X
jumped sh Jpc X y = choice X.tab (row_of_cell (flag sh)) X.heads y
jumped sh Js X y = after X.tab X.heads X.tab y
jumped sh Jsc X y =
    let a = after X.tab X.heads X.tab y in
    choice a.tab (row_of_cell (flag sh)) a.heads y

-- R38: what is left stands for the jump or call from any heads that `made` stood for.
abbrev pub Jumps : R.Shape → LabelCode → List ℕ → LentTable → ℕ → List ℕ → Answer (Unit {0}) → LentTable → List ℕ → Type 0
Jumps sh code y s numbers made r s' made' = (w : Following sh y s numbers made) → Draws s r s' made' (jumped sh code w.first y)

-- R38, R54: T(i) and on are built, or no row is left for them.
abbrev pub Builds : List ℕ → Shape → ℕ → LentTable → Answer (Unit {0}) → LentTable → List ℕ → ℕ → Type 0
Builds file sh n s r s' heads' i = Ends s r (built file i).tab (λ _. Building file sh n s' heads' i)
