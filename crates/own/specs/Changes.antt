-- An instruction's effect as a move of the stack, one cell that gets what another has, and the main cell's expression.
use Rattle.std.specs.Prelude.{ℕ, ◌+◌, ◌-◌, ◌≤◌, ◌<◌, ◌≡◌, false, List, map, set}
use Rattle.rules.specs.Lists.{from}
use Rattle.rules.specs.Shape as R
use Rattle.rules.specs.Shape.{flag, cells}
use Rattle.rules.specs.Expr.{Exp, con, cell}
use Rattle.rules.specs.Instr.{Plain, INIT, NOT, TAND, TOR, PUSH, POP, DROP, DUP, FSWP, ESWP, LOAD, AND, OR, EPUSH, STORE, SET, RES, REDGE, FEDGE}
use Rattle.rules.specs.Instr.{put, keep, stack, e, popped, effect}
use Rattle.rules.specs.Rows.{row_of_cell}
use Rattle.laws.specs.Own.{simple_row}
use Rattle.base.specs.declared.shape.Shape.{Shape}
use Rattle.base.specs.declared.kinds.Cell.{Cell}
use Rattle.base.specs.Answers.{shape_of}
use Rattle.own.specs.declared.heads.Move.{Move}
use Rattle.own.specs.declared.heads.Move.TheVariants.{Kept, Pushed, Popped, Reset}
use Rattle.own.specs.declared.heads.Change.{Change}

-- R1, R2: a shape whose stack has two cells, and whose cells have numbers of 16 bits with room to spare.
pub record Inside (sh : Shape) : Type 0 where
  pub deep : 2 ≤ sh.depth
  pub most : cells (shape_of sh) ≤ 217

-- R17 to R19: the main cell of an instruction: only its expression can be no constant and no cell.
unfoldable pub place_of : R.Shape → Plain → ℕ
place_of sh INIT = flag sh
place_of sh NOT = flag sh
place_of sh TAND = flag sh
place_of sh TOR = flag sh
place_of sh PUSH = flag sh + 1
place_of sh POP = flag sh
place_of sh DROP = flag sh
place_of sh DUP = flag sh + 1
place_of sh FSWP = flag sh
place_of sh ESWP = flag sh + 1
place_of sh (LOAD x) = flag sh
place_of sh (AND x) = flag sh
place_of sh (OR x) = flag sh
place_of sh (EPUSH x) = flag sh + 1
place_of sh (STORE b) = b
place_of sh (SET b) = b
place_of sh (RES b) = b
place_of sh (REDGE b) = flag sh
place_of sh (FEDGE b) = flag sh

-- R17 to R19: its expression.
abbrev pub main_of : R.Shape → Plain → Exp
main_of sh p = effect sh p (place_of sh p)

-- R16 to R19: what each cell gets by a move of the stack.
abbrev pub moved_by : R.Shape → Move → ℕ → Exp
moved_by sh Kept = keep
moved_by sh Pushed = stack sh (λ k. e sh (k - 1))
moved_by sh Popped = popped sh
moved_by sh Reset = stack sh (λ k. con false)

-- R37: the heads by a move of the stack.
abbrev pub moved_heads : R.Shape → Move → List ℕ
moved_heads sh m = map (λ c. simple_row (moved_by sh m c)) (from 0 (cells sh))

-- R16: what each cell but the main one gets by a change.
abbrev pub rest_by : R.Shape → Change → ℕ → Exp
rest_by sh x = put x.target.0 (cell x.source.0) (moved_by sh x.stack)

-- R37: the heads by a change, with the row r of the main cell.
abbrev pub changed : R.Shape → Change → ℕ → List ℕ
changed sh x r = set (set (moved_heads sh x.stack) x.target.0 (row_of_cell x.source.0)) x.main.0 r

-- R16, R19: the change x is a move and a main cell alone.
abbrev pub One : Change → Move → Cell → Type 0
One x m k = (x.stack ≡ m) × (x.source ≡ k) × (x.target ≡ k) × (x.main ≡ k)

-- R16: x is what p changes.
pub record Changes (sh : R.Shape) (p : Plain) (x : Change) : Type 0 where
  pub source : x.source.0 < cells sh
  pub target : x.target.0 < cells sh
  pub main : x.main.0 < cells sh
  pub place : x.main.0 ≡ place_of sh p
  pub rest : (c : ℕ) → (c ≡ x.main.0 → ⊥) → effect sh p c ≡ rest_by sh x c
