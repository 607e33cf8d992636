-- What the laws say of tables, sets and programs: the properties that building keeps and that files are checked for. No proofs here.
use Rattle.std.specs.Prelude.{ℕ, suc, ◌+◌, ◌^◌, ◌≤◌, ◌<◌, ◌≡◌, true, List, length, get_or}
use Rattle.rules.specs.Verdict.{granted}
use Rattle.rules.specs.Edition.{Edition, most_rows, most_instrs}
use Rattle.rules.specs.Shape.{vars, cells, check_shape}
use Rattle.rules.specs.Expr.{Exp, con, cell, neg, bin}
use Rattle.rules.specs.Instr.{Plain, INIT, NOT, TAND, TOR, PUSH, POP, DROP, DUP, FSWP, ESWP, LOAD, AND, OR, EPUSH, STORE, SET, RES, REDGE, FEDGE}
use Rattle.rules.specs.Instr.{Instr, plain, JP, JPC, JS, JSC, END}
use Rattle.rules.specs.ProgramFile.{Program}
use Rattle.rules.specs.Rows.{Row, leaf, inv, row_at, make, plan}
use Rattle.rules.specs.SetFile.{TransferSet, leaves, named}

-- Every operand of a row has the property.
abbrev pub Operands : (ℕ → Type 0) → Row → Type 0
Operands Q (leaf i) = Unit {0}
Operands Q (inv a) = Q a
Operands Q (Rattle.rules.specs.Rows.bin o a b) = Q a × Q b

-- The operands of a row are below k.
abbrev pub Below : ℕ → Row → Type 0
Below k r = Operands (λ a. a < k) r

-- A table of C cells that the rule could have made: leaves first, then rows that it could append, operands earlier, no two equal.
pub record Canonical (C : ℕ) (t : List Row) : Type 0 where
  pub long : 2 + C ≤ length t
  pub leaf-at : (i : ℕ) → i < 2 + C → row_at t i ≡ leaf i
  pub earlier : (i : ℕ) → 2 + C ≤ i → i < length t → Below i (row_at t i)
  pub normal : (i : ℕ) → 2 + C ≤ i → i < length t → plan t (row_at t i) ≡ make (row_at t i)
  pub distinct : (i j : ℕ) → i < j → j < length t → row_at t i ≡ row_at t j → ⊥

-- An edition whose counts fit their bytes.
pub record Sensible (e : Edition) : Type 0 where
  pub counts_fit : e.most_vars < 256 ^ e.count_bytes

-- A set that has a file: its shape is allowed, its table canonical, its heads are rows, every operation row is named, and it has room.
pub record Proper (e : Edition) (z : TransferSet) : Type 0 where
  pub shaped : check_shape e z.shape ≡ granted tt
  pub canonical : Canonical (cells z.shape) z.tab
  pub count : length z.heads ≡ cells z.shape
  pub rows : (c : ℕ) → get_or z.heads c 0 < length z.tab
  pub names : (k : ℕ) → leaves z.shape ≤ k → k < length z.tab → named z.tab z.heads k ≡ true
  pub room : length z.tab ≤ most_rows

-- The cells of an expression are below k.
abbrev pub Over : ℕ → Exp → Type 0
Over k (con b) = Unit {0}
Over k (cell c) = c < k
Over k (neg x) = Over k x
Over k (bin o x y) = Over k x × Over k y

-- An instruction that names only variables below v.
abbrev pub Names : ℕ → Plain → Type 0
Names v (LOAD x) = Over v x
Names v (AND x) = Over v x
Names v (OR x) = Over v x
Names v (EPUSH x) = Over v x
Names v (STORE b) = b < v
Names v (SET b) = b < v
Names v (RES b) = b < v
Names v (REDGE b) = b < v
Names v (FEDGE b) = b < v
Names v INIT = Unit {0}
Names v NOT = Unit {0}
Names v TAND = Unit {0}
Names v TOR = Unit {0}
Names v PUSH = Unit {0}
Names v POP = Unit {0}
Names v DROP = Unit {0}
Names v DUP = Unit {0}
Names v FSWP = Unit {0}
Names v ESWP = Unit {0}

-- Instruction i of n is well formed: variables below v, a later instruction to go to, labels later and below n.
abbrev pub Fine : ℕ → ℕ → ℕ → Instr → Type 0
Fine v n i (plain p) = Names v p × (suc i < n)
Fine v n i (JP l) = (i < l) × (l < n)
Fine v n i (JPC l) = (i < l) × (l < n)
Fine v n i (JS l) = (i < l) × (l < n)
Fine v n i (JSC l) = (i < l) × (l < n)
Fine v n i END = Unit {0}

pub record WellFormed (P : Program) : Type 0 where
  pub deep : 2 ≤ P.shape.depth
  pub some : 1 ≤ length P.instrs
  pub most : length P.instrs ≤ most_instrs
  pub fine : (i : ℕ) → i < length P.instrs → Fine (vars P.shape) (length P.instrs) i (get_or P.instrs i END)
