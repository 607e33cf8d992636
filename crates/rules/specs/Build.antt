-- Building: an instruction's own set, and T(i) from the last instruction up.
use Rattle.std.specs.Prelude.{ℕ, suc, ◌-◌, cond, List, [], ◌∷◌, get_or}
use Rattle.rules.specs.Shape.{Shape, flag, cells}
use Rattle.rules.specs.Expr.{Exp, con, cell, neg, bin}
use Rattle.rules.specs.Instr.{Plain, INIT, effects, Instr, plain, JP, JPC, JS, JSC, END}
use Rattle.rules.specs.ProgramFile.{Program}
use Rattle.rules.specs.Rows.{Row, inv, base, row_of_cell, Added, add}
use Rattle.rules.specs.Sets.{Heads, after, each, choice}

-- R37: adds the rows of an expression: left operand, right operand, then the outer row.
unfoldable pub add_exp : List Row → Exp → Added
add_exp t (con b) = record { tab = t; row = cond b 1 0 }
add_exp t (cell c) = record { tab = t; row = row_of_cell c }
add_exp t (neg x) =
    let a = add_exp t x in
    add a.tab (inv a.row)
add_exp t (bin o x y) =
    let a = add_exp t x in
    let b = add_exp a.tab y in
    add b.tab (Rattle.rules.specs.Rows.bin o a.row b.row)

-- R37: an instruction's own set: the rows of each cell's expression, cells in order.
unfoldable pub own : List Row → Shape → Plain → Heads
own t sh p = each add_exp t (effects sh p)

-- R38: what stands once T(n-1) down to T(i) are built: the one table, and the heads of T(i), T(i+1) and on.
pub record Built : Type 0 where
  pub tab : List Row
  pub sets : List (List ℕ)

-- R38: T(l), where T(i) and on are built.
abbrev pub set_at : Built → ℕ → ℕ → List ℕ
set_at b i l = get_or b.sets (l - i) []

-- R38: the heads of T(i) over a table t, where instruction i is given and T tells T(i+1) and on.
abbrev pub turn_heads : Shape → ℕ → Instr → List Row → (ℕ → List ℕ) → Heads
turn_heads sh i (plain p) t T =
    let o = own t sh p in
    after o.tab o.heads o.tab (T (suc i))
turn_heads sh i (JP l) t T = record { tab = t; heads = T l }
turn_heads sh i (JPC l) t T = choice t (row_of_cell (flag sh)) (T l) (T (suc i))
turn_heads sh i (JS l) t T = after t (T l) t (T (suc i))
turn_heads sh i (JSC l) t T =
    let a = after t (T l) t (T (suc i)) in
    choice a.tab (row_of_cell (flag sh)) a.heads (T (suc i))
turn_heads sh i END t T = own t sh INIT

-- R38: one turn of building.
unfoldable pub turn : Shape → ℕ → Instr → Built → Built
turn sh i x b =
    let h = turn_heads sh i x b.tab (set_at b (suc i)) in
    record { tab = h.tab; sets = h.heads ∷ b.sets }

-- R38: the turns for the instructions xs, whose first is number i, the last instruction first.
unfoldable pub turns : Shape → ℕ → List Instr → Built
turns sh i [] = record { tab = base (cells sh); sets = [] }
turns sh i (x ∷ xs) = turn sh i x (turns sh (suc i) xs)

-- R39: the program's set, T(0), over all rows that building added.
unfoldable pub transfer : Program → Heads
transfer P =
    let b = turns P.shape 0 P.instrs in
    record { tab = b.tab; heads = set_at b 0 0 }
