-- The row table and the rule that adds a row to it.
use Rattle.std.specs.Prelude.{ℕ, zero, suc, ◌+◌, min, max, Bool, true, false, cond, not, ◌&&◌, List, [], ◌∷◌, ◌++◌, map, get_or, eqb}
use Rattle.rules.specs.Lists.{from}
use Rattle.rules.specs.Expr.{op}

-- R26: row i of the constants and cells is leaf i; an operation row is NOT a, or AND (true) or OR (false) of a and b.
pub data Row : Type 0 where
  leaf : ℕ → Row
  inv : ℕ → Row
  bin : Bool → ℕ → ℕ → Row

-- R26: the table of C cells before any operation; the row of a cell.
unfoldable pub base : ℕ → List Row
base C = map leaf (from 0 (2 + C))

abbrev pub row_of_cell : ℕ → ℕ
row_of_cell c = suc (suc c)

-- R26: row i of a table.
abbrev pub row_at : List Row → ℕ → Row
row_at t i = get_or t i (leaf 0)

-- R42: a row's kind and operands as numbers, as its file has them.
abbrev pub kind : Row → ℕ
kind (leaf i) = 0
kind (inv a) = 1
kind (bin true a b) = 2
kind (bin false a b) = 3

abbrev pub left : Row → ℕ
left (leaf i) = i
left (inv a) = a
left (bin o a b) = a

abbrev pub right : Row → ℕ
right (leaf i) = 0
right (inv a) = 0
right (bin o a b) = b

-- R30: whether two rows are the same.
abbrev pub same : Row → Row → Bool
same q r = eqb (kind q) (kind r) && (eqb (left q) (left r) && eqb (right q) (right r))

-- R27: the value of a row on a storage s, where vs has the values of the rows before it.
abbrev pub row_value : List Bool → List Bool → Row → Bool
row_value s vs (leaf i) = get_or (false ∷ true ∷ s) i false
row_value s vs (inv a) = not (get_or vs a false)
row_value s vs (bin o a b) = op o (get_or vs a false) (get_or vs b false)

-- R27: the values of the rows of a table, after those in vs.
unfoldable pub values : List Bool → List Bool → List Row → List Bool
values s vs [] = vs
values s vs (r ∷ t) = values s (vs ++ (row_value s vs r ∷ [])) t

-- R27: the value of row i.
unfoldable pub value : List Row → List Bool → ℕ → Bool
value t s i = get_or (values s [] t) i false

-- R28 to R30: what the rule does with an operation. have: the result is this row already. make: this row is looked for, and
-- appended if there is none.
pub data Plan : Type 0 where
  have : ℕ → Plan
  make : Row → Plan

-- R28: NOT of row a, which is r.
abbrev pub plan_not : ℕ → Row → Plan
plan_not zero r = have 1
plan_not (suc zero) r = have 0
plan_not (suc (suc a)) (leaf i) = make (inv (suc (suc a)))
plan_not (suc (suc a)) (inv b) = have b
plan_not (suc (suc a)) (bin o b c) = make (inv (suc (suc a)))

-- R29: the constant that decides AND (OR), and the one that leaves the other operand.
abbrev pub absorbing : Bool → ℕ
absorbing true = 0
absorbing false = 1

abbrev pub neutral : Bool → ℕ
neutral true = 1
neutral false = 0

-- R29: AND or OR of the rows a and b. They are p and q, which today's rule does not look at.
unfoldable pub plan_bin : Bool → ℕ → Row → ℕ → Row → Plan
plan_bin o a p b q =
    cond (eqb a (absorbing o)) (have a)
    (cond (eqb b (absorbing o)) (have b)
    (cond (eqb a (neutral o)) (have b)
    (cond (eqb b (neutral o)) (have a)
    (cond (eqb a b) (have a)
    (make (bin o (min a b) (max a b)))))))

-- R28, R29: the plan for an operation over the rows of a table.
abbrev pub plan : List Row → Row → Plan
plan t (leaf i) = have i
plan t (inv a) = plan_not a (row_at t a)
plan t (bin o a b) = plan_bin o a (row_at t a) b (row_at t b)

-- R30: the number of the first row that is r, or the number that r gets at the end.
unfoldable pub find : List Row → Row → ℕ
find [] r = 0
find (q ∷ t) r = cond (same q r) 0 (suc (find t r))

-- R30: the table in which r stands: as it is if r is there, else with r at its end.
unfoldable pub insert : List Row → Row → List Row
insert [] r = r ∷ []
insert (q ∷ t) r = q ∷ cond (same q r) t (insert t r)

-- R30: a table after an addition, and the row that was asked for.
pub record Added : Type 0 where
  pub tab : List Row
  pub row : ℕ

abbrev pub settle : List Row → Plan → Added
settle t (have i) = record { tab = t; row = i }
settle t (make r) = record { tab = insert t r; row = find t r }

-- R28 to R30: adding an operation to a table.
abbrev pub add : List Row → Row → Added
add t r = settle t (plan t r)
