-- Sets over a table: evaluating, reaching, one after another, choosing, and the set in its own numbering.
use Rattle.std.specs.Prelude.{ℕ, zero, suc, Bool, true, false, cond, length, get_or, eqb}
use mathlib.Core.List.{List, [], ◌∷◌, ◌++◌, map, zip}
use Rattle.rules.specs.Lists.{from, elem}
use Rattle.rules.specs.Rows.{Row, leaf, inv, bin, base, row_at, value, Added, add}

-- R31: a table and a head, a row number, for each cell.
pub record Heads : Type 0 where
  pub tab : List Row
  pub heads : List ℕ

-- R31: evaluating: every cell gets the value of its head on the storage before.
unfoldable pub act : List Row → List ℕ → List Bool → List Bool
act t x s = map (value t s) x

-- R32: the set that changes nothing: each cell's head is the cell's own row.
unfoldable pub unchanging : ℕ → List ℕ
unchanging C = from 2 C

-- R26: the rows that a row names.
abbrev pub operands : Row → List ℕ
operands (leaf i) = []
operands (inv a) = a ∷ []
operands (bin o a b) = a ∷ b ∷ []

-- R33: x, and all that its rows below k reach; from the highest row down, since rows name only earlier ones.
unfoldable pub needs : List Row → ℕ → List ℕ → List ℕ
needs t zero x = x
needs t (suc k) x = needs t k (cond (elem k x) (operands (row_at t k) ++ x) x)

-- R33: whether the heads x reach row k.
abbrev pub reaches : List Row → List ℕ → ℕ → Bool
reaches t x k = elem k (needs t (length t) x)

-- R34: a table that rows are carried to, and the new number of each row carried so far.
pub record Carried : Type 0 where
  pub tab : List Row
  pub new : List ℕ

-- R34: carries one row over: a constant stays, cell c becomes x's head c, an operation is put with its operands renumbered.
abbrev pub carry_one : (List Row → Row → Added) → List ℕ → Carried → Row → Added
carry_one put x m (leaf i) = record { tab = m.tab; row = get_or (0 ∷ 1 ∷ x) i 0 }
carry_one put x m (inv a) = put m.tab (inv (get_or m.new a 0))
carry_one put x m (bin o a b) = put m.tab (bin o (get_or m.new a 0) (get_or m.new b 0))

-- R34: carries a row over if it is reached; one that is not gets a filler 0 that nothing uses.
abbrev pub carry_row : (List Row → Row → Added) → List ℕ → Carried → Row → Bool → Carried
carry_row put x m r false = record { tab = m.tab; new = m.new ++ (0 ∷ []) }
carry_row put x m r true =
    let a = carry_one put x m r in
    record { tab = a.tab; new = m.new ++ (a.row ∷ []) }

-- R34: carries those of the first k rows of u that y reaches to t, lowest number first, by `put`.
unfoldable pub carry : (List Row → Row → Added) → List Row → List ℕ → List Row → List ℕ → ℕ → Carried
carry put t x u y zero = record { tab = t; new = [] }
carry put t x u y (suc k) = carry_row put x (carry put t x u y k) (row_at u k) (reaches u y k)

-- R34: the heads y where all rows that they reach have been carried.
abbrev pub moved : Carried → List ℕ → Heads
moved m y = record { tab = m.tab; heads = map (λ h. get_or m.new h 0) y }

-- R34: the set (u, y) after the set (t, x): y's rows added to t by the rule.
unfoldable pub after : List Row → List ℕ → List Row → List ℕ → Heads
after t x u y = moved (carry add t x u y (length u)) y

-- R36: puts a row at the end, whatever stands in the table.
abbrev pub append : List Row → Row → Added
append t r = record { tab = t ++ (r ∷ []); row = length t }

-- R36: a set of C cells as its file has it: the rows that its heads reach, in order, renumbered.
unfoldable pub squeeze : ℕ → List Row → List ℕ → Heads
squeeze C t x = moved (carry append (base C) (unchanging C) t x (length t)) x

-- R35, R37: the heads that `put` gives for a list, one after another, in one table.
unfoldable pub each : {A : Type 0} → (List Row → A → Added) → List Row → List A → Heads
each put t [] = record { tab = t; heads = [] }
each put t (x ∷ xs) =
    let a = put t x in
    let rest = each put a.tab xs in
    record { tab = rest.tab; heads = a.row ∷ rest.heads }

-- R35: four operations that give x if row f is 1, else y.
unfoldable pub four_rows : List Row → ℕ → ℕ → ℕ → Added
four_rows t f x y =
    let n = add t (inv f) in
    let a = add n.tab (bin true f x) in
    let b = add a.tab (bin true n.row y) in
    add b.tab (bin false a.row b.row)

-- R35: one cell's choice by row f of the heads x and y: equal heads are kept.
unfoldable pub choose : List Row → ℕ → ℕ → ℕ → Added
choose t f x y = cond (eqb x y) (record { tab = t; row = x }) (four_rows t f x y)

-- R35: choice by row f of the sets x and y, cells in order.
unfoldable pub choice : List Row → ℕ → List ℕ → List ℕ → Heads
choice t f x y = each (λ u p. choose u f p.0 p.1) t (zip x y)
