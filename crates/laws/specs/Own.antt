-- An instruction's own set where every cell but one gets a constant or what a cell has: only that one's rows are added.
use Rattle.std.specs.Prelude.{ℕ, zero, suc, ◌+◌, ◌<◌, ◌≡◌, refl, cond, List, ◌∷◌, map, set}
use Rattle.std.proofs.Common.{ap, ◌∙◌, arith, add-zero, zero-add}
use Rattle.rules.specs.Lists.{from}
use Rattle.rules.specs.Shape.{Shape, cells}
use Rattle.rules.specs.Expr.{Exp, con, cell, neg, bin}
use Rattle.rules.specs.Instr.{Plain, effect, effects}
use Rattle.rules.specs.Rows.{Row, row_of_cell, Added}
use Rattle.rules.specs.Sets.{Heads, each}
use Rattle.rules.specs.Build.{add_exp, own}
use Rattle.laws.specs.After.{over}

-- An expression that is a constant or a cell.
abbrev pub Simple : Exp → Type 0
Simple (con b) = Unit {0}
Simple (cell c) = Unit {0}
Simple (neg x) = ⊥
Simple (bin o x y) = ⊥

-- R26: its row.
abbrev pub simple_row : Exp → ℕ
simple_row (con b) = cond b 1 0
simple_row (cell c) = row_of_cell c
simple_row (neg x) = 0
simple_row (bin o x y) = 0

-- R37: adding it leaves the table.
pub simple_added : (t : List Row) (x : Exp) → Simple x → add_exp t x ≡ record { tab = t; row = simple_row x }
unfolding add_exp
simple_added t (con b) s = refl
simple_added t (cell c) s = refl
simple_added t (neg x) s = absurd s
simple_added t (bin o x y) s = absurd s

-- The heads of n cells from i on that g gives the expressions of.
abbrev heads : (ℕ → Exp) → ℕ → ℕ → List ℕ
heads g i n = map (λ c. simple_row (g c)) (from i n)

-- What is left after the first cell.
abbrev next : Added → List Exp → Heads
next a xs = record { tab = (each add_exp a.tab xs).tab; heads = a.row ∷ (each add_exp a.tab xs).heads }

all_simple : (g : ℕ → Exp) (i n : ℕ) (t : List Row) → ((c : ℕ) → i < suc c → Simple (g c))
    → each add_exp t (map g (from i n)) ≡ over t (heads g i n)
unfolding each from
all_simple g i zero t s = refl
all_simple g i (suc n) t s =
    ap (λ a. next a (map g (from (suc i) n))) (simple_added t (g i) (s i (omega arith)))
    ∙ ap (λ h. over h.tab (simple_row (g i) ∷ h.heads)) (all_simple g (suc i) n t (λ c h. s c (omega arith)))

one_added : (g : ℕ → Exp) (i n k : ℕ) (t : List Row) → k < n → ((c : ℕ) → (c ≡ i + k → ⊥) → Simple (g c))
    → each add_exp t (map g (from i n)) ≡ over (add_exp t (g (i + k))).tab (set (heads g i n) k (add_exp t (g (i + k))).row)
unfolding each from
one_added g i zero k t h s = absurd (omega arith)
one_added g i (suc n) zero t h s =
    let a = add_exp t (g i) in
    rw add-zero
    (ap (λ z. over z.tab (a.row ∷ z.heads)) (all_simple g (suc i) n a.tab (λ c l. s c (λ e. omega arith))))
one_added g i (suc n) (suc k) t h s =
    let z : i + suc k ≡ suc i + k = omega arith in
    let rest = one_added g (suc i) n k t (omega arith) (λ c l. s c (λ e. l (omega arith))) in
    rw z
    (ap (λ a. next a (map g (from (suc i) n))) (simple_added t (g i) (s i (λ e. omega arith)))
    ∙ ap (λ h. over h.tab (simple_row (g i) ∷ h.heads)) rest)

-- R37: the own set of p, where every cell but k gets a constant or what a cell has.
pub own-one : (t : List Row) (sh : Shape) (p : Plain) (k : ℕ) → k < cells sh → ((c : ℕ) → (c ≡ k → ⊥) → Simple (effect sh p c))
    → own t sh p ≡ over (add_exp t (effect sh p k)).tab
    (set (map (λ c. simple_row (effect sh p c)) (from 0 (cells sh))) k (add_exp t (effect sh p k)).row)
unfolding own effects
own-one t sh p k h s = rw zero-add at (one_added (effect sh p) 0 (cells sh) k t h (rw zero-add s))
