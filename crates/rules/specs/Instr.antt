-- Instructions, and the one table of what they do to the cells (Tables 3.7 and 3.8 of the thesis).
use Rattle.std.specs.Prelude.{ℕ, suc, ◌+◌, ◌-◌, true, false, cond, List, map, ltb, eqb}
use Rattle.rules.specs.Lists.{from}
use Rattle.rules.specs.Shape.{Shape, flag, cells}
use Rattle.rules.specs.Expr.{Exp, con, cell, neg, bin}

-- R10, R22: the instructions after which the next one is due.
pub data Plain : Type 0 where
  INIT NOT TAND TOR PUSH POP DROP DUP FSWP ESWP : Plain
  LOAD AND OR EPUSH : Exp → Plain
  STORE SET RES REDGE FEDGE : ℕ → Plain

-- R10: an instruction; a label is an instruction's number.
pub data Instr : Type 0 where
  plain : Plain → Instr
  JP JPC JS JSC : ℕ → Instr
  END : Instr

-- R16: cell c's new value: x if c is b, else what g gives.
unfoldable pub put : ℕ → Exp → (ℕ → Exp) → ℕ → Exp
put b x g c = cond (eqb c b) x (g c)

-- R16: every cell kept.
abbrev pub keep : ℕ → Exp
keep c = cell c

-- R16: e_k gets g k, and the cells before the stack are kept.
unfoldable pub stack : Shape → (ℕ → Exp) → ℕ → Exp
stack sh g c = cond (ltb (flag sh) c) (g (c - flag sh)) (cell c)

-- R2: f and e_k as expressions.
abbrev pub f : Shape → Exp
f sh = cell (flag sh)

abbrev pub e : Shape → ℕ → Exp
e sh k = cell (flag sh + k)

-- R19: x comes on top of the stack, and e_d is lost.
unfoldable pub pushed : Shape → Exp → ℕ → Exp
pushed sh x = stack sh (λ k. cond (eqb k 1) x (e sh (k - 1)))

-- R19: e1 is taken off the stack, and e_d becomes 0.
unfoldable pub popped : Shape → ℕ → Exp
popped sh = stack sh (λ k. cond (eqb k sh.depth) (con false) (e sh (suc k)))

-- R16 to R19: what each instruction gives each cell, all from the storage before it.
unfoldable pub effect : Shape → Plain → ℕ → Exp
effect sh INIT = put (flag sh) (con true) (stack sh (λ k. con false))
effect sh (LOAD x) = put (flag sh) x keep
effect sh (AND x) = put (flag sh) (bin true (f sh) x) keep
effect sh (OR x) = put (flag sh) (bin false (f sh) x) keep
effect sh NOT = put (flag sh) (neg (f sh)) keep
effect sh TAND = put (flag sh) (bin true (f sh) (e sh 1)) keep
effect sh TOR = put (flag sh) (bin false (f sh) (e sh 1)) keep
effect sh (STORE b) = put b (f sh) keep
effect sh (SET b) = put b (bin false (f sh) (cell b)) keep
effect sh (RES b) = put b (bin true (neg (f sh)) (cell b)) keep
effect sh (REDGE b) = put (flag sh) (bin true (f sh) (neg (cell b))) (put b (f sh) keep)
effect sh (FEDGE b) = put (flag sh) (bin true (neg (f sh)) (cell b)) (put b (f sh) keep)
effect sh PUSH = pushed sh (f sh)
effect sh (EPUSH x) = pushed sh x
effect sh POP = put (flag sh) (e sh 1) (popped sh)
effect sh DROP = popped sh
effect sh DUP = pushed sh (e sh 1)
effect sh FSWP = put (flag sh) (e sh 1) (put (flag sh + 1) (f sh) keep)
effect sh ESWP = put (flag sh + 1) (e sh 2) (put (flag sh + 2) (e sh 1) keep)

-- R16: the expressions of all cells, in the cells' order.
unfoldable pub effects : Shape → Plain → List Exp
effects sh p = map (effect sh p) (from 0 (cells sh))
