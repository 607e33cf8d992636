-- A storage as the bytes that are lent, and the stores that the instructions are made of.
use Rattle.std.specs.Prelude.{ℕ, ◌+◌, ◌-◌, ◌≤◌, min, max, ◌≡◌, Bool, List, [], ◌∷◌, ◌++◌, map, length, get_or, set, take, drop, replicate, eqb}
use Rattle.rules.specs.Shape.{Shape, flag, cells}
use Rattle.rules.specs.Expr.{Exp, eval}
use Rattle.rules.specs.Instr.{Plain, INIT, NOT, TAND, TOR, PUSH, POP, DROP, DUP, FSWP, ESWP}
use Rattle.rules.specs.Instr.{LOAD, AND, OR, EPUSH, STORE, SET, RES, REDGE, FEDGE}
use Rattle.rules.specs.Operations.{bit}

-- R3: the bits that bytes stand for.
abbrev pub bits_of : List ℕ → List Bool
bits_of s = map (eqb 1) s

-- R11, R16: the byte of an expression's value.
abbrev pub byte_of : List ℕ → Exp → ℕ
byte_of s x = bit (eval (bits_of s) x)

-- R3: each byte is 0 or 1.
abbrev pub Bits : List ℕ → Type 0
Bits s = (c : ℕ) → get_or s c 0 ≤ 1

-- R3: bytes that are a storage of a shape.
pub record Storage (sh : Shape) (s : List ℕ) : Type 0 where
  pub size : length s ≡ cells sh
  pub bits : Bits s

-- R19: x comes on top of the stack, which begins after the flag, and the last cell is lost.
abbrev pub push_on : ℕ → ℕ → List ℕ → List ℕ
push_on flag x s = take (flag + 1) s ++ (x ∷ take (length s - flag - 2) (drop (flag + 1) s))

-- R19: the top of the stack is taken off, and the last cell becomes 0.
abbrev pub drop_top : ℕ → List ℕ → List ℕ
drop_top flag s = take (flag + 1) s ++ (drop (flag + 2) s ++ (0 ∷ []))

-- R17: the flag becomes 1 and every cell of the stack 0.
abbrev pub reset_from : ℕ → List ℕ → List ℕ
reset_from flag s = take flag s ++ (1 ∷ replicate (length s - flag - 1) 0)

-- R16 to R19: the bytes after each instruction; where an operand x is meant, its value is worked out on the bits.
unfoldable pub stored : Shape → List ℕ → Plain → List ℕ
stored sh s INIT = reset_from (flag sh) s
stored sh s (LOAD x) = set s (flag sh) (byte_of s x)
stored sh s (AND x) = set s (flag sh) (min (get_or s (flag sh) 0) (byte_of s x))
stored sh s (OR x) = set s (flag sh) (max (get_or s (flag sh) 0) (byte_of s x))
stored sh s NOT = set s (flag sh) (1 - get_or s (flag sh) 0)
stored sh s TAND = set s (flag sh) (min (get_or s (flag sh) 0) (get_or s (flag sh + 1) 0))
stored sh s TOR = set s (flag sh) (max (get_or s (flag sh) 0) (get_or s (flag sh + 1) 0))
stored sh s (STORE b) = set s b (get_or s (flag sh) 0)
stored sh s (SET b) = set s b (max (get_or s (flag sh) 0) (get_or s b 0))
stored sh s (RES b) = set s b (min (1 - get_or s (flag sh) 0) (get_or s b 0))
stored sh s (REDGE b) = set (set s b (get_or s (flag sh) 0)) (flag sh) (min (get_or s (flag sh) 0) (1 - get_or s b 0))
stored sh s (FEDGE b) = set (set s b (get_or s (flag sh) 0)) (flag sh) (min (1 - get_or s (flag sh) 0) (get_or s b 0))
stored sh s PUSH = push_on (flag sh) (get_or s (flag sh) 0) s
stored sh s (EPUSH x) = push_on (flag sh) (byte_of s x) s
stored sh s POP = set (drop_top (flag sh) s) (flag sh) (get_or s (flag sh + 1) 0)
stored sh s DROP = drop_top (flag sh) s
stored sh s DUP = push_on (flag sh) (get_or s (flag sh + 1) 0) s
stored sh s FSWP = set (set s (flag sh + 1) (get_or s (flag sh) 0)) (flag sh) (get_or s (flag sh + 1) 0)
stored sh s ESWP = set (set s (flag sh + 2) (get_or s (flag sh + 1) 0)) (flag sh + 1) (get_or s (flag sh + 2) 0)
