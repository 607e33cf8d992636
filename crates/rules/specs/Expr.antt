-- Boolean expressions over cells: what they mean, and their bytes.
use Rattle.std.specs.Prelude.{ℕ, zero, suc, Bool, true, false, not, cond, ◌&&◌, ◌||◌, List, [], ◌∷◌, ◌++◌, length, get_or, leb, ltb, eqb}
use Rattle.rules.specs.Verdict.{Verdict, granted, refused, refuse_if, ◌>>=◌}

-- R11, R16: a constant, a cell, a negation, or AND (true) or OR (false) of two.
pub data Exp : Type 0 where
  con : Bool → Exp
  cell : ℕ → Exp
  neg : Exp → Exp
  bin : Bool → Exp → Exp → Exp

-- R11: AND (true) or OR (false) of two bits.
abbrev pub op : Bool → Bool → Bool → Bool
op true a b = a && b
op false a b = a || b

-- R11, R16: the value of an expression on a storage.
unfoldable pub eval : List Bool → Exp → Bool
eval s (con b) = b
eval s (cell c) = get_or s c false
eval s (neg x) = not (eval s x)
eval s (bin o x y) = op o (eval s x) (eval s y)

-- R9: what was read, and the place after it.
pub record Read (A : Type 0) : Type 0 where
  pub got : A
  pub next : ℕ

-- R11: what the first byte of an expression announces.
pub data Announced : Type 0 where
  leaf : Exp → Announced
  one : Announced
  two : Bool → Announced
  bad : Announced

-- R11: the expression bytes. A variable must be below v, the number of variables.
unfoldable pub announced : ℕ → ℕ → Announced
announced v b =
    cond (ltb b v) (leaf (cell b))
    (cond (eqb b 250) (leaf (con false))
    (cond (eqb b 251) (leaf (con true))
    (cond (eqb b 252) one
    (cond (eqb b 253) (two true)
    (cond (eqb b 254) (two false) bad)))))

-- R11: the rest of an expression after its first byte, which stands at p; `rec` reads an operand at a place.
abbrev pub read_operands : Announced → ℕ → (ℕ → Verdict (Read Exp)) → Verdict (Read Exp)
read_operands (leaf x) p rec = granted (record { got = x; next = suc p })
read_operands one p rec = do
  x ← rec (suc p)
  granted (record { got = neg x.got; next = x.next })
read_operands (two o) p rec = do
  x ← rec (suc p)
  y ← rec x.next
  granted (record { got = bin o x.got y.got; next = y.next })
read_operands bad p rec = refused 6 p

-- R11, R48: the expression at p, which must end by `stop`. k bounds the nesting so that reading ends; k = stop - p cuts none short.
unfoldable pub read_expr : ℕ → List ℕ → ℕ → ℕ → ℕ → Verdict (Read Exp)
read_expr zero file v stop p = refused 6 stop
read_expr (suc k) file v stop p = do
  _ ← refuse_if (leb stop p) 6 stop
  _ ← refuse_if (leb (length file) p) 1 (length file)
  read_operands (announced v (get_or file p 0)) p (read_expr k file v stop)

-- R11: the bytes of an expression, in prefix order.
unfoldable pub write_expr : Exp → List ℕ
write_expr (con b) = cond b 251 250 ∷ []
write_expr (cell c) = c ∷ []
write_expr (neg x) = 252 ∷ write_expr x
write_expr (bin o x y) = cond o 253 254 ∷ (write_expr x ++ write_expr y)
