-- Program files: reading, in the order in which the rules refuse, and writing.
use Rattle.std.specs.Prelude.{ℕ, zero, suc, ◌+◌, ◌-◌, ◌*◌, Bool, true, false, not, ◌&&◌, length, get_or, leb, ltb, eqb}
use mathlib.Core.List.{List, [], ◌∷◌, ◌++◌, flat_map}
use Rattle.rules.specs.Verdict.{Verdict, granted, refused, refuse_if, ◌>>=◌}
use Rattle.rules.specs.Lists.{number_at, bytes_of, or_else}
use Rattle.rules.specs.Edition.{Edition, count_at, header_end, most_instrs}
use Rattle.rules.specs.Shape.{Shape, vars, read_header, write_header}
use Rattle.rules.specs.Expr.{Exp, Read, read_expr, write_expr}
use Rattle.rules.specs.Instr.{Plain, INIT, NOT, TAND, TOR, PUSH, POP, DROP, DUP, FSWP, ESWP, LOAD, AND, OR, EPUSH, STORE, SET, RES, REDGE, FEDGE}
use Rattle.rules.specs.Instr.{Instr, plain, JP, JPC, JS, JSC, END}

-- R8: a shape and the instructions, numbered from 0.
pub record Program : Type 0 where
  pub shape : Shape
  pub instrs : List Instr

-- R10: what follows a code: nothing, an expression, a variable, a label; or there is no such code.
pub data Form : Type 0 where
  alone : Instr → Form
  with_expr : (Exp → Plain) → Form
  with_var : (ℕ → Plain) → Form
  with_label : (ℕ → Instr) → Form
  unknown : Form

-- R10: the codes.
abbrev pub codes : List (ℕ × Form)
codes =
    (0, alone (plain INIT)) ∷ (1, alone (plain NOT)) ∷ (2, alone (plain TAND)) ∷ (3, alone (plain TOR))
    ∷ (4, alone (plain PUSH)) ∷ (5, alone (plain POP)) ∷ (6, alone (plain DROP)) ∷ (7, alone (plain DUP))
    ∷ (8, alone (plain FSWP)) ∷ (9, alone (plain ESWP)) ∷ (10, alone END)
    ∷ (16, with_expr LOAD) ∷ (17, with_expr AND) ∷ (18, with_expr OR) ∷ (19, with_expr EPUSH)
    ∷ (32, with_var STORE) ∷ (33, with_var SET) ∷ (34, with_var RES) ∷ (35, with_var REDGE) ∷ (36, with_var FEDGE)
    ∷ (48, with_label JP) ∷ (49, with_label JPC) ∷ (50, with_label JS) ∷ (51, with_label JSC) ∷ []

-- R10: the form of a code.
unfoldable pub form_of : List (ℕ × Form) → ℕ → Form
form_of [] c = unknown
form_of (x ∷ xs) c = or_else (eqb x.0 c) x.1 (λ u. form_of xs c)

-- R12: a variable that an instruction may write: below V and no input.
abbrev pub writable : Shape → ℕ → Bool
writable sh b = leb sh.inputs b && ltb b (vars sh)

-- R10 to R13, R48: the body of instruction i of n, whose code, of that form, stands at p.
abbrev pub read_body : Edition → List ℕ → Shape → ℕ → ℕ → ℕ → Form → Verdict (Read Instr)
read_body e file sh n i p (alone x) = granted (record { got = x; next = suc p })
read_body e file sh n i p (with_expr g) = do
  x ← read_expr e.most_expr file (vars sh) (suc p + e.most_expr) (suc p)
  granted (record { got = plain (g x.got); next = x.next })
read_body e file sh n i p (with_var g) = do
  _ ← refuse_if (leb (length file) (suc p)) 1 (length file)
  b ← granted (get_or file (suc p) 0)
  _ ← refuse_if (not (writable sh b)) 7 (suc p)
  granted (record { got = plain (g b); next = suc p + 1 })
read_body e file sh n i p (with_label g) = do
  _ ← refuse_if (ltb (length file) (suc p + 2)) 1 (length file)
  l ← granted (number_at 2 file (suc p))
  _ ← refuse_if (not (ltb i l && ltb l n)) 8 (suc p)
  granted (record { got = g l; next = suc p + 2 })
read_body e file sh n i p unknown = refused 5 p

-- R9: where the contents entry of instruction i stands; past the n entries the first body begins.
abbrev pub entry_at : Edition → ℕ → ℕ
entry_at e i = header_end e + 2 * i

-- R9: where the body of instruction i of n stands, by its entry.
abbrev pub body_at : Edition → List ℕ → ℕ → ℕ → ℕ
body_at e file n i = entry_at e n + number_at 2 file (entry_at e i)

-- R9, R48: the instruction i of n whose body must stand at p: its entry, its code, its operand.
unfoldable pub read_instr : Edition → List ℕ → Shape → ℕ → ℕ → ℕ → Verdict (Read Instr)
read_instr e file sh n i p = do
  _ ← refuse_if (not (eqb (body_at e file n i) p)) 4 (entry_at e i)
  _ ← refuse_if (leb (length file) p) 1 (length file)
  read_body e file sh n i p (form_of codes (get_or file p 0))

-- R9, R48: the last k of n instructions, whose bodies stand one after another from p on.
unfoldable pub read_instrs : Edition → List ℕ → Shape → ℕ → ℕ → ℕ → Verdict (Read (List Instr))
read_instrs e file sh n zero p = granted (record { got = []; next = p })
read_instrs e file sh n (suc k) p = do
  x ← read_instr e file sh n (n - suc k) p
  xs ← read_instrs e file sh n k x.next
  granted (record { got = x.got ∷ xs.got; next = xs.next })

-- R14: whether an instruction is END.
abbrev pub is_end : Instr → Bool
is_end (plain p) = false
is_end (JP l) = false
is_end (JPC l) = false
is_end (JS l) = false
is_end (JSC l) = false
is_end END = true

-- R8, R14, R48: reads a program file: header, count, contents, instruction by instruction, nothing after them, END last.
unfoldable pub read_program : Edition → List ℕ → Verdict Program
read_program e file = do
  sh ← read_header e e.program_mark file
  n ← granted (number_at 2 file (count_at e))
  _ ← refuse_if (not (leb 1 n && leb n most_instrs)) 3 (count_at e)
  _ ← refuse_if (ltb (length file) (entry_at e n)) 1 (length file)
  xs ← read_instrs e file sh n n (entry_at e n)
  _ ← refuse_if (ltb xs.next (length file)) 4 xs.next
  _ ← refuse_if (not (is_end (get_or xs.got (n - 1) END))) 9 (body_at e file n (n - 1))
  granted (record { shape = sh; instrs = xs.got })

-- R10: the bytes of an instruction's body.
unfoldable pub body_of : Instr → List ℕ
body_of (plain INIT) = 0 ∷ []
body_of (plain NOT) = 1 ∷ []
body_of (plain TAND) = 2 ∷ []
body_of (plain TOR) = 3 ∷ []
body_of (plain PUSH) = 4 ∷ []
body_of (plain POP) = 5 ∷ []
body_of (plain DROP) = 6 ∷ []
body_of (plain DUP) = 7 ∷ []
body_of (plain FSWP) = 8 ∷ []
body_of (plain ESWP) = 9 ∷ []
body_of END = 10 ∷ []
body_of (plain (LOAD x)) = 16 ∷ write_expr x
body_of (plain (AND x)) = 17 ∷ write_expr x
body_of (plain (OR x)) = 18 ∷ write_expr x
body_of (plain (EPUSH x)) = 19 ∷ write_expr x
body_of (plain (STORE b)) = 32 ∷ b ∷ []
body_of (plain (SET b)) = 33 ∷ b ∷ []
body_of (plain (RES b)) = 34 ∷ b ∷ []
body_of (plain (REDGE b)) = 35 ∷ b ∷ []
body_of (plain (FEDGE b)) = 36 ∷ b ∷ []
body_of (JP l) = 48 ∷ bytes_of 2 l
body_of (JPC l) = 49 ∷ bytes_of 2 l
body_of (JS l) = 50 ∷ bytes_of 2 l
body_of (JSC l) = 51 ∷ bytes_of 2 l

-- R9: the contents entries of bodies whose first stands at offset p.
unfoldable pub entries : ℕ → List Instr → List ℕ
entries p [] = []
entries p (x ∷ xs) = bytes_of 2 p ++ entries (p + length (body_of x)) xs

-- R15: the file of a program.
unfoldable pub write_program : Edition → Program → List ℕ
write_program e P =
    write_header e e.program_mark P.shape (length P.instrs) ++ (entries 0 P.instrs ++ flat_map body_of P.instrs)
