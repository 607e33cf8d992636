-- What each code stands for, and that the codes and their bytes are those of the rules.
use Rattle.std.specs.Prelude.{ℕ, ◌≡◌, refl, Bool, true, false, cond, List, [], ◌∷◌, map, eqb}
use Rattle.rules.specs.Lists.{or_else}
use Rattle.rules.specs.Expr.{Exp}
use Rattle.rules.specs.Instr.{Plain, INIT, NOT, TAND, TOR, PUSH, POP, DROP, DUP, FSWP, ESWP, LOAD, AND, OR, EPUSH, STORE, SET, RES, REDGE, FEDGE}
use Rattle.rules.specs.Instr.{Instr, plain, JP, JPC, JS, JSC, END}
use Rattle.rules.specs.ProgramFile.{Form, alone, with_expr, with_var, with_label, unknown, codes, form_of}
use Rattle.reader.specs.declared.code.AloneCode.{AloneCode}
use Rattle.reader.specs.declared.code.AloneCode.TheVariants.{Init, Not, Tand, Tor, Push, Pop, Drop, Dup, Fswp, Eswp, End}
use Rattle.reader.specs.declared.code.ValueCode.{ValueCode}
use Rattle.reader.specs.declared.code.ValueCode.TheVariants.{Load, And, Or, Epush}
use Rattle.reader.specs.declared.code.VariableCode.{VariableCode}
use Rattle.reader.specs.declared.code.VariableCode.TheVariants.{Store, Set, Res, Redge, Fedge}
use Rattle.reader.specs.declared.code.LabelCode.{LabelCode}
use Rattle.reader.specs.declared.code.LabelCode.TheVariants.{Jp, Jpc, Js, Jsc}
use Rattle.reader.specs.declared.code.Code.{Code}
use Rattle.reader.specs.declared.code.Code.TheVariants.{Alone, Value, Variable, Label, Unknown}

-- R10, R20: what the code of an instruction that stands alone does to the cells: END leaves them as INIT does.
abbrev pub alone_of : AloneCode → Plain
alone_of Init = INIT
alone_of Not = NOT
alone_of Tand = TAND
alone_of Tor = TOR
alone_of Push = PUSH
alone_of Pop = POP
alone_of Drop = DROP
alone_of Dup = DUP
alone_of Fswp = FSWP
alone_of Eswp = ESWP
alone_of End = INIT

-- R10: the instruction that stands alone of a code.
abbrev pub on_alone : AloneCode → Instr
on_alone End = END
on_alone c = plain (alone_of c)

-- R10: every one but END is what it does to the cells.
pub alone-plain : (c : AloneCode) → (c ≡ End → ⊥) → on_alone c ≡ plain (alone_of c)
alone-plain End h = absurd (h refl)
alone-plain c h = refl

-- R10: the instruction of a code that takes an expression.
abbrev pub on_expr : ValueCode → Exp → Plain
on_expr Load = LOAD
on_expr And = AND
on_expr Or = OR
on_expr Epush = EPUSH

-- R10: the instruction of a code that takes a variable.
abbrev pub on_variable : VariableCode → ℕ → Plain
on_variable Store = STORE
on_variable Set = SET
on_variable Res = RES
on_variable Redge = REDGE
on_variable Fedge = FEDGE

-- R10: the instruction of a code that takes a label.
abbrev pub on_label : LabelCode → ℕ → Instr
on_label Jp = JP
on_label Jpc = JPC
on_label Js = JS
on_label Jsc = JSC

-- R10: the form of a code.
abbrev pub form : Code → Form
form (Alone c) = alone (on_alone c)
form (Value c) = with_expr (on_expr c)
form (Variable c) = with_var (on_variable c)
form (Label c) = with_label (on_label c)
form Unknown = unknown

-- R10: the codes, each with its byte.
abbrev pub bytes : List (ℕ × Code)
bytes =
    (0, Alone Init) ∷ (1, Alone Not) ∷ (2, Alone Tand) ∷ (3, Alone Tor) ∷ (4, Alone Push) ∷ (5, Alone Pop) ∷ (6, Alone Drop)
    ∷ (7, Alone Dup) ∷ (8, Alone Fswp) ∷ (9, Alone Eswp) ∷ (10, Alone End)
    ∷ (16, Value Load) ∷ (17, Value And) ∷ (18, Value Or) ∷ (19, Value Epush)
    ∷ (32, Variable Store) ∷ (33, Variable Set) ∷ (34, Variable Res) ∷ (35, Variable Redge) ∷ (36, Variable Fedge)
    ∷ (48, Label Jp) ∷ (49, Label Jpc) ∷ (50, Label Js) ∷ (51, Label Jsc) ∷ []

-- R10: they are those of the rules.
pub same_codes : map (λ x. (x.0, form x.1)) bytes ≡ codes
same_codes = refl

-- R10: the code that a byte is.
unfoldable pub code_among : List (ℕ × Code) → ℕ → Code
code_among [] b = Unknown
code_among (x ∷ xs) b = cond (eqb x.0 b) x.1 (code_among xs b)

abbrev pub code_in : ℕ → Code
code_in b = code_among bytes b

-- R10: a byte is a code of the form that the rules give it.
among_form : (xs : List (ℕ × Code)) (b : ℕ) → form (code_among xs b) ≡ form_of (map (λ x. (x.0, form x.1)) xs) b
unfolding code_among form_of
among_form [] b = refl
among_form (x ∷ xs) b = go (eqb x.0 b) (among_form xs b)
  where
    go : (t : Bool) → form (code_among xs b) ≡ form_of (map (λ y. (y.0, form y.1)) xs) b
        → form (cond t x.1 (code_among xs b)) ≡ or_else t (form x.1) (λ u. form_of (map (λ y. (y.0, form y.1)) xs) b)
    go true r = refl
    go false r = r

pub code_form : (b : ℕ) → form (code_in b) ≡ form_of codes b
code_form b = among_form bytes b
