-- Reading a body for the place after it, by the body's parts.
use Rattle.std.specs.Prelude.{ℕ, suc, ◌+◌, ◌≤◌, ◌<◌, ◌≡◌, refl, Bool, true, false, not, ◌&&◌, List, leb, ltb, length, get_or}
use Rattle.std.proofs.Common.{sym, ap, ◌∙◌, arith, le-leb, lt-ltb, le-ltb}
use Rattle.std.proofs.lemmas.Bool.{lt-leb}
use Rattle.rules.specs.Verdict.{Verdict, granted, refused}
use Rattle.rules.specs.Lists.{number_at}
use Rattle.rules.specs.Edition.{old}
use Rattle.rules.specs.Shape.{Shape, vars}
use Rattle.rules.specs.Expr.{read_expr}
use Rattle.rules.specs.Instr.{plain}
use Rattle.rules.specs.ProgramFile.{writable, read_body}
use Rattle.program.specs.Stages.{ends, variable_at, label_at, body_read}
use Rattle.program.specs.Chains.{ends-made, ends-checked}
use Rattle.reader.specs.Codes.{on_variable, on_label, form, code_in, code_form}
use Rattle.reader.specs.Bodies.{taken, body_in}
use Rattle.reader.specs.declared.body.Body.{Body}
use Rattle.reader.specs.declared.body.Body.TheVariants.{Alone, Value, Variable, Label, Unknown}
use Rattle.reader.specs.declared.code.Code.{Code}
use Rattle.reader.specs.declared.code.Code.TheVariants as C

-- R12, R48: a variable that is to be written.
module _ (file : List ℕ) (sh : Shape) (q : ℕ) where
  pub variable_short : length file ≤ q → refused 1 (length file) ≡ variable_at file sh q
  unfolding variable_at
  variable_short l = rw (le-leb (length file) q l)

  module _ (b : ℕ) (r : Bool) (l : q < length file) (e : b ≡ get_or file q 0) (w : r ≡ writable sh b) where
    pub variable_refused : not r ≡ true → refused 7 q ≡ variable_at file sh q
    unfolding variable_at
    variable_refused t = rw (lt-leb (length file) q l, ← e, ← w, t)

    pub variable_read : not r ≡ false → granted (q + 1) ≡ variable_at file sh q
    unfolding variable_at
    variable_read t = rw (lt-leb (length file) q l, ← e, ← w, t)

-- R13, R48: a label of instruction i of n.
module _ (file : List ℕ) (n i q : ℕ) where
  pub label_short : length file < q + 2 → refused 1 (length file) ≡ label_at file n i q
  unfolding label_at
  label_short l = rw (lt-ltb (length file) (q + 2) l)

  module _ (l : ℕ) (r : Bool) (h : q + 2 ≤ length file) (e : l ≡ number_at 2 file q) (w : r ≡ (ltb i l && ltb l n)) where
    pub label_refused : not r ≡ true → refused 8 q ≡ label_at file n i q
    unfolding label_at
    label_refused t = rw (le-ltb (length file) (q + 2) h, ← e, ← w, t)

    pub label_read : not r ≡ false → granted (q + 2) ≡ label_at file n i q
    unfolding label_at
    label_read t = rw (le-ltb (length file) (q + 2) h, ← e, ← w, t)

-- R10 to R13, R48: where the body at p ends.
abbrev pub end_of : List ℕ → Shape → ℕ → ℕ → ℕ → Body → Verdict ℕ
end_of file sh n i p (Alone c) = granted (p + 1)
end_of file sh n i p (Value c q) = ends (read_expr 64 file (vars sh) (p + 65) q)
end_of file sh n i p (Variable c b) = variable_at file sh (p + 1)
end_of file sh n i p (Label c l) = label_at file n i (p + 1)
end_of file sh n i p Unknown = refused 5 p

pub body_ends : (file : List ℕ) (sh : Shape) (n i p : ℕ) → ends (body_read file sh n i p) ≡ end_of file sh n i p (body_in file p)
unfolding body_in variable_at label_at
body_ends file sh n i p = rw (← code_form (get_or file p 0)) (go (code_in (get_or file p 0)))
  where
    one : p + 1 ≡ suc p
    one = omega arith

    go : (k : Code) → ends (read_body old file sh n i p (form k)) ≡ end_of file sh n i p (taken k file p)
    go (C.Alone c) = ap granted (sym one)
    go (C.Value c) =
        let q : p + 65 ≡ suc p + 64 = omega arith in
        rw (one, q) (ends-made (read_expr 64 file (vars sh) (suc p + 64) (suc p)) _)
    go (C.Variable c) =
        let b = get_or file (suc p) 0 in
        rw one (ends-checked (leb (length file) (suc p)) (not (writable sh b)) 1 (length file) 7 (suc p) (suc p + 1) (plain (on_variable c b)))
    go (C.Label c) =
        let l = number_at 2 file (suc p) in
        rw one (ends-checked (ltb (length file) (suc p + 2)) (not (ltb i l && ltb l n)) 1 (length file) 8 (suc p) (suc p + 2) (on_label c l))
    go C.Unknown = refl

-- R10, R48: so a body with the parts b ends.
pub found : (file : List ℕ) (sh : Shape) (n i p : ℕ) (b : Body) → b ≡ body_in file p → {r : Verdict ℕ} → r ≡ end_of file sh n i p b
    → r ≡ ends (body_read file sh n i p)
found file sh n i p b e h = h ∙ ap (end_of file sh n i p) e ∙ sym (body_ends file sh n i p)
