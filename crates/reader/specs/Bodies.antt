-- The body at a place of a program file, as the code has it.
use Rattle.std.specs.Prelude.{ℕ, ◌+◌, ◌≡◌, refl, List, get_or}
use Rattle.std.proofs.Common.{sym}
use Rattle.rules.specs.Lists.{number_at}
use Rattle.rules.specs.ProgramFile.{alone, with_expr, with_var, with_label, unknown, codes, form_of}
use Rattle.reader.specs.declared.body.Body.{Body}
use Rattle.reader.specs.declared.body.Body.TheVariants.{Alone, Value, Variable, Label, Unknown}
use Rattle.reader.specs.declared.code.Code.{Code}
use Rattle.reader.specs.declared.code.Code.TheVariants as C
use Rattle.reader.specs.Codes.{form, on_alone, on_expr, on_variable, on_label, code_in, code_form}

-- R10: that code at p, and what follows it.
abbrev pub taken : Code → List ℕ → ℕ → Body
taken (C.Alone c) file p = Alone c
taken (C.Value c) file p = Value c (p + 1)
taken (C.Variable c) file p = Variable c (record { 0 = get_or file (p + 1) 0 })
taken (C.Label c) file p = Label c (record { 0 = number_at 2 file (p + 1) })
taken C.Unknown file p = Unknown

-- R10: the body at p, by its code.
unfoldable pub body_in : List ℕ → ℕ → Body
body_in file p = taken (code_in (get_or file p 0)) file p

pub body_is : (file : List ℕ) (p b : ℕ) (k : Code) → b ≡ get_or file p 0 → k ≡ code_in b → taken k file p ≡ body_in file p
unfolding body_in
body_is file p b k e q = rw (q, e)

-- R10: what a body has of the bytes at p: the form of its code is the one that the rules give the byte.
abbrev pub Matches : List ℕ → ℕ → Body → Type 0
Matches file p (Alone c) = form_of codes (get_or file p 0) ≡ alone (on_alone c)
Matches file p (Value c q) = (form_of codes (get_or file p 0) ≡ with_expr (on_expr c)) × (q ≡ p + 1)
Matches file p (Variable c b) = (form_of codes (get_or file p 0) ≡ with_var (on_variable c)) × (b.0 ≡ get_or file (p + 1) 0)
Matches file p (Label c l) = (form_of codes (get_or file p 0) ≡ with_label (on_label c)) × (l.0 ≡ number_at 2 file (p + 1))
Matches file p Unknown = form_of codes (get_or file p 0) ≡ unknown

pub body_matches : (file : List ℕ) (p : ℕ) (b : Body) → b ≡ body_in file p → Matches file p b
unfolding body_in
body_matches file p b e = rw e (go (code_in (get_or file p 0)) (code_form (get_or file p 0)))
  where
    go : (k : Code) → form k ≡ form_of codes (get_or file p 0) → Matches file p (taken k file p)
    go (C.Alone c) q = sym q
    go (C.Value c) q = (sym q, refl)
    go (C.Variable c) q = (sym q, refl)
    go (C.Label c) q = (sym q, refl)
    go C.Unknown q = sym q
