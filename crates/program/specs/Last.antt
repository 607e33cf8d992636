-- The last instruction is END exactly if its body is END's.
use Rattle.std.specs.Prelude.{ℕ, ◌-◌, ◌≤◌, ◌≡◌, refl, false, List, get_or}
use Rattle.std.proofs.Common.{ap, ◌∙◌, arith, zero-add}
use Rattle.rules.specs.Edition.{old}
use Rattle.rules.specs.Shape.{Shape, vars}
use Rattle.rules.specs.Expr.{Read}
use Rattle.rules.specs.Instr.{Instr, END}
use Rattle.rules.specs.ProgramFile.{is_end, read_instrs}
use Rattle.laws.specs.Verdict.{Grants, grants-map}
use Rattle.laws.specs.Decode.{instrs_stand}
use Rattle.reader.specs.declared.body.Body.{Body}
use Rattle.reader.specs.declared.body.Body.TheVariants.{Alone, Value, Variable, Label, Unknown}
use Rattle.reader.specs.declared.code.AloneCode.{AloneCode}
use Rattle.reader.specs.declared.code.AloneCode.TheVariants.{End}
use Rattle.reader.specs.declared.code.LabelCode.{LabelCode}
use Rattle.reader.specs.declared.code.LabelCode.TheVariants.{Jp, Jpc, Js, Jsc}
use Rattle.reader.specs.Codes.{on_alone, on_label}
use Rattle.program.specs.Stages.{instr_in, is_end_body, last_at}
use Rattle.program.specs.Codes.{Tells, body_tells}

-- R10, R14: an instruction is END exactly if its body is END's.
alone_ends : (c : AloneCode) → is_end (on_alone c) ≡ is_end_body (Alone c)
alone_ends End = refl
alone_ends c = refl

label_goes_on : (c : LabelCode) (l : ℕ) → is_end (on_label c l) ≡ false
label_goes_on Jp l = refl
label_goes_on Jpc l = refl
label_goes_on Js l = refl
label_goes_on Jsc l = refl

body_ends : (file : List ℕ) (v n i : ℕ) (x : Instr) (b : Body) → Tells file v n i x b → is_end x ≡ is_end_body b
body_ends file v n i x (Alone c) t = ap is_end t ∙ alone_ends c
body_ends file v n i x (Value c p) t = ap is_end t.3
body_ends file v n i x (Variable c b) t = ap is_end t.1
body_ends file v n i x (Label c l) t = ap is_end t.2 ∙ label_goes_on c l.0
body_ends file v n i x Unknown t = absurd t

-- R14: of n instructions the last is END exactly if its body is END's.
pub record Closing (file : List ℕ) (n : ℕ) (r : Read (List Instr)) : Type 0 where
  pub ending : is_end (get_or r.got (n - 1) END) ≡ is_end_body (instr_in file n (n - 1))

pub instrs_closing : (file : List ℕ) (sh : Shape) (n p : ℕ) → 1 ≤ n → Grants (Closing file n) (read_instrs old file sh n n p)
instrs_closing file sh n p h =
    grants-map (instrs_stand old file sh n n 0 p (zero-add n)) λ r s.
    let t = rw zero-add at (s (n - 1) (omega arith)) in
    let x = get_or r.got (n - 1) END in
    record { ending = body_ends file (vars sh) n (n - 1) x (instr_in file n (n - 1)) (body_tells file sh n (n - 1) (last_at file n) x t.inside t.says) }
