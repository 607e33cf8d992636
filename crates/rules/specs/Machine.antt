-- The stepping machine, and a scan within a budget.
use Rattle.std.specs.Prelude.{ℕ, zero, suc, Bool, false, cond, List, [], ◌∷◌, map, get_or}
use Rattle.rules.specs.Verdict.{Verdict, granted, refused}
use Rattle.rules.specs.Shape.{Shape, flag}
use Rattle.rules.specs.Expr.{eval}
use Rattle.rules.specs.Instr.{Plain, INIT, effects, Instr, plain, JP, JPC, JS, JSC, END}
use Rattle.rules.specs.ProgramFile.{Program}

-- R16: the storage after an instruction: every cell's expression on the storage before.
unfoldable pub perform : Shape → Plain → List Bool → List Bool
perform sh p s = map (eval s) (effects sh p)

-- R21: the instruction due, the storage and the return list, the place noted last first; or the storage at the stop.
pub data State : Type 0 where
  due : ℕ → List Bool → List ℕ → State
  stopped : List Bool → State

-- R23: back to the place noted last, or the stop.
abbrev pub back : List Bool → List ℕ → State
back s [] = stopped s
back s (i ∷ r) = due i s r

-- R20, R22, R23: instruction i on a storage s and a return list r.
abbrev pub obey : Shape → Instr → ℕ → List Bool → List ℕ → State
obey sh (plain p) i s r = due (suc i) (perform sh p s) r
obey sh (JP l) i s r = due l s r
obey sh (JPC l) i s r = due (cond (get_or s (flag sh) false) l (suc i)) s r
obey sh (JS l) i s r = due l s (suc i ∷ r)
obey sh (JSC l) i s r = cond (get_or s (flag sh) false) (due l s (suc i ∷ r)) (due (suc i) s r)
obey sh END i s r = back (perform sh INIT s) r

-- R24: one step; a stopped machine stays so.
abbrev pub step : Program → State → State
step P (stopped s) = stopped s
step P (due i s r) = obey P.shape (get_or P.instrs i END) i s r

-- R24: k steps.
unfoldable pub run : Program → ℕ → State → State
run P zero z = z
run P (suc k) z = run P k (step P z)

-- R25: what a scan hands back: the number of steps, and the storage.
pub record Scanned : Type 0 where
  pub steps : ℕ
  pub storage : List Bool

-- R25, R46: steps until the stop, of which n are done, with a budget for k more.
unfoldable pub scan_from : Program → ℕ → ℕ → State → Verdict Scanned
scan_from P zero n (due i s r) = refused 11 i
scan_from P zero n (stopped s) = granted (record { steps = n; storage = s })
scan_from P (suc k) n (due i s r) = scan_from P k (suc n) (step P (due i s r))
scan_from P (suc k) n (stopped s) = granted (record { steps = n; storage = s })

-- R25: a scan begins at instruction 0 with the storage as lent and nothing noted.
abbrev pub scan_program : Program → ℕ → List Bool → Verdict Scanned
scan_program P budget s = scan_from P budget 0 (due 0 s [])
