-- The swap program exchanges its two outputs, on every storage: the machine does, the program's set does, and so does the set in the file built.
use Rattle.std.specs.Prelude.{ℕ, ◌≡◌, Bool, true, false}
use Rattle.std.proofs.Math.Path.{refl}
use Rattle.std.proofs.Common.{ap, ◌∙◌}
use mathlib.Core.List.{List, [], ◌∷◌, flat_map}
use Rattle.rules.specs.Verdict.{granted}
use Rattle.rules.specs.Lists.{number_at, bytes_of, from, elem}
use Rattle.rules.specs.Edition.{old}
use Rattle.rules.specs.Shape.{shape_at, read_header, write_header}
use Rattle.rules.specs.Expr.{cell, eval, announced, read_expr, write_expr}
use Rattle.rules.specs.Instr.{PUSH, POP, LOAD, STORE, put, stack, pushed, popped, effect, effects, plain, END}
use Rattle.rules.specs.ProgramFile.{Program, form_of, read_instr, read_instrs, read_program, body_of, entries, write_program}
use Rattle.rules.specs.Machine.{due, stopped, perform, run, scan_from, scan_program}
use Rattle.rules.specs.Rows.{base, values, value, plan_bin, find, insert}
use Rattle.rules.specs.Sets.{act, unchanging, needs, carry, after, squeeze, each}
use Rattle.rules.specs.Build.{add_exp, own, turn, turns, transfer}
use Rattle.rules.specs.SetFile.{TransferSet, read_set}
use Rattle.rules.specs.Operations.{evaluate_set, set_of, program_set, build}
use Rattle.rules.specs.Bench.{swap}
use Rattle.laws.specs.Files.{old_sensible, build-accepted}

-- Two outputs over a stack of two: LOAD 0, PUSH, LOAD 1, STORE 0, POP, STORE 1, END. The file `swap` is read so.
abbrev pub swap_program : Program
swap_program = record {
  shape = record { depth = 2; inputs = 0; outputs = 2; memory = 0 };
  instrs = plain (LOAD (cell 0)) ∷ plain PUSH ∷ plain (LOAD (cell 1)) ∷ plain (STORE 0) ∷ plain POP ∷ plain (STORE 1) ∷ END ∷ [];
}

pub swap-read : read_program old swap ≡ granted swap_program
unfolding read_program read_header shape_at number_at read_instrs read_instr form_of read_expr announced write_program write_header bytes_of entries body_of write_expr flat_map
swap-read = refl

module _ (a b f e₁ e₂ : Bool) where
  -- A storage before, and the storage after: the outputs are exchanged, f is 1 and the stack is 0.
  abbrev pub before : List Bool
  before = a ∷ b ∷ f ∷ e₁ ∷ e₂ ∷ []

  abbrev pub exchanged : List Bool
  exchanged = b ∷ a ∷ true ∷ false ∷ false ∷ []

  -- The machine stops so after 7 steps,
  pub swap-is_a_swap : run swap_program 7 (due 0 before []) ≡ stopped exchanged
  unfolding run perform effects effect eval put stack pushed popped from
  swap-is_a_swap = refl

  -- and not sooner.
  pub swap-steps : scan_program swap_program 7 before ≡ granted (record { steps = 7; storage = exchanged })
  unfolding scan_from perform effects effect eval put stack pushed popped from
  swap-steps = refl

  -- Evaluating the program's set gives the same,
  pub swap_evaluates : evaluate_set (program_set swap_program) before ≡ exchanged
  unfolding set_of transfer turns turn own add_exp each effects effect put stack pushed popped from elem base values value plan_bin find insert act unchanging needs carry after squeeze
  swap_evaluates = refl

  -- and so does the set in any file that `build` writes of the file `swap`.
  pub swap-built : (rows numbers heads out : ℕ) (bytes : List ℕ) → build old swap rows numbers heads out ≡ granted bytes
      → (z : TransferSet) → read_set old bytes ≡ granted z → evaluate_set z before ≡ exchanged
  swap-built rows numbers heads out bytes q z r =
      let same : z ≡ program_set swap_program = cc
      (build-accepted old old_sensible swap rows numbers heads out swap_program bytes swap-read q) in
      ap (λ u. evaluate_set u before) same ∙ swap_evaluates
