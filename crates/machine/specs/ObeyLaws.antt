-- What one instruction does, from its code, the bytes after it and the storage.
use Rattle.std.specs.Prelude.{ℕ, suc, ◌+◌, ◌≤◌, ◌<◌, ◌≡◌, List, length}
use Rattle.std.proofs.Common.{sym, ◌∙◌, arith}
use Rattle.std.proofs.Math.Path.{ap}
use Rattle.rules.specs.Shape as R
use Rattle.rules.specs.Shape.{vars, flag, cells}
use Rattle.rules.specs.Instr.{Plain, INIT, plain, END}
use Rattle.rules.specs.Machine.{perform}
use Rattle.rules.specs.Operations.{storage_bytes}
use Rattle.base.specs.declared.kinds.Cell.{Cell}
use Rattle.base.specs.declared.kinds.Instr.{Instr}
use Rattle.base.specs.Answers.{shape_of}
use Rattle.storage.specs.Cells.{bits_of, byte_of, Storage, stored}
use Rattle.storage.specs.Stores.{bits_back, performed_storage}
use Rattle.storage.proofs.Stored.{perform-stored}
use Rattle.machine.specs.declared.obey.Move.TheVariants.{On}
use Rattle.machine.specs.declared.obey.Move.TheVariants as M
use Rattle.instruction.specs.declared.eval.Valued.{Valued}
use Rattle.program.specs.Accepted.{stands}
use Rattle.program.specs.Programs.{Told}
use Rattle.program.specs.declared.file.Program.{Program}
use Rattle.reader.specs.Codes.{alone_of, on_expr, on_variable, alone-plain}
use Rattle.reader.specs.declared.body.Body.{Body}
use Rattle.reader.specs.declared.body.Body.TheVariants.{Alone, Value, Variable}
use Rattle.reader.specs.declared.code.AloneCode.{AloneCode}
use Rattle.reader.specs.declared.code.AloneCode.TheVariants.{End}
use Rattle.reader.specs.declared.code.ValueCode.{ValueCode}
use Rattle.reader.specs.declared.code.VariableCode.{VariableCode}
use Rattle.instruction.specs.Perform.{Fitting, on_value}
use Rattle.instruction.specs.PerformLaws.{value-stored}
use Rattle.program.specs.Standing.{program_in, instr_at, Standing, formed, deep, most-vars, most-cells}
use Rattle.instruction.specs.Value.{Readable, Values}
use Rattle.machine.specs.Run.{Runnable, Obeys}

module _ (p : Program) (s : List ℕ) (i : ℕ) (r : Runnable p s i) where
  abbrev file : List ℕ
  file = p.file.now

  abbrev sh : R.Shape
  sh = shape_of p.shape

  abbrev place : Standing file p.shape p.count i
  place = stands _ _ _ p.accepted i r.low

  pub fitting : Fitting p.shape s
  fitting = record {
    storage = rw place.shaped r.stored;
    deep = deep _ _ _ _ place;
    most = most-vars _ _ _ _ place;
  }

  -- R1, R2: there are at most 217 cells.
  pub cells-most : length s ≤ 217
  cells-most = omega (arith, r.stored.size, most-cells _ _ _ _ place, ap cells place.shaped)

  -- R16: the bytes of the table are those of the storage after an instruction.
  bytes_after : (p : Plain) → storage_bytes (perform (program_in file).shape p (bits_of s)) ≡ stored (program_in file).shape s p
  bytes_after p = perform-stored (program_in file).shape s r.stored (omega (arith, (formed _ _ _ _ place).deep)) p

  bits-after : (s' : List ℕ) (p : Plain) → s' ≡ stored (program_in file).shape s p
      → perform (program_in file).shape p (bits_of s) ≡ bits_of s'
  bits-after s' p e = sym (bits_back _) ∙ ap bits_of (bytes_after p ∙ sym e)

  storage-after : (s' : List ℕ) (p : Plain) → s' ≡ stored (program_in file).shape s p → Storage (program_in file).shape s'
  storage-after s' p e = rw (e, ← bytes_after p) (performed_storage (program_in file).shape p (bits_of s))

  -- R22: after a plain instruction the next one is due.
  obeys_plain : (p : Plain) → instr_at file i ≡ plain p → (s' : List ℕ) → s' ≡ stored sh s p → (j : Instr) → j.0 ≡ i + 1
      → Obeys file s i (On j) s'
  obeys_plain p is s' g j e =
      let fine = rw is at ((formed _ _ _ _ place).fine i (omega (arith, place.low, place.count))) in
      let next : j.0 ≡ suc i = omega arith in
      let gives : s' ≡ stored (program_in file).shape s p = g ∙ ap (λ z. stored z s p) place.shaped in
      record {
        leads = (omega arith, omega (arith, fine.1), λ q. rw (is, bits-after s' p gives, next));
        stored = storage-after s' p gives;
      }

  module _ (b : Body) (told : Told p i b) where
    module _ (c : AloneCode) (e : b ≡ Alone c) where
      abbrev lone : Told p i (Alone c)
      lone = rw e at told

      -- R20, R23: END.
      pub obeys_end : c ≡ End → (s' : List ℕ) → s' ≡ stored sh s (alone_of c) → Obeys file s i M.End s'
      obeys_end h s' g =
          let x : instr_at file i ≡ END = rw h at lone in
          let t : s' ≡ stored (program_in file).shape s INIT = (rw h at g) ∙ ap (λ z. stored z s INIT) place.shaped in
          record { leads = λ l. rw (x, bits-after s' INIT t); stored = storage-after s' INIT t }

      -- R17, R19: an instruction that stands alone.
      pub obeys_alone : (c ≡ End → ⊥) → (s' : List ℕ) → s' ≡ stored sh s (alone_of c) → (j : Instr) → j.0 ≡ i + 1
          → Obeys file s i (On j) s'
      obeys_alone h = obeys_plain (alone_of c) (lone ∙ alone-plain c h)

    module _ (c : ValueCode) (at : ℕ) (e : b ≡ Value c at) where
      abbrev valued : Told p i (Value c at)
      valued = rw e at told

      -- R11: the expression after the code can be worked out.
      pub readable : (v : ℕ) → v ≡ vars sh → Readable file s v (at + 64) at
      readable v k = rw k (record {
        legible = record { what = valued.1; reads = valued.2; most = most-vars _ _ _ _ place };
        enough = omega (arith, r.stored.size, ap vars place.shaped);
        holds = r.stored.bits;
      })

      -- R17, R19: an instruction with an expression.
      pub obeys_value : (v : ℕ) → v ≡ vars sh → (y : Valued) → Values file s v (at + 64) at y
          → (s' : List ℕ) → s' ≡ on_value sh s c y.bit → (j : Instr) → j.0 ≡ i + 1 → Obeys file s i (On j) s'
      obeys_value v k y w s' g =
          let x = valued.1.got in
          let b : y.bit ≡ byte_of s x = (rw k at w).value valued.1 valued.2 in
          obeys_plain (on_expr c x) valued.3 s' (g ∙ value-stored sh s c x y.bit b)

    module _ (c : VariableCode) (v : Cell) (e : b ≡ Variable c v) where
      abbrev varied : Told p i (Variable c v)
      varied = rw e at told

      pub variable-low : v.0 < vars sh
      variable-low = varied.0

      -- R18: an instruction with a variable.
      pub obeys_variable : (s' : List ℕ) → s' ≡ stored sh s (on_variable c v.0) → (j : Instr) → j.0 ≡ i + 1
          → Obeys file s i (On j) s'
      obeys_variable = obeys_plain (on_variable c v.0) varied.1
