-- A scan refused by its file, by its storage or by its budget, and a scan that stopped; and the contract admits one result only.
use Rattle.std.specs.Prelude.{ℕ, ◌-◌, ◌≡◌, Ok, Err, List, []}
use Rattle.std.proofs.Common.{sym, ◌∙◌, arith}
use Rattle.std.proofs.Math.Path.{ap}
use Rattle.rules.specs.Verdict.{Verdict, granted, refused, ◌>>=◌}
use Rattle.rules.specs.Edition.{old}
use Rattle.rules.specs.Shape.{cells}
use Rattle.rules.specs.ProgramFile as R
use Rattle.rules.specs.ProgramFile.{read_program}
use Rattle.rules.specs.Machine as M
use Rattle.rules.specs.Operations.{check_storage, scan}
use Rattle.base.specs.declared.kinds.Instr.{Instr}
use Rattle.base.specs.declared.refusal.Refusal.{Refusal}
use Rattle.base.specs.declared.refusal.Refusal.TheVariants.{BudgetSpent}
use Rattle.base.specs.Answers.{Answer, shape_of, refused_by, number_of, place_of}
use Rattle.base.specs.Refusals.{answer_only}
use Rattle.program.specs.Stages.{check_of}
use Rattle.program.specs.Standing.{program_in, accepted_program}
use Rattle.program.specs.declared.file.Program.{Program}
use Rattle.storage.specs.Cells.{bits_of}
use Rattle.storage.specs.Checked.{check_cells, cells_passed, cells-refused, all_cells}
use Rattle.storage.specs.Stores.{bytes_back}
use Rattle.machine.specs.Run.{Runnable, Ends}
use Rattle.machine.specs.RunLaws.{scan-back}
use Rattle.machine.specs.Scan.{Scans}

-- What follows from what the rules' scan is.
refused-scan : (file s : List ℕ) (budget : ℕ) (x : Refusal) → scan old file s budget ≡ refused_by x
    → Scans file s budget (Err x) s
refused-scan file s budget x e = record { answer = rw e; leaves = rw e }

-- R51: the file is judged first.
pub scan_unread : (file s : List ℕ) (budget : ℕ) (x : Refusal) → refused_by x ≡ check_of file → Scans file s budget (Err x) s
unfolding scan
scan_unread file s budget x e = refused-scan file s budget x (go (read_program old file) (sym e))
  where
    go : (v : Verdict R.Program) → (v >>= λ P. granted (tt {0})) ≡ refused_by x
        → (v >>= λ P. check_storage (cells P.shape) s >>= λ b. M.scan_program P budget b) ≡ refused_by x
    go (granted P) q =
        let z : ◌≡◌ {A = ℕ} 0 1 = cc in
        absurd (omega arith)
    go (refused n p) q = cc

module _ (p : Program) (s : List ℕ) where
  module _ (C : ℕ) (c : C ≡ cells (shape_of p.shape)) where
    sized : C ≡ cells (program_in p.file.now).shape
    sized = c ∙ ap cells p.accepted.shaped

    -- R51: then the storage.
    pub scan-unfit : (budget : ℕ) (x : Refusal) → refused_by x ≡ check_cells C s → Scans p.file.now s budget (Err x) s
    unfolding scan
    scan-unfit budget x r =
        let w = cells-refused C s (number_of x) (place_of x) (sym r) in
        refused-scan p.file.now s budget x (rw (accepted_program p.file.now p.accepted.passed, ← sized, w))

    pub runnable : granted tt ≡ check_cells C s → Runnable p s 0
    runnable r =
        let t = cells_passed C s (sym r) in
        record { low = p.accepted.some; stored = record { size = t.size ∙ sized; bits = t.bits } }

module _ (p : Program) (s : List ℕ) (r : Runnable p s 0) where
  -- R25: the scan of a file and a storage that were accepted.
  scan-is : (budget : ℕ) → scan old p.file.now s budget ≡ M.scan_program (program_in p.file.now) budget (bits_of s)
  unfolding scan
  scan-is budget =
      let w = all_cells (cells (program_in p.file.now).shape) s r.stored.size (λ c _. r.stored.bits c) in
      rw (accepted_program p.file.now p.accepted.passed, (cells_passed (cells (program_in p.file.now).shape) s w).is)

  module _ (budget : ℕ) (copy t : List ℕ) (same : copy ≡ s) where
    pub scan_spent : (i : Instr) → Ends p.file.now copy 0 budget (Err i) t → Scans p.file.now s budget (Err (BudgetSpent i)) s
    scan_spent i d = refused-scan p.file.now s budget (BudgetSpent i) (scan-is budget ∙ rw same at d.comes 0 [])

    pub scan-stopped : (m : ℕ) → Ends p.file.now copy 0 budget (Ok m) t → (u : List ℕ) → u ≡ t
        → Scans p.file.now s budget (Ok (budget - m)) u
    scan-stopped m d u e =
        let is = scan-is budget ∙ scan-back (program_in p.file.now) s t budget m (rw same at d.comes) in
        record { answer = rw is; leaves = rw (e, is) (sym (bytes_back t d.stored.bits)) }

-- R46, R52: two results that meet the contract for the same file, storage and budget are the same, with the same storage after.
pub scan_only : (file s : List ℕ) (budget : ℕ) (a b : Answer ℕ) (t u : List ℕ) → Scans file s budget a t
    → Scans file s budget b u
    → (a ≡ b) × (t ≡ u)
scan_only file s budget a b t u p q = (answer_only _ a b p.answer q.answer, p.leaves ∙ sym q.leaves)
