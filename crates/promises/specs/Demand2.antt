-- Demand 2: the answer is the rules': the table of instructions, the machine's steps, the building rule's set, and one file for a set.
use Rattle.std.specs.Prelude.{ℕ, ◌<◌, ◌≡◌, Bool, false, ◌||◌, List, [], map, length, get_or, take, eqb, ltb, Ok}
use Rattle.std.proofs.Common.{sym, ap, ◌∙◌}
use Rattle.std.proofs.lemmas.Simd.{map-map}
use Rattle.rules.specs.Verdict.{granted}
use Rattle.rules.specs.Edition.{old}
use Rattle.rules.specs.Lists.{from}
use Rattle.rules.specs.Shape.{Shape, cells}
use Rattle.rules.specs.Expr.{eval}
use Rattle.rules.specs.Instr.{Plain, effect, effects}
use Rattle.rules.specs.ProgramFile.{Program, read_program}
use Rattle.rules.specs.Machine as R
use Rattle.rules.specs.Machine.{perform, due, stopped, run}
use Rattle.rules.specs.Build.{transfer}
use Rattle.rules.specs.SetFile.{TransferSet, leaves, write_set, read_set}
use Rattle.rules.specs.Room.{room, numbers_to_build, heads_to_build}
use Rattle.rules.specs.Operations.{storage_bytes, program_set, check_storage, scan, build, finish, write_into}
use Rattle.laws.specs.Verdict.{bind_granted, check_granted, grants_of}
use Rattle.laws.specs.Lists.{get_or-map-from}
use Rattle.laws.specs.Canonical.{Proper}
use Rattle.laws.specs.Bytes.{Bytes}
use Rattle.laws.specs.Machine.{scan-whole}
use Rattle.laws.specs.SetFile.{read_write, read_proper, write_read}
use Rattle.laws.specs.Files.{old_sensible, storage-bits}
use Rattle.base.specs.Answers.{verdict_of}
use Rattle.machine.specs.Scan.{Scans}
use Rattle.sets.specs.Judging.{set_verdict}
use Rattle.build.specs.Contract.{Builds}
use Rattle.promises.specs.Answers.{granted_so}
use Rattle.promises.specs.Demand1.{build-wrote}

-- R16: an instruction gives every cell the value of its expression in the one table, all from the storage before it.
pub table : (sh : Shape) (p : Plain) (s : List Bool) (c : ℕ) → c < cells sh → get_or (perform sh p s) c false ≡ eval s (effect sh p c)
unfolding perform effects
table sh p s c h =
    ap (λ l. get_or l c false) (map-map (eval s) (effect sh p) (from 0 (cells sh))) ∙
    get_or-map-from (λ k. eval s (effect sh p k)) false (cells sh) c h

-- R24, R25: a granted scan took as many steps as it says, and the machine stopped with what it leaves, and not sooner.
pub record Stepped (P : Program) (s : List Bool) (steps : ℕ) (after : List ℕ) : Type 0 where
  pub storage : List Bool
  pub stops : run P steps (due 0 s []) ≡ stopped storage
  pub not-sooner : (j : ℕ) → j < steps → (t : List Bool) → run P j (due 0 s []) ≡ stopped t → ⊥
  pub leaves : after ≡ storage_bytes storage

scanned : (file storage : List ℕ) (budget : ℕ) (P : Program) → read_program old file ≡ granted P → (y : R.Scanned)
    → scan old file storage budget ≡ granted y → R.scan_program P budget (map (eqb 1) storage) ≡ granted y
unfolding scan
scanned file storage budget P r y e =
    let (s, b, q) = bind_granted (check_storage (cells P.shape) storage) _ (rw r at e) in
    rw (grants_of (storage-bits (cells P.shape) storage) b).is at q

pub steps_are : (file storage : List ℕ) (budget steps : ℕ) (after : List ℕ) → Scans file storage budget (Ok steps) after → (P : Program)
    → read_program old file ≡ granted P → Stepped P (map (eqb 1) storage) steps after
steps_are file storage budget steps after c P r =
    let g = granted_so (scan old file storage budget) (λ y. y.steps) (λ y. y.storage) steps storage after c.answer c.leaves in
    let w = scan-whole P budget (map (eqb 1) storage) g.what (scanned file storage budget P r g.what g.is) in
    record {
      storage = g.what.storage;
      stops = rw g.told at w.stops;
      not-sooner = rw g.told at w.not-sooner;
      leaves = g.leaves;
    }

-- R39: what building wrote is the file of the program's set.
pub built-is : (file : List ℕ) (rows numbers heads n : ℕ) (before after : List ℕ) → Builds file rows numbers heads (Ok n) before after
    → (P : Program) → read_program old file ≡ granted P → take n after ≡ write_set old (program_set P)
unfolding build finish write_into
built-is file rows numbers heads n before after c P r =
    let q = (build-wrote file rows numbers heads before after n c).front in
    let a = check_granted (ltb rows (leaves P.shape)) 10 0 _ (rw r at q) in
    let b = check_granted (ltb numbers (numbers_to_build rows) || ltb heads (heads_to_build P)) 10 0 _ a.1 in
    let d = check_granted (ltb (room rows) (length (transfer P).tab)) 10 _ _ b.1 in
    let f = check_granted (ltb (length before) (length (write_set old (program_set P)))) 10 _ _ d.1 in
    cc

-- R45: a set has one file. What is written of a set that has a file is accepted, as that set;
pub write_then_read : (z : TransferSet) → Proper old z → read_set old (write_set old z) ≡ granted z
write_then_read = read_write old old_sensible

-- and what is accepted is written back as the same bytes.
pub read_then_write : (file : List ℕ) → Bytes file → verdict_of (Ok tt) ≡ set_verdict file
    → (z : TransferSet) × (read_set old file ≡ granted z) × Proper old z × (write_set old z ≡ file)
unfolding set_verdict
read_then_write file b c =
    let (z, r, _) = bind_granted (read_set old file) (λ _. granted (tt {0})) (sym c) in
    (z, r, read_proper old file z r, write_read old file b z r)
