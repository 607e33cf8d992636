-- What evaluating answers, in the words of the rules, what it leaves in the storage, and a law for each answer.
use Rattle.std.specs.Prelude.{ℕ, ◌≤◌, ◌<◌, ◌≡◌, Ok, Err, List, length}
use Rattle.std.proofs.Common.{ap, sym, ◌∙◌, arith}
use borrow.Author.Tests.{lt-ltb, le-ltb}
use Rattle.rules.specs.Verdict.{granted, ◌>>=◌}
use Rattle.rules.specs.Edition.{old}
use Rattle.rules.specs.Shape.{cells}
use Rattle.rules.specs.SetFile.{read_set}
use Rattle.rules.specs.Operations.{check_storage, evaluate, storage_after}
use Rattle.base.specs.Answers.{Answer, number_of, place_of, refused_by, verdict_of}
use Rattle.base.specs.Refusals.{answer_only}
use Rattle.base.specs.declared.refusal.Refusal.{Refusal}
use Rattle.base.specs.declared.refusal.Refusal.TheVariants.{NoRoom}
use Rattle.storage.specs.Cells.{bits_of}
use Rattle.storage.specs.Checked.{check_cells, cells_passed, cells-refused}
use Rattle.base.specs.Answers.{shape_of}
use Rattle.sets.specs.Spelt.{set_in, Taken, taken-read, taken_proper}
use Rattle.sets.specs.Judging.{spells, spells-shape, spells-rows, rows_of}
use Rattle.sets.specs.declared.read.SetFile.{SetFile}
use Rattle.evaluate.specs.Values.{Evaluable, evaluated_bytes}

-- R31, R51, R52: the answer is that of the rules, and so is what the lent storage holds after the call; so many values are lent.
pub record Evaluates (file storage : List ℕ) (lent : ℕ) (r : Answer (Unit {0})) (after : List ℕ) : Type 0 where
  pub answer : verdict_of r ≡ (evaluate old file storage lent >>= λ _. granted tt)
  pub leaves : after ≡ storage_after (λ v. v) (evaluate old file storage lent) storage

-- What follows from what the rules answer.
module _ (file s : List ℕ) (lent : ℕ) where
  refused-evaluate : (x : Refusal) → evaluate old file s lent ≡ refused_by x → Evaluates file s lent (Err x) s
  refused-evaluate x e = record { answer = rw e; leaves = rw e }

  -- R51: the file is judged first.
  pub evaluate_unread : (x : Refusal) → read_set old file ≡ refused_by x → Evaluates file s lent (Err x) s
  unfolding evaluate
  evaluate_unread x e = refused-evaluate x (rw e)

  module _ (a : Taken file) (f : SetFile) (own : spells f ≡ set_in file) where
    shape_is : cells (set_in file).shape ≡ cells (shape_of f.shape)
    shape_is = rw (← own) (ap cells (spells-shape f))

    size : length (set_in file).tab ≡ rows_of f
    size = rw (← own) (spells-rows f)

    module _ (C : ℕ) (c : C ≡ cells (shape_of f.shape)) where
      -- R51: then the storage.
      pub evaluate-unfit : (x : Refusal) → refused_by x ≡ check_cells C s → Evaluates file s lent (Err x) s
      unfolding evaluate
      evaluate-unfit x r =
          let w = cells-refused C s (number_of x) (place_of x) (sym r) in
          refused-evaluate x (rw (taken-read file a, shape_is, ← c, w))

      module _ (r : granted tt ≡ check_cells C s) where
        pub evaluable : Evaluable f s
        evaluable =
            let p = cells_passed C s (sym r) in
            record { proper = rw own (taken_proper file a); stored = record { size = p.size ∙ c; bits = p.bits } }

        -- The storage of an accepted file.
        storage-is : check_storage (cells (set_in file).shape) s ≡ granted (bits_of s)
        storage-is = rw (shape_is, ← c) (cells_passed C s (sym r)).is

        -- R57: fewer values than rows.
        pub evaluate_short : lent < rows_of f → Evaluates file s lent (Err (NoRoom 0)) s
        unfolding evaluate
        evaluate_short h =
            refused-evaluate (NoRoom 0) (rw (taken-read file a, storage-is, lt-ltb lent (length (set_in file).tab) (omega (arith, size))))

        pub evaluate_done : rows_of f ≤ lent → (after : List ℕ) → after ≡ evaluated_bytes f s → Evaluates file s lent (Ok tt) after
        unfolding evaluate
        evaluate_done h after z =
            let read = taken-read file a in
            let room = le-ltb lent (length (set_in file).tab) (omega (arith, size)) in
            record { answer = rw (read, storage-is, room); leaves = rw (read, storage-is, room) (rw own at z) }

-- R46, R52: two results that meet the contract for the same file, storage and number of values are the same, with the same storage after.
pub evaluate_only : (file s : List ℕ) (lent : ℕ) (a b : Answer (Unit {0})) (t u : List ℕ) → Evaluates file s lent a t
    → Evaluates file s lent b u
    → (a ≡ b) × (t ≡ u)
evaluate_only file s lent a b t u p q = (answer_only _ a b p.answer q.answer, p.leaves ∙ sym q.leaves)
