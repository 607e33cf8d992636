-- Building an accepted file or not: a law for each answer.
use Rattle.std.specs.Prelude.{ℕ, Err, ◌*◌, ◌≤◌, ◌<◌, List, [], length, drop}
use Rattle.std.proofs.Math.Path.{◌≡◌, ap}
use Rattle.std.proofs.Common.{sym, subst, ◌∙◌, drop_of_length-le}
use native.Mathlib.Omega.{arith}
use Rattle.std.proofs.Math.ListN.{take}
use borrow.Author.Tests.{lt-ltb, le-ltb}
use Rattle.rules.specs.Verdict.{Verdict, granted, refused, ◌>>=◌}
use Rattle.rules.specs.Edition.{old}
use Rattle.rules.specs.Shape as R
use Rattle.laws.specs.After.{Stands}
use Rattle.rules.specs.Shape.{cells, check_shape}
use Rattle.rules.specs.ProgramFile.{Program, read_program}
use Rattle.rules.specs.Rows.{base}
use Rattle.rules.specs.Build.{turns, transfer}
use Rattle.rules.specs.SetFile.{leaves}
use Rattle.rules.specs.Room.{room}
use Rattle.rules.specs.Operations.{finish, build}
use Rattle.laws.specs.ProgramFile.{read-shape}
use Rattle.laws.specs.Grow.{ext_length, grown_ext}
use Rattle.laws.specs.Room.{turns-grown}
use Rattle.laws.specs.Transfer.{transfer-stands}
use Rattle.base.specs.Answers.{Answer, shape_of, refused_by}
use Rattle.base.specs.declared.shape.Shape.{Shape}
use Rattle.base.specs.declared.refusal.Refusal.{Refusal}
use Rattle.base.specs.declared.refusal.Refusal.TheVariants.{NoRoom}
use Rattle.program.specs.Stages.{check_of}
use Rattle.program.specs.Standing.{program_in, Standing, formed}
use Rattle.table.specs.declared.LentTable.{LentTable}
use Rattle.table.specs.Append.{room_of}
use Rattle.rows.specs.Table.{Stored, Exceeds}
use Rattle.rows.specs.Stored.{exceeds-more, kept_refl}
use Rattle.rows.specs.Making.{Drawn}
use Rattle.writer.specs.Writes.{Writes, refused_writes}
use Rattle.writer.specs.Finish.{Finishing, Finishes, finish-full}
use Rattle.build.specs.Contract.{answer, Builds, Ready}
use Rattle.turn.specs.Turning.{built, Building}

module _ (file : List ℕ) (rows numbers heads : ℕ) (out : List ℕ) where
  abbrev v : Verdict (List ℕ)
  v = answer file rows numbers heads out

  -- What follows from what the rules answer.
  refused-builds : (x : Refusal) → v ≡ refused_by x → Builds file rows numbers heads (Err x) out out
  refused-builds x e = record { answers = rw e; output = rw e }

  -- R51: the file is judged first.
  pub build_unread : (x : Refusal) → refused_by x ≡ check_of file → Builds file rows numbers heads (Err x) out out
  unfolding build
  build_unread x e = refused-builds x (go (read_program old file) (sym e) _)
    where
      go : (p : Verdict Program) → (p >>= λ P. granted (tt {0})) ≡ refused_by x → (k : Program → Verdict (List ℕ)) → (p >>= k) ≡ refused_by x
      go (granted P) q k =
          let z : ◌≡◌ {A = ℕ} 0 1 = cc in
          absurd (omega arith)
      go (refused n p) q k = cc

  -- R54, R55: the room to begin with.
  module _ (sh : Shape) (n : ℕ) (r : Standing file sh n 0) where
    abbrev P : Program
    P = program_in file

    leaves-is : leaves P.shape ≡ leaves (shape_of sh)
    leaves-is = ap leaves (sym r.shaped)

    heads-is : length P.instrs * cells P.shape ≡ n * cells (shape_of sh)
    heads-is = rw (← r.count, ← r.shaped)

    pub rows_short : rows < leaves (shape_of sh) → Writes v (Err (NoRoom 0)) out out
    unfolding build
    rows_short h = refused_writes (NoRoom 0) (rw (r.accepted, leaves-is, lt-ltb rows (leaves (shape_of sh)) h))

    module _ (a : leaves (shape_of sh) ≤ rows) where
      pub numbers_short : numbers < room rows → Writes v (Err (NoRoom 0)) out out
      unfolding build
      numbers_short h =
          refused_writes (NoRoom 0) (rw (r.accepted, leaves-is, le-ltb rows (leaves (shape_of sh)) a, lt-ltb numbers (room rows) h))

      pub heads_short : room rows ≤ numbers → heads < n * cells (shape_of sh) → Writes v (Err (NoRoom 0)) out out
      unfolding build
      heads_short b h =
          refused_writes (NoRoom 0) (rw (
            r.accepted,
            leaves-is,
            le-ltb rows (leaves (shape_of sh)) a,
            le-ltb numbers (room rows) b,
            heads-is,
            lt-ltb heads (n * cells (shape_of sh)) h,
          ))

    -- R54: then the table, and the output.
    pub answer-is : Ready file sh n rows numbers heads → v ≡ finish old (shape_of sh) rows (length out) (transfer P)
    unfolding build
    answer-is w = rw (
      r.accepted,
      leaves-is,
      le-ltb rows (leaves (shape_of sh)) w.rows_lent,
      le-ltb numbers (room rows) w.numbers_lent,
      heads-is,
      le-ltb heads (n * cells (shape_of sh)) w.heads_lent,
      ← r.shaped,
    )

-- ---- the start and the end of the turns

-- Before any turn the table is the bare one.
bare-is : (file : List ℕ) (sh : Shape) (n : ℕ) → Standing file sh n 0 → (C : ℕ) → C ≡ cells (shape_of sh)
    → (built file n).tab ≡ base C
unfolding turns
bare-is file sh n s C c =
    let P = program_in file in
    let none : drop n P.instrs ≡ [] = drop_of_length-le P.instrs {i = n} (omega (arith, s.count)) in
    rw (none, ← s.shaped, c)

pub building_start : (file : List ℕ) (sh : Shape) (n rows numbers : ℕ) (lent : List ℕ) → Ready file sh n rows numbers (length lent)
    → (C : ℕ) → C ≡ cells (shape_of sh) → (s : LentTable) → Stored s (base C) → Building file sh n s lent n
building_start file sh n rows numbers lent r C c s st = record {
  standing = r.standing;
  high = omega arith;
  heads_lent = r.heads_lent;
  stored = rw (bare-is file sh n r.standing C c) st;
  slots = λ l h k. absurd (omega arith);
}

-- R54: no row is left for all turns.
module _ (file : List ℕ) (sh : Shape) (n rows numbers heads : ℕ) (r : Ready file sh n rows numbers heads) {s : LentTable} {e : Refusal}
    (size : length s.rows.now ≡ rows) (out : List ℕ) where
  pub turns-over : Exceeds s e (built file 0).tab → Writes (answer file rows numbers heads out) (Err e) out out
  unfolding transfer
  turns-over o = rw (answer-is file rows numbers heads out sh n r.standing r, ← size)
      (finish-full (shape_of sh) (transfer (program_in file)) out o)

  -- Nor for the constants and cells alone.
  pub leaves-over : (C : ℕ) → C ≡ cells (shape_of sh) → Exceeds s e (base C) → Writes (answer file rows numbers heads out) (Err e) out out
  leaves-over C c o =
      let P = program_in file in
      let z : C ≡ cells P.shape = c ∙ ap cells r.standing.shaped in
      turns-over (exceeds-more (kept_refl s) o (rw z (ext_length (grown_ext (turns-grown P.shape 0 P.instrs)))))

module _ (file : List ℕ) (sh : Shape) (n : ℕ) (s : LentTable) (heads : List ℕ) (b : Building file sh n s heads 0) where
  abbrev place : Standing file sh n 0
  place = b.standing

  -- R39: the heads of T(0), of C cells, are those of the program's set.
  drawn : (C : ℕ) → C ≡ cells (shape_of sh) → Drawn s (take C heads) (transfer (program_in file))
  unfolding transfer
  drawn C e =
      let z : 0 * C ≡ 0 = omega arith in
      record {
        stored = b.stored;
        same = ap (λ k. take C (drop k heads)) (sym z) ∙ rw (← e) at (b.slots 0 (omega arith) place.low);
      }

  pub finishing : (C : ℕ) → C ≡ cells (shape_of sh) → (numbers : ℕ) → room_of s ≤ numbers
      → Finishing (shape_of sh) (take C heads) s.rows.now s.state numbers
  finishing C e numbers l = record {
    made = transfer (program_in file);
    drawn = drawn C e;
    stands = subst (λ (x : R.Shape). Stands (cells x) (transfer (program_in file))) (sym place.shaped)
        (transfer-stands (program_in file) (formed file sh n 0 place));
    shaped = subst (λ (x : R.Shape). check_shape old x ≡ granted tt) (sym place.shaped)
        (read-shape old file (program_in file) place.accepted);
    enough = omega (arith, b.stored.held);
  }

  -- R54, R59: what the rules finish with is what they answer.
  pub finished : (C : ℕ) → C ≡ cells (shape_of sh) → (m numbers lent : ℕ) → length s.rows.now ≡ m → Ready file sh n m numbers lent
      → (r : Answer ℕ) (out after : List ℕ) → Finishes (shape_of sh) (take C heads) s.rows.now s.state r out after
      → Writes (answer file m numbers lent out) r out after
  finished C e m numbers lent size w r out after g =
      rw (answer-is file m numbers lent out sh n place w, ← size) (g (transfer (program_in file)) (drawn C e))
