-- The end of building and composing: a set is written, or refused for want of rows.
use Rattle.std.specs.Prelude.{ℕ, Err, ◌≤◌, ◌≡◌, List, length}
use Rattle.std.proofs.Common.{arith}
use borrow.Author.Tests.{lt-ltb, le-ltb}
use Rattle.rules.specs.Verdict.{granted}
use Rattle.rules.specs.Edition.{old}
use Rattle.rules.specs.Shape.{Shape, cells, check_shape}
use Rattle.rules.specs.Sets.{Heads}
use Rattle.rules.specs.Room.{room}
use Rattle.rules.specs.Operations.{set_of, write_into, finish}
use Rattle.laws.specs.After.{Stands, over}
use Rattle.base.specs.Answers.{Answer}
use Rattle.base.specs.declared.refusal.Refusal.{Refusal}
use Rattle.table.specs.declared.Table.{Table}
use Rattle.table.specs.declared.LentTable.{LentTable}
use Rattle.rows.specs.Entries.{table_in}
use Rattle.rows.specs.Table.{Exceeds}
use Rattle.rows.specs.Stored.{stored-length}
use Rattle.rows.specs.Making.{DrawnIn}
use Rattle.reach.specs.Tabled.{Tabled}
use Rattle.writer.specs.Writes.{Writes}

-- Heads of the rules over a table that is stored, of an allowed shape, with a number for each row used.
pub record Finishing (sh : Shape) (heads rows : List ℕ) (s : Table) (numbers : ℕ) : Type 0 where
  pub made : Heads
  pub drawn : DrawnIn rows s heads made
  pub stands : Stands (cells sh) made
  pub shaped : check_shape old sh ≡ granted tt
  pub enough : s.used ≤ numbers

-- R54, R59: what is answered and written is what the rules finish with.
abbrev pub Finishes : Shape → List ℕ → List ℕ → Table → Answer ℕ → List ℕ → List ℕ → Type 0
Finishes sh heads rows s r before after = (h : Heads) → DrawnIn rows s heads h
    → Writes (finish old sh (length rows) (length before) h) r before after

-- R54: no row is left for a table.
pub finish-full : (sh : Shape) {s : LentTable} {e : Refusal} (h : Heads) (out : List ℕ) → Exceeds s e h.tab
    → Writes (finish old sh (length s.rows.now) (length out) h) (Err e) out out
unfolding finish
finish-full sh {s} h out o =
    let full = lt-ltb (room (length s.rows.now)) (length h.tab) o.more in
    record { answer = rw (full, o.place); output = rw full }

module _ (sh : Shape) (heads rows : List ℕ) (s : Table) where
  -- The heads in the slices are those of the rules.
  drawn-is : (h : Heads) → DrawnIn rows s heads h → over (table_in rows s.used) heads ≡ h
  drawn-is h d =
      let t = d.stored.table in
      let x = d.same in
      λ i. record { tab = t i; heads = x i }

  pub finish_tabled : (numbers : ℕ) → Finishing sh heads rows s numbers → Tabled sh heads rows s.used numbers
  finish_tabled numbers g =
      let k = g.drawn.stored in
      record {
        shaped = g.shaped;
        stands = rw (drawn-is g.made g.drawn) g.stands;
        held = omega (arith, k.held);
        small = omega (arith, k.held);
        room = g.enough;
      }

  -- R59: the set is written.
  pub finish-written : (r : Answer ℕ) (out after : List ℕ)
      → Writes (write_into old s.used (length out) (set_of sh (over (table_in rows s.used) heads))) r out after
      → Finishes sh heads rows s r out after
  unfolding finish
  finish-written r out after w h d =
      let k = d.stored in
      let size = stored-length k in
      rw (le-ltb (room (length rows)) (length h.tab) (omega (arith, size, k.held)), size, ← drawn-is h d) w
