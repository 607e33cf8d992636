-- Appending a row to a table in a lent slice.
use Rattle.std.specs.Prelude.{ℕ, ◌+◌, ◌≤◌, ◌<◌, ◌≡◌, length, set}
use Rattle.std.specs.Prelude.{Ok, Err}
use Rattle.rules.specs.Room.{room}
use Rattle.base.specs.Answers.{Answer}
use Rattle.base.specs.declared.refusal.Refusal.{Refusal}
use Rattle.base.specs.declared.refusal.Refusal.TheVariants.{NoRoom}
use Rattle.table.specs.declared.LentTable.{LentTable}

-- R53: how many rows of a table may be used.
abbrev pub room_of : LentTable → ℕ
room_of s = room (length s.rows.now)

-- A call leaves the table in the slice that was lent. It speaks of before and after, so no invariant of a `LentTable` says it.
pub record Kept (s s' : LentTable) : Type 0 where
  pub same : s'.rows.ghost_name ≡ s.rows.ghost_name
  pub size : length s'.rows.now ≡ length s.rows.now

-- R53: one row more is used, and the number stands in it.
pub record More (s : LentTable) (entry : ℕ) (s' : LentTable) : Type 0 where
  pub left : s.state.used < room_of s
  pub used : s'.state.used ≡ s.state.used + 1
  pub stored : s'.rows.now ≡ set s.rows.now s.state.used entry

-- R54: no row is left, and nothing is stored.
pub record Full (s : LentTable) (x : Refusal) (s' : LentTable) : Type 0 where
  pub none : room_of s ≤ s.state.used
  pub place : x ≡ NoRoom (room_of s)
  pub used : s'.state.used ≡ s.state.used
  pub stored : s'.rows.now ≡ s.rows.now

-- R53, R54: what an append answers and leaves.
abbrev pub Appends : LentTable → ℕ → Answer (Unit {0}) → LentTable → Type 0
Appends s entry (Ok x) s' = More s entry s'
Appends s entry (Err x) s' = Full s x s'
