-- A table in a lent slice: what it holds, and what adding to it answers and leaves.
use Rattle.std.specs.Prelude.{ℕ, ◌≤◌, ◌<◌, ◌≡◌, List, length, get_or, Ok, Err}
use Rattle.rules.specs.Room.{room}
use Rattle.rules.specs.Rows.{Row, make, plan, settle, add}
use Rattle.rules.specs.Rows as R
use Rattle.laws.specs.Canonical.{Canonical}
use Rattle.laws.specs.Rule.{Ready}
use Rattle.base.specs.Answers.{Answer}
use Rattle.base.specs.declared.kinds.Row as K
use Rattle.base.specs.declared.refusal.Refusal.{Refusal}
use Rattle.base.specs.declared.refusal.Refusal.TheVariants.{NoRoom}
use Rattle.table.specs.declared.LentTable.{LentTable}
use Rattle.table.specs.Append.{room_of}
use Rattle.rows.specs.Entries.{node_row, entry, row_of_entry, table_in}
use Rattle.rows.specs.declared.node.Node.{Node}

-- The first `used` numbers of a slice are t's rows, each in its own number.
pub record StoredIn (rows : List ℕ) (used : ℕ) (t : List Row) : Type 0 where
  pub held : used ≤ room (length rows)
  pub table : table_in rows used ≡ t
  pub entries : (i : ℕ) → i < used → entry (row_of_entry (get_or rows i 0)) ≡ get_or rows i 0

-- So are the rows of a lent table that are used.
abbrev pub Stored : LentTable → List Row → Type 0
Stored s t = StoredIn s.rows.now s.state.used t

-- R54: the table t has more rows than there is room for, and is refused with the rows that may be used.
pub record Exceeds (s : LentTable) (x : Refusal) (t : List Row) : Type 0 where
  pub place : x ≡ NoRoom (room_of s)
  pub more : room_of s < length t

-- R53, R54: how a call that makes the table t ends: as P says; or it is refused, and t has more rows than there is room for.
abbrev pub Ends : {A : Type 0} → LentTable → Answer A → List Row → (A → Type 0) → Type 0
Ends s (Ok x) t P = P x
Ends s (Err e) t P = Exceeds s e t

-- R53, R54: what a call answers and leaves stands for the table t: it is stored, or refused.
abbrev pub Holds : {A : Type 0} → LentTable → Answer A → LentTable → List Row → Type 0
Holds s r s' t = Ends s r t (λ _. Stored s' t)

-- What an addition answers and leaves stands for the table after the rule's addition, and its row.
abbrev pub Gives : LentTable → Answer K.Row → LentTable → R.Added → Type 0
Gives s r s' a = Ends s r a.tab (λ x. Stored s' a.tab × (x.0 ≡ a.row))

-- An operation over rows that are used.
pub record Addable (s : LentTable) (r : Row) : Type 0 where
  pub held : s.state.used ≤ room_of s
  pub ready : Ready s.state.used r

-- R30: settling a row that the rule makes.
abbrev pub Settles : LentTable → Node → Answer K.Row → LentTable → Type 0
Settles s n r s' = (C : ℕ) (t : List Row) → Canonical C t → Stored s t → Ready (length t) (node_row n)
    → plan t (node_row n) ≡ make (node_row n) → Gives s r s' (settle t (make (node_row n)))

-- R28 to R30: adding an operation.
pub record Adds (s : LentTable) (n : Node) (r : Answer K.Row) (s' : LentTable) : Type 0 where
  pub gives : (C : ℕ) (t : List Row) → Canonical C t → Stored s t → Ready (length t) (node_row n) → Gives s r s' (add t (node_row n))
