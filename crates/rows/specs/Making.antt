-- Rows, and heads over them, made in a lent slice by the rules.
use Rattle.std.specs.Prelude.{ℕ, zero, suc, ◌≤◌, ◌≡◌, List, length}
use Rattle.std.proofs.Common.{arith}
use Rattle.std.proofs.Math.Decide.{dec_lt}
use Rattle.rules.specs.Rows.{Row}
use Rattle.rules.specs.Rows as R
use Rattle.rules.specs.Sets.{Heads, reaches, carry}
use Rattle.laws.specs.Canonical.{Canonical}
use Rattle.laws.specs.Rule.{Ready}
use Rattle.laws.specs.Grow.{ext_length, grown_ext}
use Rattle.laws.specs.After.{carry_row-grown}
use Rattle.base.specs.Answers.{Answer}
use Rattle.base.specs.declared.kinds.Row as K
use Rattle.table.specs.declared.Table.{Table}
use Rattle.table.specs.declared.LentTable.{LentTable}
use Rattle.rows.specs.Table.{StoredIn, Stored, Ends, Gives, Addable}
use Rattle.table.specs.Append.{Kept}
use Rattle.rows.specs.Stored.{stored-length, ends-before}

-- Some canonical table of C cells is stored.
pub record Open (C : ℕ) (s : LentTable) : Type 0 where
  pub table : List Row
  pub canonical : Canonical C table
  pub stored : Stored s table

-- What a call leaves, and the row that it answers, are what f makes of any table that is stored.
abbrev pub Makes : ℕ → LentTable → (List Row → R.Added) → Answer K.Row → LentTable → Type 0
Makes C s f r s' = (t : List Row) → Canonical C t → Stored s t → Gives s r s' (f t)

-- The table of the heads h of the rules is stored in a slice, in as many rows as the state says, and the heads are theirs.
pub record DrawnIn (rows : List ℕ) (s : Table) (heads : List ℕ) (h : Heads) : Type 0 where
  pub stored : StoredIn rows s.used h.tab
  pub same : heads ≡ h.heads

-- So it is in a lent table.
abbrev pub Drawn : LentTable → List ℕ → Heads → Type 0
Drawn s heads h = DrawnIn s.rows.now s.state heads h

-- R53, R54: what a call answers and leaves stands for the heads h of the rules.
abbrev pub Draws : {A : Type 0} → LentTable → Answer A → LentTable → List ℕ → Heads → Type 0
Draws s r s' heads h = Ends s r h.tab (λ _. Drawn s' heads h)

pub draws-before : {A : Type 0} {s₀ s : LentTable} → Kept s₀ s → (r : Answer A) (s' : LentTable) (heads : List ℕ) (h : Heads)
    → Draws s r s' heads h → Draws s₀ r s' heads h
draws-before k r s' heads h d = ends-before h.tab (λ _. Drawn s' heads h) k r d

-- An operation over rows of the table can be added.
pub addable : {s : LentTable} {t : List Row} → Stored s t → (r : Row) → Ready (length t) r → Addable s r
addable w r ready = record { held = w.held; ready = rw (stored-length w) at ready }

-- R34: rows that are carried one after another only grow the table.
pub carry-longer : (t : List Row) (x : List ℕ) (u : List Row) (y : List ℕ) (j k : ℕ) → j ≤ k
    → length (carry R.add t x u y j).tab ≤ length (carry R.add t x u y k).tab
unfolding carry
carry-longer t x u y j zero h =
    let z : j ≡ 0 = omega arith in
    rw z (omega arith)
carry-longer t x u y j (suc k) h = elim (dec_lt j (suc k)) [
  | yes l ↦
      let one = ext_length (grown_ext (carry_row-grown x (carry R.add t x u y k) (R.row_at u k) (reaches u y k))) in
      omega (arith, carry-longer t x u y j k (omega arith), one)
  | no l ↦
      let z : j ≡ suc k = omega arith in
      rw z (omega arith)
]
