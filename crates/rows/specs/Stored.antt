-- Laws of a table in a lent slice: its rows, and appending to it.
use Rattle.std.specs.Prelude.{Ok, Err}
use Rattle.std.specs.Prelude.{ℕ, ◌+◌, ◌≤◌, ◌<◌, ◌≡◌, refl, List, [], ◌∷◌, ◌++◌, map, length, get_or, take, set}
use Rattle.std.proofs.Common.{ap, sym, ◌∙◌, arith, add-one, length-set, length-take-le, get_or-take}
use Rattle.std.proofs.Common.{take-suc, take_all, take-suc-set, get_or-set_same, get_or-set_other}
use Rattle.std.proofs.lemmas.List.{map-append, length-map}
use Rattle.std.proofs.Math.Decide.{dec_lt}
use Rattle.std.proofs.Math.ListN.{get_or-map}
use Rattle.rules.specs.Room.{room}
use Rattle.rules.specs.Rows.{Row, leaf, row_at}
use Rattle.base.specs.Answers.{Answer}
use Rattle.base.specs.declared.refusal.Refusal.{Refusal}
use Rattle.base.specs.declared.refusal.Refusal.TheVariants.{NoRoom}
use Rattle.table.specs.declared.LentTable.{LentTable}
use Rattle.table.specs.Append.{Kept, More, Full}
use Rattle.rows.specs.Entries.{entry, row_of_entry, table_in, Narrow, entry-back}
use Rattle.rows.specs.Table.{StoredIn, Stored, Exceeds, Ends}

-- ---- the rows of a slice

-- Row a of all the numbers of a slice.
pub slice_row : (rows : List ℕ) (a : ℕ) → row_at (map row_of_entry rows) a ≡ row_of_entry (get_or rows a 0)
unfolding row_of_entry
slice_row rows a = get_or-map row_of_entry rows a 0

pub table-length : (rows : List ℕ) (used : ℕ) → used ≤ length rows → length (table_in rows used) ≡ used
table-length rows used h = length-map (take used rows) row_of_entry ∙ length-take-le used rows h

pub table-row : (rows : List ℕ) (used i : ℕ) → i < used → row_at (table_in rows used) i ≡ row_of_entry (get_or rows i 0)
table-row rows used i h = slice_row (take used rows) i ∙ ap row_of_entry (get_or-take used rows i 0 h)

-- What a slice of rows stores, row by row.
module _ {rows : List ℕ} {used : ℕ} {t : List Row} (w : StoredIn rows used t) where
  pub stored-length : length t ≡ used
  stored-length = ap length (sym w.table) ∙ table-length rows used (omega (arith, w.held))

  pub stored_row : (i : ℕ) → i < used → row_at t i ≡ row_of_entry (get_or rows i 0)
  stored_row i h = ap (λ u. row_at u i) (sym w.table) ∙ table-row rows used i h

-- What a lent table stores.
module _ {s : LentTable} {t : List Row} (w : Stored s t) where
  -- A longer table has more rows than there is room for where no row is left.
  pub exceeds-full : {s' : LentTable} {x : Refusal} {u : List Row} → Full s x s' → length t < length u → Exceeds s x u
  exceeds-full f l = record { place = f.place; more = omega (arith, f.none, stored-length w, l) }

  -- R53: a row's number appended.
  pub stored_more : {s' : LentTable} {e : ℕ} (q : Row) → (e ≡ entry q) × Narrow q → More s e s' → Stored s' (t ++ (q ∷ []))
  stored_more {e = e} q made m =
      let back : row_of_entry e ≡ q = ap row_of_entry made.0 ∙ entry-back q made.1 in
      let size : length (set s.rows.now s.state.used e) ≡ length s.rows.now = length-set s.rows.now s.state.used e in
      record {
        held = rw (m.used, m.stored, size) (omega (arith, m.left));
        table = rw (m.used, m.stored, add-one, take-suc-set s.rows.now s.state.used e (omega (arith, m.left)), map-append, w.table, back);
        entries = rw (m.used, m.stored) (λ i k. elim (dec_lt i s.state.used) [
          | yes p ↦ rw (get_or-set_other s.rows.now s.state.used i e 0 (omega arith)) (w.entries i p)
          | no p ↦
              let v : i ≡ s.state.used = omega arith in
              rw (v, get_or-set_same s.rows.now s.state.used e 0 (omega (arith, m.left)), back) (sym made.0)
        ]);
      }

-- Where no row is left for t, none is for a longer table, nor was any before.
pub exceeds-more : {s₀ s : LentTable} {x : Refusal} {t u : List Row} → Kept s₀ s → Exceeds s x t → length t ≤ length u → Exceeds s₀ x u
exceeds-more k o l = record { place = o.place ∙ ap (λ n. NoRoom (room n)) k.size; more = omega (arith, k.size, o.more, l) }

-- What a call leaves and answers stands for a table after what was kept before it, too.
pub ends-before : {A : Type 0} {s₀ s : LentTable} (t : List Row) (P : A → Type 0) → Kept s₀ s → (r : Answer A) → Ends s r t P
    → Ends s₀ r t P
ends-before t P k (Ok x) p = p
ends-before t P k (Err e) o = exceeds-more k o (omega arith)

pub kept_refl : (s : LentTable) → Kept s s
kept_refl s = record { same = refl; size = refl }

pub kept_trans : {s s' s'' : LentTable} → Kept s s' → Kept s' s'' → Kept s s''
kept_trans k m = record { same = m.same ∙ k.same; size = m.size ∙ k.size }

-- ---- the rows of a table, appended one after another

-- The first i rows of t were appended to an empty table.
pub record Filling (t : List Row) (s₀ s : LentTable) (i : ℕ) : Type 0 where
  pub kept : Kept s₀ s
  pub stored : Stored s (take i t)

pub filling_next : {t : List Row} {s₀ s s' : LentTable} {i e : ℕ} → Filling t s₀ s i → i < length t
    → (e ≡ entry (row_at t i)) × Narrow (row_at t i) → Kept s s' → More s e s' → Filling t s₀ s' (i + 1)
filling_next {t} {i = i} g h made k m = record {
  kept = kept_trans g.kept k;
  stored = rw (add-one, take-suc t i (leaf 0) h) (stored_more g.stored (row_at t i) made m);
}

pub filling_over : {t : List Row} {s₀ s s' : LentTable} {i : ℕ} {x : Refusal} → Filling t s₀ s i → i < length t → Full s x s' → Exceeds s₀ x t
filling_over {t} {i = i} g h f = exceeds-more g.kept (exceeds-full g.stored f l) (omega arith)
  where
    l : length (take i t) < length t
    l = omega (arith, length-take-le i t)

pub filling_all : {t : List Row} {s₀ s : LentTable} {i : ℕ} → Filling t s₀ s i → length t ≤ i → Stored s t
filling_all {t} {i = i} g h = rw (take_all i t h) at g.stored
