-- Marks in lent numbers for the rows that heads reach.
use Prim.Native.Nat.{ℕ, zero, suc, ◌+◌, ◌-◌, ◌≤◌, ◌<◌}
use Rattle.std.specs.Prelude.{◌≡◌, Bool, true, false, cond, not, List, [], ◌∷◌, ◌++◌, get_or, set, take, eqb}
use Rattle.std.proofs.Math.Path.{refl, ap, subst}
use Rattle.std.proofs.Common.{sym, ◌∙◌, get_or-set_same, get_or-set_other, eq-eqb, ne_eqb}
use native.Mathlib.Omega.{arith}
use Rattle.std.proofs.Math.Decide.{ℕ_discrete}
use Rattle.std.proofs.Math.ListN.{length, length-set}
use Rattle.std.proofs.lemmas.List.{length-replicate, get_or-replicate, set_comm, take_more}
use Rattle.rules.specs.Lists.{elem}
use Rattle.rules.specs.Shape.{Shape, cells}
use Rattle.rules.specs.Rows.{Row, leaf, inv, bin, row_at}
use Rattle.rules.specs.Sets.{operands, needs, reaches}
use Rattle.rules.specs.Operations.{work_after}
use Rattle.laws.specs.Canonical.{Below, Canonical}
use Rattle.laws.specs.Rule.{below_more, canonical-below}
use Rattle.rows.specs.Stored.{table-length, table-row}
use Rattle.rows.specs.Entries.{row_of_entry, table_in}
use Rattle.reach.specs.Tabled.{Tabled}

-- ---- marking

-- Numbers with the marks of some rows added.
unfoldable pub mark_all : List ℕ → List ℕ → List ℕ
mark_all [] s = s
mark_all (a ∷ l) s = set (mark_all l s) a 1

pub length_mark : (l s : List ℕ) → length (mark_all l s) ≡ length s
unfolding mark_all
length_mark [] s = refl
length_mark (a ∷ l) s = length-set (mark_all l s) a 1 ∙ length_mark l s

-- R33: one turn of the walk, on marks.
unfoldable pub mark_from : List ℕ → ℕ → List ℕ → List ℕ
mark_from rows k s = cond (eqb (get_or s k 0) 0) s (mark_all (operands (row_of_entry (get_or rows k 0))) s)

-- Of the first n numbers exactly those are marked that are in l.
pub record Marked (n : ℕ) (l s : List ℕ) : Type 0 where
  pub size : n ≤ length s
  pub exact : (i : ℕ) → i < n → eqb (get_or s i 0) 0 ≡ not (elem i l)

-- R33: of the rows of a table exactly those are marked that the heads reach.
pub record Reached (t : List Row) (x s : List ℕ) : Type 0 where
  pub size : length t ≤ length s
  pub exact : (i : ℕ) → i < length t → eqb (get_or s i 0) 0 ≡ not (reaches t x i)

marked-none : (n : ℕ) (s : List ℕ) → n ≤ length s → Marked n [] (work_after s)
unfolding elem
marked-none n s h = record {
  size = omega (arith, length-replicate {A = ℕ} (length s) 0);
  exact = λ i l. rw (get_or-replicate {A = ℕ} (length s) i 0 0 (omega arith)) refl;
}

marked-one : {n : ℕ} {l s : List ℕ} (a : ℕ) → a < length s → Marked n l s → Marked n (a ∷ l) (set s a 1)
unfolding elem
marked-one {n} {l} {s} a h m = record {
  size = omega (arith, m.size, length-set s a 1);
  exact = λ i p. elim (ℕ_discrete i a) [
    | yes e ↦ rw (e, get_or-set_same s a 1 0 h, eq-eqb a a refl)
    | no e ↦ rw (get_or-set_other s a i 1 0 e, ne_eqb i a e) (m.exact i p)
  ];
}

marked-heads : {n : ℕ} (x : List ℕ) {s : List ℕ} → ((c : ℕ) → get_or x c 0 < length s) → Marked n [] s → Marked n x (mark_all x s)
unfolding mark_all
marked-heads [] h m = m
marked-heads (a ∷ x) {s} h m =
    marked-one a (omega (arith, h 0, length_mark x s)) (marked-heads x (λ c. h (suc c)) m)

marked-operands : {n : ℕ} (r : Row) {l s : List ℕ} → Below (length s) r → Marked n l s
    → Marked n (operands r ++ l) (mark_all (operands r) s)
unfolding mark_all
marked-operands (leaf i) b m = m
marked-operands (inv a) b m = marked-one a b m
marked-operands (bin o a c) {s = s} b m = marked-one a (omega (arith, b.0, length-set s c 1)) (marked-one c b.1 m)

-- Rows are marked in any order, so one more may be marked last.
mark-last : (x s : List ℕ) (a : ℕ) → mark_all (x ++ (a ∷ [])) s ≡ set (mark_all x s) a 1
unfolding mark_all
mark-last [] s a = refl
mark-last (b ∷ x) s a = rw (mark-last x s a) (elim (ℕ_discrete a b) [
  | yes e ↦ rw e refl
  | no n ↦ set_comm (mark_all x s) a b 1 1 n
])

pub mark_next : (x s : List ℕ) (i : ℕ) → i < length x
    → mark_all (take (i + 1) x) s ≡ set (mark_all (take i x) s) (get_or x i 0) 1
mark_next x s i h = rw (take_more x i 0 h) (mark-last (take i x) s (get_or x i 0))

-- R33: what row k names can be marked.
pub record OneMarks (rows : List ℕ) (k : ℕ) (s : List ℕ) : Type 0 where
  pub held : k < length rows
  pub numbered : k < length s
  pub low : Below (length s) (row_of_entry (get_or rows k 0))

-- R33: the walk, when the rows from k on have been gone through: some numbers are marked, from which the rest of it reaches all.
pub record Marking (t : List Row) (x : List ℕ) (k : ℕ) (s : List ℕ) : Type 0 where
  pub found : List ℕ
  pub same : needs t k found ≡ needs t (length t) x
  pub marked : Marked (length t) found s

marking_more : (t : List Row) (x : List ℕ) (k : ℕ) (s : List ℕ) → Below (length s) (row_at t k) → k < length t
    → Marking t x (suc k) s
    → Marking t x k (cond (eqb (get_or s k 0) 0) s (mark_all (operands (row_at t k)) s))
unfolding needs
marking_more t x k s b h m = record {
  found = cond (elem k m.found) (operands (row_at t k) ++ m.found) m.found;
  same = m.same;
  marked = rw (m.marked.exact k h) (go (elem k m.found));
}
  where
    go : (c : Bool) → Marked (length t) (cond c (operands (row_at t k) ++ m.found) m.found)
        (cond (not c) s (mark_all (operands (row_at t k)) s))
    go true = marked-operands (row_at t k) b m.marked
    go false = m.marked

-- Leaves name nothing.
needs-leaves : {C : ℕ} {t : List Row} → Canonical C t → (k : ℕ) (l : List ℕ) → k ≤ 2 + C → needs t k l ≡ l
unfolding needs
needs-leaves w zero l h = refl
needs-leaves {C} {t} w (suc k) l h = rw (w.leaf-at k (omega arith))
    (ap (needs t k) (go (elem k l)) ∙ needs-leaves w k l (omega arith))
  where
    go : (c : Bool) → cond c l l ≡ l
    go true = refl
    go false = refl

-- R33: the walk over a table in lent rows.
module _ {sh : Shape} {x rows : List ℕ} {used room : ℕ} (T : Tabled sh x rows used room) where
  size : length (table_in rows used) ≡ used
  size = table-length rows used T.held

  pub heads_fit : (n : ℕ) → n ≡ room → (c : ℕ) → get_or x c 0 < n
  heads_fit n e c = omega (arith, T.stands.low c, T.room, size)

  pub walk_heads : (d : List ℕ) {s u : List ℕ} → length d ≡ room → s ≡ work_after d → u ≡ mark_all x s
      → Marking (table_in rows used) x used u
  walk_heads d h p q =
      let n : length (work_after d) ≡ room = length-replicate {A = ℕ} (length d) 0 ∙ h in
      let m = marked-heads x (heads_fit _ n) (marked-none used d (omega (arith, T.room))) in
      record { found = x; same = rw size; marked = rw (size, q, p) m }

  pub walk_fits : {k : ℕ} {s : List ℕ} → 2 + cells sh < k → k ≤ used → Marking (table_in rows used) x k s → OneMarks rows (k - 1) s
  walk_fits {k} {s} h g m =
      let fits : used ≤ length s = omega (arith, size, m.marked.size) in
      let row = table-row rows used (k - 1) (omega arith) in
      record {
        held = omega (arith, T.held);
        numbered = omega arith;
        low = rw (← row) (below_more (k - 1) (length s) (row_at (table_in rows used) (k - 1)) (omega arith)
            (canonical-below T.stands.canonical (k - 1) (omega (arith, size))));
      }

  pub walk_more : {k : ℕ} {s u : List ℕ} → 2 + cells sh < k → k ≤ used → Marking (table_in rows used) x k s
      → u ≡ mark_from rows (k - 1) s
      → Marking (table_in rows used) x (k - 1) u
  unfolding mark_from
  walk_more {k} {s} h g m q =
      let z : k ≡ suc (k - 1) = omega arith in
      let r : Marking (table_in rows used) x (suc (k - 1)) s = subst (λ n. Marking (table_in rows used) x n s) z m in
      let row = table-row rows used (k - 1) (omega arith) in
      let low = (walk_fits h g m).low in
      rw (q, ← row) (marking_more (table_in rows used) x (k - 1) s (rw row low) (omega (arith, size)) r)

  pub walk_done : {k : ℕ} {s : List ℕ} → k ≤ 2 + cells sh → Marking (table_in rows used) x k s → Reached (table_in rows used) x s
  walk_done {k} h m = record {
    size = m.marked.size;
    exact = λ i l. m.marked.exact i l
        ∙ ap (λ f. not (elem i f)) (sym (needs-leaves T.stands.canonical k m.found h) ∙ m.same);
  }
