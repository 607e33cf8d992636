-- New numbers for the rows that are reached, in order, and that they are those of the rules.
use Rattle.std.specs.Prelude.{ℕ, zero, suc, ◌+◌, ◌-◌, ◌≤◌, ◌<◌, ◌≡◌, Bool, cond, not, List, [], ◌∷◌, ◌++◌, length, get_or, set, eqb}
use Rattle.std.proofs.Math.Path.{refl, ap}
use Rattle.std.proofs.Common.{sym, ◌∙◌, arith, length-set, length-append, get_or-set_same, get_or-set_other}
use Rattle.std.proofs.Math.Bool.{true, false}
use Rattle.std.proofs.Math.Decide.{dec_lt}
use Rattle.std.proofs.Math.Numerals.{add-one}
use Rattle.std.proofs.Math.Dec.{ltb}
use borrow.Author.Tests.{eqb-true, lt-ltb, le-ltb, ltb-false}
use Rattle.rules.specs.Rows.{Row, base, row_at}
use Rattle.rules.specs.Sets.{reaches, unchanging, Carried, carry_row, carry, append}
use Rattle.laws.specs.Canonical.{Canonical}
use Rattle.laws.specs.Rule.{canonical-ready}
use Rattle.laws.specs.Rows.{length-base}
use Rattle.laws.specs.After.{snoc_last, snoc_old}
use Rattle.laws.specs.Squeeze.{ren, carry-op, unchanging-at, packed}
use Rattle.rules.specs.Shape.{Shape, cells}
use Rattle.rows.specs.Entries.{table_in}
use Rattle.rows.specs.Stored.{table-length}
use Rattle.reach.specs.Tabled.{Tabled}
use Rattle.reach.specs.Marks.{Reached}

-- The next number, and numbers of which those of the rows so far are new and the others still marks.
pub record Numbering : Type 0 where
  pub next : ℕ
  pub new : List ℕ

abbrev pub numbering : ℕ → List ℕ → Numbering
numbering n s = record { next = n; new = s }

-- R36: row k: a leaf keeps its number, a row that is not marked its 0, and any other gets the next.
abbrev pub number_by : Bool → Bool → ℕ → Numbering → Numbering
number_by isLeaf unmarked k s = cond isLeaf (numbering s.next (set s.new k k))
    (cond unmarked s (numbering (s.next + 1) (set s.new k s.next)))

-- R36: row k, where l rows are constants and cells.
abbrev pub number_row : ℕ → ℕ → Numbering → Numbering
number_row l k s = number_by (ltb k l) (eqb (get_or s.new k 0) 0) k s

-- R36: the first k rows.
unfoldable pub number_rows : ℕ → ℕ → List ℕ → Numbering
number_rows l zero d = numbering l d
number_rows l (suc k) d = number_row l k (number_rows l k d)

-- After k rows.
pub record Counting (l : ℕ) (d : List ℕ) (k : ℕ) (s : Numbering) : Type 0 where
  pub is : s ≡ number_rows l k d
  pub small : s.next ≤ l + (k - l)
  pub size : length s.new ≡ length d

module _ {l : ℕ} {d : List ℕ} where
  pub counting_none : Counting l d 0 (numbering l d)
  unfolding number_rows
  counting_none = record { is = refl; small = omega arith; size = refl }

  pub counting_more : {k : ℕ} {s u : Numbering} → Counting l d k s → u ≡ number_row l k s → Counting l d (k + 1) u
  unfolding number_rows
  counting_more {k} {s} {u} c e = record {
    is = rw add-one (e ∙ rw c.is);
    small = rw e (go (ltb k l) refl (eqb (get_or s.new k 0) 0));
    size = rw e (grow (ltb k l) (eqb (get_or s.new k 0) 0));
  }
    where
      go : (a : Bool) → ltb k l ≡ a → (b : Bool) → (number_by a b k s).next ≤ l + (k + 1 - l)
      go true e b = omega (arith, c.small)
      go false e true = omega (arith, c.small)
      go false e false = omega (arith, c.small, ltb-false k l e)

      grow : (a b : Bool) → length (number_by a b k s).new ≡ length d
      grow true b = length-set s.new k k ∙ c.size
      grow false true = c.size
      grow false false = length-set s.new k s.next ∙ c.size

-- ---- the numbers of the rules

-- The table and the numbers after k rows are carried.
abbrev pub carried : ℕ → List Row → List ℕ → ℕ → Carried
carried C t x k = carry append (base C) (unchanging C) t x k

-- After k rows: those that are reached have the numbers of the rules, other operation rows have 0, and those to come have marks.
pub record Numbered (C : ℕ) (t : List Row) (x : List ℕ) (k : ℕ) (s : Numbering) : Type 0 where
  pub size : length t ≤ length s.new
  pub next : s.next ≡ length (carried C t x k).tab
  pub reached : (i : ℕ) → i < k → reaches t x i ≡ true → get_or s.new i 0 ≡ get_or (carried C t x k).new i 0
  pub skipped : (i : ℕ) → 2 + C ≤ i → i < k → reaches t x i ≡ false → get_or s.new i 0 ≡ 0
  pub marked : (i : ℕ) → k ≤ i → i < length t → eqb (get_or s.new i 0) 0 ≡ not (reaches t x i)

-- One row more: a leaf that is reached, an operation row that is reached, and one that is not.
module _ {C : ℕ} {t : List Row} (w : Canonical C t) (x : List ℕ) (k : ℕ) (h : k < length t) where
  pub carried-leaf : k < 2 + C → reaches t x k ≡ true
      → carried C t x (suc k) ≡ record { tab = (carried C t x k).tab; new = (carried C t x k).new ++ (k ∷ []) }
  unfolding carry
  carried-leaf p q = ap (carry_row append (unchanging C) (carried C t x k) (row_at t k)) q
      ∙ rw (w.leaf-at k p, unchanging-at C k p)

  pub carried-op : 2 + C ≤ k → reaches t x k ≡ true → carried C t x (suc k) ≡ record {
    tab = (carried C t x k).tab ++ (ren (carried C t x k).new (row_at t k) ∷ []);
    new = (carried C t x k).new ++ (length (carried C t x k).tab ∷ []);
  }
  unfolding carry
  carried-op p q = ap (carry_row append (unchanging C) (carried C t x k) (row_at t k)) q
      ∙ rw (carry-op append (unchanging C) (carried C t x k) k (row_at t k) (canonical-ready w k p h))

  pub carried_none : reaches t x k ≡ false
      → carried C t x (suc k) ≡ record { tab = (carried C t x k).tab; new = (carried C t x k).new ++ (0 ∷ []) }
  unfolding carry
  carried_none q = ap (carry_row append (unchanging C) (carried C t x k) (row_at t k)) q

module _ {C : ℕ} {t : List Row} {x : List ℕ} (w : Canonical C t) where
  numbered-one : (k : ℕ) (s u : Numbering) (a : ℕ) → Numbered C t x k s → k < length t
      → (carried C t x (suc k)).new ≡ (carried C t x k).new ++ (a ∷ [])
      → u.next ≡ length (carried C t x (suc k)).tab → length u.new ≡ length s.new
      → ((i : ℕ) → (i ≡ k → ⊥) → get_or u.new i 0 ≡ get_or s.new i 0)
      → (reaches t x k ≡ true → get_or u.new k 0 ≡ a) → (2 + C ≤ k → reaches t x k ≡ false → get_or u.new k 0 ≡ 0)
      → Numbered C t x (suc k) u
  numbered-one k s u a n h e next size other here none = record {
    size = omega (arith, size, n.size);
    next = next;
    reached = λ i l q. elim (dec_lt i k) [
      | yes p ↦ other i (λ z. omega arith) ∙ n.reached i p q
          ∙ sym (ap (λ l. get_or l i 0) e ∙ snoc_old (carried C t x k).new a k long i p)
      | no p ↦ (let z : i ≡ k = omega arith in rw (z, e, snoc_last (carried C t x k).new a k long) (here (rw z at q)))
    ];
    skipped = λ i g l q. elim (dec_lt i k) [
      | yes p ↦ other i (λ z. omega arith) ∙ n.skipped i g p q
      | no p ↦ (let z : i ≡ k = omega arith in rw z (none (rw z at g) (rw z at q)))
    ];
    marked = λ i g l. rw (other i (λ z. omega arith)) (n.marked i (omega arith) l);
  }
    where
      long : length (carried C t x k).new ≡ k
      long = (packed t x w k (omega arith)).size

  numbered-row : (k : ℕ) (s : Numbering) → Numbered C t x k s → k < length t → Numbered C t x (suc k) (number_row (2 + C) k s)
  numbered-row k s n h = elim (dec_lt k (2 + C)) [
    | yes p ↦ rw (lt-ltb k (2 + C) p) (as_leaf p (reaches t x k) refl)
    | no p ↦ rw (le-ltb k (2 + C) (omega arith), n.marked k (omega arith) h) (as_op (omega arith) (reaches t x k) refl)
  ]
    where
      low : k < length s.new
      low = omega (arith, n.size)

      as_leaf : k < 2 + C → (b : Bool) → reaches t x k ≡ b → Numbered C t x (suc k) (numbering s.next (set s.new k k))
      as_leaf p true q =
          let e = carried-leaf w x k h p q in
          numbered-one k s _ k n h (ap (λ m. m.new) e) (n.next ∙ sym (ap (λ m. length m.tab) e)) (length-set s.new k k)
          (λ i z. get_or-set_other s.new k i k 0 z) (λ z. get_or-set_same s.new k k 0 low) (λ a z. absurd (omega arith))
      as_leaf p false q =
          let e = carried_none w x k h q in
          numbered-one k s _ 0 n h (ap (λ m. m.new) e) (n.next ∙ sym (ap (λ m. length m.tab) e)) (length-set s.new k k)
          (λ i z. get_or-set_other s.new k i k 0 z) (λ z. cc) (λ a z. absurd (omega arith))

      as_op : 2 + C ≤ k → (b : Bool) → reaches t x k ≡ b
          → Numbered C t x (suc k) (cond (not b) s (numbering (s.next + 1) (set s.new k s.next)))
      as_op p true q =
          let e = carried-op w x k h p q in
          let size = ap (λ m. length m.tab) e ∙ length-append (carried C t x k).tab _ in
          numbered-one k s _ (length (carried C t x k).tab) n h (ap (λ m. m.new) e) (omega (arith, n.next, size))
          (length-set s.new k s.next) (λ i z. get_or-set_other s.new k i s.next 0 z)
          (λ z. get_or-set_same s.new k s.next 0 low ∙ n.next) (λ a z. cc)
      as_op p false q =
          let e = carried_none w x k h q in
          numbered-one k s s 0 n h (ap (λ m. m.new) e) (n.next ∙ sym (ap (λ m. length m.tab) e)) refl (λ i z. refl)
          (λ z. cc) (λ a z. eqb-true (get_or s.new k 0) 0 (n.marked k (omega arith) h ∙ ap not q))

-- R36: the rows of a table with marks get the numbers of the rules.
pub numbered : {C : ℕ} {t : List Row} {x marks : List ℕ} → Canonical C t → Reached t x marks → (k : ℕ) → k ≤ length t
    → Numbered C t x k (number_rows (2 + C) k marks)
unfolding number_rows carry
numbered {C} w r zero h = record {
  size = r.size;
  next = sym (length-base C);
  reached = λ i l. absurd (omega arith);
  skipped = λ i g l. absurd (omega arith);
  marked = λ i g l. r.exact i l;
}
numbered {C} {marks = marks} w r (suc k) h =
    numbered-row w k (number_rows (2 + C) k marks) (numbered w r k (omega arith)) (omega arith)

-- R36: once the rows of a table have been marked and numbered, they have the numbers of the rules.
pub table-numbered : {sh : Shape} {x rows marks : List ℕ} {used room C : ℕ} {s : Numbering} (T : Tabled sh x rows used room)
    → C ≡ cells sh
    → Reached (table_in rows used) x marks → s ≡ number_rows (2 + C) used marks
    → Numbered (cells sh) (table_in rows used) x used s
table-numbered {rows = rows} {used = used} T c r q =
    rw (q, c) (numbered T.stands.canonical r used (omega (arith, table-length rows used T.held)))
